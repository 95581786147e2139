-- The lines of a listing, one entry more at the end.
use Rattle.std.proofs.Common.{◌≡◌, ℕ, zero, suc, ◌+◌, ◌<◌, List, [], ◌∷◌, ◌++◌, length, take, Some, None, sym, refl, ap, ◌∙◌, append_assoc, append-nil, add-zero, arith}
use Rattle.theory.specs.Entries.{Entry, Kind, clause, cofact}
use Rattle.book.specs.declared.entry.Outline.{Outline}
use Rattle.book.specs.Answers.{kind_of, of_kind, outline_at, outline_of}
use Rattle.wire.specs.Listings.{entry_line, entry_lines, line_of}

kind_kept : (k : Kind) → kind_of (of_kind k) ≡ k
kind_kept clause = refl
kind_kept cofact = refl

module _ {V : Type 0} where
  -- the line of an entry by its outline
  outlined : (n : ℕ) (e : Entry V) (o : Outline) → outline_of e ≡ o → line_of n (kind_of o.kind) o.cells o.goals ≡ entry_line n e
  outlined n e o h =
      ap (λ x. line_of n (kind_of x.kind) x.cells x.goals) (sym h)
      ∙ ap (λ k. line_of n k (length e.parts) (length e.body)) (kind_kept e.kind)

  lines_from : (n : ℕ) (es : List (Entry V)) (i : ℕ) (o : Outline) → outline_at es i ≡ Some o →
      entry_lines n (take (suc i) es) ≡ entry_lines n (take i es) ++ line_of (n + i) (kind_of o.kind) o.cells o.goals
  lines_from n [] i o h = let z : ◌≡◌ {A = ℕ} 0 1 = cc in absurd (omega arith)
  lines_from n (e ∷ es) zero o h =
      let f : outline_of e ≡ o = cc in
      append-nil (entry_line n e) ∙ sym (outlined n e o f)
      ∙ ap (λ k. line_of k (kind_of o.kind) o.cells o.goals) (sym (add-zero n))
  lines_from n (e ∷ es) (suc i) o h =
      let k : suc n + i ≡ n + suc i = omega arith in
      ap (λ xs. entry_line n e ++ xs) (lines_from (suc n) es i o h)
      ∙ sym (append_assoc (entry_line n e) (entry_lines (suc n) (take i es)) (line_of (suc n + i) (kind_of o.kind) o.cells o.goals))
      ∙ ap (λ j. (entry_line n e ++ entry_lines (suc n) (take i es)) ++ line_of j (kind_of o.kind) o.cells o.goals) k

  -- one line more
  pub one_line_more : (es : List (Entry V)) (i : ℕ) (o : Outline) (text line more : List ℕ) → outline_at es i ≡ Some o →
      text ≡ entry_lines 0 (take i es) → line ≡ line_of i (kind_of o.kind) o.cells o.goals → more ≡ text ++ line →
      more ≡ entry_lines 0 (take (i + 1) es)
  one_line_more es i o text line more h t l m =
      let a : 0 + i ≡ i = omega arith in
      let b : suc i ≡ i + 1 = omega arith in
      m ∙ ap (λ x. x ++ line) t ∙ ap (λ x. entry_lines 0 (take i es) ++ x) l
      ∙ ap (λ j. entry_lines 0 (take i es) ++ line_of j (kind_of o.kind) o.cells o.goals) (sym a)
      ∙ sym (lines_from 0 es i o h) ∙ ap (λ j. entry_lines 0 (take j es)) b

  -- an entry that is there has an outline
  pub has_outline : (es : List (Entry V)) (i : ℕ) → i < length es → outline_at es i ≡ None → ⊥
  has_outline [] i h e = omega arith
  has_outline (x ∷ es) zero h e = let z : ◌≡◌ {A = ℕ} 0 1 = cc in omega arith
  has_outline (x ∷ es) (suc i) h e = has_outline es i (omega arith) e
