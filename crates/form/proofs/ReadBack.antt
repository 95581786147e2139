-- Reading back what was written: the form of a book means that book.
use Rattle.std.proofs.Common.{◌≡◌, ℕ, suc, ◌+◌, ◌*◌, ◌/◌, ◌%◌, ◌<◌, ◌≤◌, true, false, not, eqb, ltb, leb, List, [], ◌∷◌, ◌++◌, map, length, Some, None, Option, sym, refl, ap, ◌∙◌, subst, append_assoc, append-nil, arith}
use Rattle.std.specs.List.{AllByRecursion, slice_get, list_all}
use Rattle.std.proofs.lemmas.List.{length_push}
use Rattle.std.proofs.lemmas.Bool.{le-leb, lt-leb, eq-eqb, and_from, not_from_true, cond-false}
use Rattle.leaf.specs.Bytes.{two_bytes}
use Rattle.theory.specs.Entries.{Entry, Kind, clause, cofact, Part, variable, leaf, node, BodyRule, PartRules, PartsRules, IsNode, EntryRules, BookRules}
use Rattle.form.specs.declared.fault.Cause.TheVariants.{WrongLength, WrongCell, TooMuch}
use Rattle.form.specs.Fields.{Row}
use Rattle.form.specs.Forms.{entry_tag, contents_form, book_form}
use Rattle.form.specs.Meanings.{Test, shape, entry_kind, between, Seen, wrong, cell, goals, complete, entry, fault, row_fault, next_place, node_at, judged, leaf_seen, goals_end, on_seen, closed, on_found, seen, ending, ending_of, found, row_means, meaning}
use Rattle.std.proofs.lemmas.Bool.Decides.{Decides-ltb}
use Rattle.form.proofs.Bytewise.{all_decides}
use Rattle.form.proofs.PartFields.{goals_cell, part_field, entry_fields, entry_field, cut_book, cut_entry}
use Rattle.form.proofs.Sights.{node_decides}
use Rattle.form.proofs.Steps.{meaning_short}

module _ {V : Type 0} where
  -- what fails no test is what it is
  judged_good : (ts : List Test) (s : Seen V) → AllByRecursion (λ t. t.fails ≡ false) ts → judged ts s ≡ s
  judged_good [] s a = refl
  judged_good (t ∷ ts) s a = cond-false t.fails (wrong t.cause) (judged ts s) a.0 ∙ judged_good ts s a.1

  closed_back : (k : Kind) (place n : ℕ) (ps : List (Part V)) (head : ℕ) (body : List ℕ) → BodyRule k body →
      closed k place n (complete ps head body) ≡ entry (record { kind = k; parts = ps; head = head; body = body })
  closed_back clause place n ps head body h = refl
  closed_back cofact place n ps head [] h = refl
  closed_back cofact place n ps head (b ∷ body) h = let z : ◌≡◌ {A = ℕ} 0 1 = cc in absurd (omega arith)

kind_back : (k : Kind) → entry_kind (entry_tag k) ≡ Some k
kind_back clause = refl
kind_back cofact = refl

module _ {V : Type 0} (wide : ℕ) (written : V → List ℕ) (reading : List ℕ → Option V) (narrow : wide ≤ 16)
    (even : (v : V) → length (written v) ≡ wide) (rereads : (v : V) → reading (written v) ≡ Some v) where
  -- the field of a cell is taken for that cell
  seen_cell : (ps : List (Part V)) (p : Part V) → length ps < 64 → PartRules (length ps) p →
      seen wide reading ps (part_field written p).contents (shape (part_field written p).tag) ≡ cell p
  seen_cell ps variable few r =
      judged_good
      (record { cause = WrongLength; fails = false } ∷ record { cause = TooMuch; fails = leb 64 (length ps) } ∷ [])
      (cell variable) (refl, (lt-leb 64 (length ps) few, tt))
  seen_cell ps (leaf v) few r =
      judged_good
      (record { cause = WrongLength; fails = not (eqb (length (written v)) wide) }
      ∷ record { cause = TooMuch; fails = leb 64 (length ps) } ∷ [])
      (leaf_seen (reading (written v))) (
        not_from_true (eqb (length (written v)) wide) (eq-eqb (length (written v)) wide (even v)),
        (lt-leb 64 (length ps) few, tt),
      )
      ∙ ap leaf_seen (rereads v)
  seen_cell ps (node f args) few r =
      let bs = two_bytes f ++ args in
      let n = length bs in
      let arity : length args ≤ 4 = r.1 in
      let long : leb 2 n ≡ true = le-leb 2 n (omega arith) in
      let short : leb n 6 ≡ true = le-leb n 6 (omega arith) in
      let symbol : f / 256 * 256 + f % 256 ≡ f = omega arith in
      judged_good
      (record { cause = WrongLength; fails = not (between 2 n 6) }
      ∷ record { cause = TooMuch; fails = leb 64 (length ps) }
      ∷ record { cause = WrongCell; fails = not (list_all (λ a. ltb a (length ps)) args) } ∷ [])
      (cell (node (f / 256 * 256 + f % 256) args)) (
        not_from_true (between 2 n 6) (and_from (leb 2 n) (leb n 6) long short),
        (
          lt-leb 64 (length ps) few,
          (
            not_from_true (list_all (λ a. ltb a (length ps)) args)
                ((all_decides (λ a. ltb a (length ps)) (λ a. a < length ps) (λ a. Decides-ltb a (length ps)) args).1 r.2),
            tt,
          ),
        ),
      )
      ∙ ap (λ g. cell (node g args)) symbol

  -- the field of the goals is taken for those goals
  seen_goals : (ps : List (Part V)) (head : ℕ) (body : List ℕ) → length body ≤ 8 → IsNode (slice_get ps head) →
      AllByRecursion (λ b. IsNode (slice_get ps b)) body → seen wide reading ps (head ∷ body) (shape 19) ≡ goals head body
  seen_goals ps head body few h hs =
      let n = length (head ∷ body) in
      judged_good
      (record { cause = WrongLength; fails = not (between 1 n 9) }
      ∷ record { cause = WrongCell; fails = not (list_all (node_at ps) (head ∷ body)) } ∷ [])
      (goals head body) (
        not_from_true (between 1 n 9)
            (and_from (leb 1 n) (leb n 9) (le-leb 1 n (omega arith)) (le-leb n 9 (omega arith))),
        (
          not_from_true (list_all (node_at ps) (head ∷ body))
              ((all_decides (node_at ps) (λ b. IsNode (slice_get ps b)) (node_decides ps) (head ∷ body)).1 (h, hs)),
          tt,
        ),
      )

  -- the fields of an entry, after some of its cells, complete it
  ending_back : (ps qs : List (Part V)) (place head : ℕ) (body : List ℕ) → length ps + length qs ≤ 64 →
      PartsRules (length ps) qs → length body ≤ 8 → IsNode (slice_get (ps ++ qs) head) →
      AllByRecursion (λ b. IsNode (slice_get (ps ++ qs) b)) body →
      ending wide reading ps place (entry_fields written qs head body) [] ≡ complete (ps ++ qs) head body
  ending_back ps [] place head body few r short h hs =
      let e = append-nil ps in
      ap (λ s. on_seen s place (λ p. ending wide reading (ps ++ p ∷ []) (next_place place (goals_cell head body)) [] [])
      (λ head body. goals_end ps head body (next_place place (goals_cell head body)) [] []))
      (seen_goals ps head body short (subst (λ xs. IsNode (slice_get xs head)) e h)
      (subst (λ xs. AllByRecursion (λ b. IsNode (slice_get xs b)) body) e hs))
      ∙ ap (λ xs. complete xs head body) (sym e)
  ending_back ps (q ∷ qs) place head body few r short h hs =
      let f = part_field written q in
      let rest = entry_fields written qs head body in
      let e : (ps ++ q ∷ []) ++ qs ≡ ps ++ q ∷ qs = append_assoc ps (q ∷ []) qs in
      let n : length (ps ++ q ∷ []) ≡ length ps + 1 = length_push ps q in
      let m : suc (length ps) ≡ length (ps ++ q ∷ []) = omega arith in
      ap (λ s. on_seen s place (λ p. ending wide reading (ps ++ p ∷ []) (next_place place f) rest [])
      (λ head body. goals_end ps head body (next_place place f) rest []))
      (seen_cell ps q (omega arith) r.0)
      ∙ ending_back (ps ++ q ∷ []) qs (next_place place f) head body (omega arith)
      (subst (λ j. PartsRules j qs) m r.1) short (subst (λ xs. IsNode (slice_get xs head)) (sym e) h)
      (subst (λ xs. AllByRecursion (λ b. IsNode (slice_get xs b)) body) (sym e) hs)
      ∙ ap (λ xs. complete xs head body) e

  -- the field of an entry is found to be that entry
  found_back : (place n : ℕ) (e : Entry V) → n < 1024 → EntryRules e →
      found wide reading place n (entry_field written e) (entry_kind (entry_field written e).tag) ≡ entry e
  found_back place n e few r =
      let f = entry_field written e in
      let cs = contents_form written e in
      let end : ending_of wide reading [] (place + 3) cs ≡ complete e.parts e.head e.body =
      ap (λ (x : Row). ending wide reading [] (place + 3) x.fields x.left)
      (cut_entry written wide narrow even e r)
      ∙ ending_back [] e.parts (place + 3) e.head e.body (omega (arith, r.few_parts)) r.parts
      r.few_goals r.head r.goals in
      ap (found wide reading place n f) (kind_back e.kind)
      ∙ cond-false (leb 1024 n) (fault (row_fault TooMuch place n))
      (closed e.kind place n (ending_of wide reading [] (place + 3) (contents_form written e))) (lt-leb 1024 n few)
      ∙ ap (closed e.kind place n) end
      ∙ closed_back e.kind place n e.parts e.head e.body r.no_body

  means_back : (place n : ℕ) (es : List (Entry V)) → n + length es ≤ 1024 → AllByRecursion EntryRules es →
      row_means wide reading place n (map (entry_field written) es) [] ≡ record { entries = es; first_fault = None }
  means_back place n [] few r = refl
  means_back place n (e ∷ es) few r =
      let f = entry_field written e in
      ap (λ x. on_found x (row_means wide reading (next_place place f) (suc n) (map (entry_field written) es) []))
      (found_back place n e (omega arith) r.0)
      ∙ ap (on_found (entry e)) (means_back (next_place place f) (suc n) es (omega arith) r.1)

  -- the form of a book, if it has no more bytes than may be, means that book
  pub read_back : (es : List (Entry V)) → BookRules es → length (book_form written es) ≤ 65535 →
      meaning wide reading (book_form written es) ≡ record { entries = es; first_fault = None }
  read_back es r h =
      meaning_short wide reading (book_form written es) h
      ∙ ap (λ (x : Row). row_means wide reading 0 0 x.fields x.left) (cut_book written es h)
      ∙ means_back 0 0 es (omega (arith, r.few)) r.entries
