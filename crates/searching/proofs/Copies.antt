-- Parts copied into the next cells leave them solved, and meaning what the instance owes.
use Rattle.std.proofs.Common.{◌≡◌, ℕ, suc, ◌+◌, ◌<◌, ◌≤◌, List, [], ◌∷◌, ◌++◌, map, length, sym, ap, ◌∙◌, subst, append_assoc, append-nil, arith}
use Rattle.std.proofs.ByRecursion.{All-weaker, All-map}
use Rattle.theory.specs.Equations.{Equation, is_leaf, is_node, rename}
use Rattle.theory.specs.Entries.{Part, PartRules, PartsRules, instance_of}
use Rattle.unify.specs.Cells.{Content, Cell, most}
use Rattle.unify.specs.Solved.{and_content, Solved}
use Rattle.unify.specs.Writing.{write, Writable, Wrote}
use Rattle.unify.specs.Meaning.{Means}
use Rattle.unify.proofs.Written.{writing, length_write}
use Rattle.unify.proofs.Meant.{meaning}
use Rattle.searching.specs.Trying.{content_of, copied}

-- where the j-th cell is copied to
abbrev there : ℕ → ℕ → ℕ → ℕ
there b c j = b + (c + j)

module _ {V : Type 0} (b c : ℕ) where
  -- what is written may be written
  writable : (cells : List (Cell V)) (j : ℕ) → length cells ≡ (b + (c + j)) → (p : Part V) → PartRules j p →
      Writable cells (content_of (there b c) p)
  unfolding content_of
  writable cells j n Part.variable r = tt
  writable cells j n (Part.leaf v) r = tt
  writable cells j n (Part.node f args) r = (
    r.0,
    All-map (λ x. x < length cells) (there b c) args
        (All-weaker (λ a. a < j) (λ a. (b + (c + a)) < length cells) (λ a h. omega arith) args r.2),
  )

  -- what one more cell states, before what the others owe
  new_front : (es : List (Equation V ℕ)) (j n : ℕ) → n ≡ (b + (c + j)) → (p : Part V) (ps : List (Part V)) →
      (es ++ and_content n (content_of (there b c) p) []) ++ map (rename (there b c)) (instance_of ps (suc j))
      ≡ es ++ map (rename (there b c)) (instance_of (p ∷ ps) j)
  unfolding content_of
  new_front es j n e Part.variable ps =
      ap (λ l. l ++ map (rename (there b c)) (instance_of ps (suc j))) (append-nil es)
  new_front es j n e (Part.leaf v) ps =
      append_assoc es (is_leaf n v ∷ []) (map (rename (there b c)) (instance_of ps (suc j)))
      ∙ ap (λ k. es ++ (is_leaf k v ∷ map (rename (there b c)) (instance_of ps (suc j)))) e
  new_front es j n e (Part.node f args) ps =
      append_assoc es (is_node n f (map (there b c) args) ∷ []) (map (rename (there b c)) (instance_of ps (suc j)))
      ∙ ap (λ k. es ++ (is_node k f (map (there b c) args) ∷ map (rename (there b c)) (instance_of ps (suc j))))
      e

  -- what the copy comes to
  pub record Copies (cells : List (Cell V)) (es : List (Equation V ℕ)) (j : ℕ) (ps : List (Part V)) : Type 0 where
    pub solved : Solved (copied (there b c) cells ps)
    pub number : length (copied (there b c) cells ps) ≡ length cells + length ps
    pub means : Means (copied (there b c) cells ps) (es ++ map (rename (there b c)) (instance_of ps j))

  -- the copy of parts that keep the rules
  pub copies : (ps : List (Part V)) (j : ℕ) (cells : List (Cell V)) (es : List (Equation V ℕ)) → Solved cells →
      Means cells es → length cells ≡ (b + (c + j)) → PartsRules j ps → length cells + length ps ≤ most →
      Copies cells es j ps
  unfolding copied
  copies [] j cells es ok means n r h = record {
    solved = ok;
    number = omega arith;
    means = subst (Means cells) (sym (append-nil es)) means;
  }
  copies (p ∷ ps) j cells es ok means n r h =
      let q : Content V = content_of (there b c) p in
      let room : length cells < most = omega arith in
      let w : Wrote cells q = (writing V).one_more cells ok room q (writable cells j n p r.0) in
      let l : length (write cells q) ≡ length cells + 1 = omega (arith, length_write cells q) in
      let i : Copies (write cells q) (es ++ and_content (length cells) q []) (suc j) ps =
      copies ps (suc j) (write cells q) (es ++ and_content (length cells) q []) w.solved
      ((meaning V).written cells es means q) (omega arith) r.1 (omega arith) in
      record {
        solved = i.solved;
        number = i.number ∙ (ap (λ k. k + length ps) l ∙ omega arith);
        means =
            subst (Means (copied (there b c) (write cells q) ps)) (new_front es j (length cells) n p ps)
            i.means;
      }
