-- A step tried over cells that mean what is known and the replay so far.
use Rattle.std.proofs.Common.{◌≡◌, ℕ, ◌+◌, ◌<◌, ◌≤◌, Bool, List, [], ◌∷◌, ◌++◌, map, length, get_or, sym, ap, ◌∙◌, subst, append_assoc, arith}
use mathlib.Core.List.{map-append}
use Rattle.std.specs.List.{slice_get, AllByRecursion}
use Rattle.std.proofs.lemmas.List.{get_or_push}
use Rattle.theory.specs.Trees.{Tree}
use Rattle.theory.specs.Equations.{Equation, equal, rename, Solves, Solvable}
use Rattle.theory.specs.Entries.{Entry, EntryRules, BookRules, instance_of}
use Rattle.theory.specs.Records.{Step, Term, cell, part, Goal, Replay, Replayed, start, step, made}
use Rattle.theory.specs.Records.{expand, close, Leads, together}
use Rattle.theory.specs.Known.{Names, placed}
use Rattle.theory.proofs.Elements.{all_or, all_nth, all_right}
use Rattle.theory.proofs.Readings.{meets_left, meets_right, meets_both, meets_renamed, meets_unrenamed}
use Rattle.theory.proofs.Steps.{Took, clause_step, loop_step, entry_step, took}
use Rattle.theory.proofs.Replays.{leads_push}
use Rattle.theory.proofs.PlacedInstances.{placed_low, placed_solves}
use Rattle.unify.specs.Cells.{Cell, most}
use Rattle.unify.specs.Solved.{Solved}
use Rattle.unify.specs.Unify.{Move, unify}
use Rattle.unify.specs.Theorems.{Decides, Unified}
use Rattle.unify.specs.Meaning.{Means, Equated}
use Rattle.unify.proofs.Constants.{constant, constant_is_tree, other, other_small}
use Rattle.unify.proofs.Unified.{unify_right}
use Rattle.unify.proofs.Meant.{meaning}
use Rattle.searching.specs.Trying.{copied, with_entry, with_step, attempt}
use Rattle.searching.proofs.Scopes.{Within, Scoped, scoped_step, stays, renames_alike, renames_through}
use Rattle.searching.proofs.Copies.{Copies, copies}

-- the first of some goals
first_goal : Goal → List Goal → Goal
first_goal d [] = d
first_goal d (g ∷ gs) = g

-- two lists that are equal begin with one goal
one_goal : (g h : Goal) (gs hs : List Goal) → g ∷ gs ≡ h ∷ hs → g ≡ h
unfolding first_goal
one_goal g h gs hs e = ap (first_goal g) e

-- over what is known of a slate with so many cells in use
module _ {V : Type 0} (known : List (Equation V ℕ)) (used : ℕ) where
  -- what is known, and the equations of the replay over the next cells
  abbrev pub laid_out : Replay V → List (Equation V ℕ)
  laid_out r = known ++ map (rename (placed used r.offsets)) r.equations

  -- a reading of the cells reads the terms of the replay
  back_solves : (m : Replay V) (ρ : ℕ → Tree V) → Solves (laid_out m) ρ →
      Solves (together known m) (λ t. ρ (placed used m.offsets t))
  back_solves m ρ s =
      let v : Term → Tree V = λ t. ρ (placed used m.offsets t) in
      let new : List (Equation V ℕ) = map (rename (placed used m.offsets)) m.equations in
      record {
        trees = λ t. s.trees (placed used m.offsets t);
        meets =
            meets_both v (map (rename cell) known) m.equations
            (meets_renamed cell v known (meets_left ρ known new s.meets))
            (meets_unrenamed (placed used m.offsets) ρ m.equations (meets_right ρ known new s.meets));
      }

  -- so where the cells have a reading, the terms have one
  solvable_back : (m : Replay V) → Solvable (laid_out m) → Solvable (together known m)
  solvable_back m h =
      ∥∥₁_rec squash₁ (λ z. ∣ ((λ t. z.0 (placed used m.offsets t)), back_solves m z.0 z.1) ∣₁) h

  -- one more offset leaves the equations so far as they lie
  old_alike : (r : Replay V) → Scoped r →
      map (rename (placed used (r.offsets ++ (r.cells ∷ [])))) r.equations
      ≡ map (rename (placed used r.offsets)) r.equations
  old_alike r s =
      renames_alike (placed used (r.offsets ++ (r.cells ∷ []))) (placed used r.offsets)
      (Within (length r.taken))
      (λ t w. stays used r.offsets r.cells t (subst (λ k. Within k t) (sym s.lengths) w))
      r.equations s.equations

  -- where the cells of the new instance lie
  new_at : (r : Replay V) → Scoped r → (j : ℕ) →
      placed used (r.offsets ++ (r.cells ∷ [])) (part (length r.taken) j) ≡ used + (r.cells + j)
  new_at r s j =
      ap (λ k. used + (k + j)) (get_or_push r.offsets r.cells 0 (length r.taken) s.lengths)

  -- a term of the replay stays where it lies
  old_at : (r : Replay V) → Scoped r → (t : Term) → Within (length r.taken) t →
      placed used (r.offsets ++ (r.cells ∷ [])) t ≡ placed used r.offsets t
  old_at r s t w = stays used r.offsets r.cells t (subst (λ k. Within k t) (sym s.lengths) w)

  -- the goal that is taken is a term of the replay
  goal_old : (r : Replay V) → Scoped r → (g : Goal) (rest : List Goal) → r.pending ≡ g ∷ rest →
      Within (length r.taken) g.term
  goal_old r s g rest p = (subst (AllByRecursion (λ h. Within (length r.taken) h.term)) p s.pending).0

  -- what is laid out after a step that names an entry
  expand_laid : (r : Replay V) → Scoped r → (g : Goal) (rest : List Goal) (e : Entry V) → r.pending ≡ g ∷ rest →
      (laid_out r ++ map (rename (λ j. used + (r.cells + j))) (instance_of e.parts 0))
      ++ (equal (placed used r.offsets g.term) (used + (r.cells + e.head)) ∷ [])
      ≡ laid_out (expand r g rest e)
  expand_laid r s g rest e p =
      let φ : Term → ℕ = placed used r.offsets in
      let ψ : Term → ℕ = placed used (r.offsets ++ (r.cells ∷ [])) in
      let n : ℕ = length r.taken in
      let old : List (Equation V ℕ) = map (rename φ) r.equations in
      let new : List (Equation V ℕ) = map (rename (λ j. used + (r.cells + j))) (instance_of e.parts 0) in
      let last : List (Equation V ℕ) = equal (φ g.term) (used + (r.cells + e.head)) ∷ [] in
      let a : map (rename ψ) r.equations ≡ old = old_alike r s in
      let b : map (rename ψ) (made n e) ≡ new =
      renames_through ψ (part n) (λ j. used + (r.cells + j)) (new_at r s) (instance_of e.parts 0) in
      let end : List (Equation V Term) = equal g.term (part n e.head) ∷ [] in
      let c : map (rename ψ) end ≡ last =
      λ i. equal (old_at r s g.term (goal_old r s g rest p) i) (new_at r s e.head i) ∷ [] in
      let tail : map (rename ψ) (made n e ++ end) ≡ new ++ last =
      map-append (rename ψ) (made n e) end ∙ (λ i. b i ++ c i) in
      let all : map (rename ψ) (r.equations ++ (made n e ++ end)) ≡ old ++ (new ++ last) =
      map-append (rename ψ) r.equations (made n e ++ end) ∙ (λ i. a i ++ tail i) in
      append_assoc (known ++ old) new last
      ∙ (append_assoc known old (new ++ last) ∙ ap (λ l. known ++ l) (sym all))

  -- what is laid out after a step that closes a loop
  close_laid : (r : Replay V) → Scoped r → (g : Goal) (rest : List Goal) (n : ℕ) → r.pending ≡ g ∷ rest →
      laid_out r ++ (equal (placed used r.offsets g.term)
      (placed used r.offsets (get_or r.taken n g.term)) ∷ [])
      ≡ laid_out (close r g rest n)
  close_laid r s g rest n p =
      let φ : Term → ℕ = placed used r.offsets in
      let ψ : Term → ℕ = placed used (r.offsets ++ (r.cells ∷ [])) in
      let old : List (Equation V ℕ) = map (rename φ) r.equations in
      let t : Term = get_or r.taken n g.term in
      let w : Within (length r.taken) g.term = goal_old r s g rest p in
      let u : Within (length r.taken) t =
      all_or (Within (length r.taken)) r.taken g.term s.taken w n in
      let a : map (rename ψ) r.equations ≡ old = old_alike r s in
      let end : List (Equation V Term) = equal g.term t ∷ [] in
      let last : List (Equation V ℕ) = equal (φ g.term) (φ t) ∷ [] in
      let c : map (rename ψ) end ≡ last =
      λ i. equal (old_at r s g.term w i) (old_at r s t u i) ∷ [] in
      let all : map (rename ψ) (r.equations ++ end) ≡ old ++ last =
      map-append (rename ψ) r.equations end ∙ (λ i. a i ++ c i) in
      append_assoc known old last ∙ ap (λ l. known ++ l) (sym all)

-- over a book that keeps the rules, and goals in use
module _ {V : Type 0} (same : V → V → Bool) (law : Decides same) (book : List (Entry V)) (rules : BookRules book)
    (known : List (Equation V ℕ)) (used : ℕ) (low : AllByRecursion (Names (λ c. c < used)) known)
    (goals : List ℕ) (in_use : AllByRecursion (λ g. g < used) goals) where
  -- the steps lead to the replay, and the cells mean what is known and the replay
  pub record Keeps (r : Replay V) (xs : List Step) (cells : List (Cell V)) : Type 0 where
    pub leads : Leads book (start goals) xs r
    pub scoped : Scoped r
    pub solved : Solved cells
    pub number : length cells ≡ used + r.cells
    pub means : Means cells (laid_out known used r)

  -- what a try comes to: it stands over cells that are kept, or leaves no reading
  abbrev pub Comes : Replay V → List Step → Move V → Type 0
  Comes m xs (Move.went t) = Solvable (together known m) × Keeps m xs t.cells
  Comes m xs (Move.clash t) = Solvable (together known m) → ⊥

  -- where the terms have a reading, the cells have one
  solvable_there : (m : Replay V) (xs : List Step) → Leads book (start goals) xs m →
      Solvable (together known m) → Solvable (laid_out known used m)
  solvable_there m xs l h =
      ∥∥₁_rec squash₁ (λ z. ∣ placed_solves used z.0 z.1.trees book rules goals in_use xs m l known low
      z.1.meets ∣₁) h

  -- some reading
  abbrev any_tree : Term → Tree V
  any_tree t = constant (other 0)

  -- the terms of a replay lie in cells
  low_terms : (m : Replay V) (xs : List Step) → Leads book (start goals) xs m →
      AllByRecursion (Names (λ x. placed used m.offsets x < used + m.cells)) m.equations
  low_terms m xs l =
      placed_low used any_tree (λ t. constant_is_tree (other 0) (other_small 0)) book rules goals in_use xs m l

  -- a try by the unifier
  by_unify : (m : Replay V) (xs : List Step) → Leads book (start goals) xs m → Scoped m →
      (cells : List (Cell V)) (es : List (Equation V ℕ)) (a b : ℕ) → Solved cells → Means cells es →
      es ++ (equal a b ∷ []) ≡ laid_out known used m → a < length cells → b < length cells →
      length cells ≡ used + m.cells → Comes m xs (unify same cells a b)
  by_unify m xs l s cells es a b ok means q ha hb n =
      go (unify same cells a b) (unify_right same law cells ok a b ha hb)
      ((meaning V).equated same law cells es ok means a b ha hb)
    where
      go : (t : Move V) → Unified cells a b t → Equated (es ++ (equal a b ∷ [])) t → Comes m xs t
      go (Move.went t) u e = (
        solvable_back known used m (subst Solvable q e.0),
        record {
          leads = l;
          scoped = s;
          solved = u.solved;
          number = u.contents.number ∙ n;
          means = subst (Means t.cells) q e.1;
        },
      )
      go (Move.clash t) u e = λ h. e (subst Solvable (sym q) (solvable_there m xs l h))

  -- a step that names an entry
  with_entry_right : (r : Replay V) (xs : List Step) (cells : List (Cell V)) → Keeps r xs cells →
      (g : Goal) (rest : List Goal) (e : Entry V) → r.pending ≡ g ∷ rest → EntryRules e → (ys : List Step) →
      Leads book (start goals) ys (expand r g rest e) → Scoped (expand r g rest e) →
      used + (r.cells + length e.parts) ≤ most →
      Comes (expand r g rest e) ys
      (unify same (copied (λ j. used + (r.cells + j)) cells e.parts) (placed used r.offsets g.term)
      (used + (r.cells + e.head)))
  with_entry_right r xs cells k g rest e p er ys l s h =
      let m : Replay V = expand r g rest e in
      let n : ℕ = length r.taken in
      let num : length cells ≡ used + r.cells = k.number in
      let c : Copies used r.cells cells (laid_out known used r) 0 e.parts =
      copies used r.cells e.parts 0 cells (laid_out known used r) k.solved k.means (omega arith)
      er.parts (omega arith) in
      let size : length (copied (λ j. used + (r.cells + j)) cells e.parts) ≡ length cells + length e.parts =
      c.number in
      let end : List (Equation V Term) = equal g.term (part n e.head) ∷ [] in
      let ends : AllByRecursion (Names (λ x. placed used m.offsets x < used + m.cells)) end =
      all_right (Names (λ x. placed used m.offsets x < used + m.cells)) (made n e) end
      (all_right (Names (λ x. placed used m.offsets x < used + m.cells)) r.equations (made n e ++ end)
      (low_terms m ys l)) in
      let ga : placed used r.offsets g.term < used + (r.cells + length e.parts) =
      subst (λ j. j < used + (r.cells + length e.parts))
      (old_at known used r k.scoped g.term (goal_old known used r k.scoped g rest p)) ends.0.0 in
      let hb : used + (r.cells + e.head) < used + (r.cells + length e.parts) =
      subst (λ j. j < used + (r.cells + length e.parts)) (new_at known used r k.scoped e.head)
      ends.0.1 in
      by_unify m ys l s (copied (λ j. used + (r.cells + j)) cells e.parts)
      (laid_out known used r ++ map (rename (λ j. used + (r.cells + j))) (instance_of e.parts 0))
      (placed used r.offsets g.term) (used + (r.cells + e.head)) c.solved c.means
      (expand_laid known used r k.scoped g rest e p) (omega arith) (omega arith) (omega arith)

  -- a step that closes a loop
  with_step_right : (r : Replay V) (xs : List Step) (cells : List (Cell V)) → Keeps r xs cells →
      (g : Goal) (rest : List Goal) (n : ℕ) → r.pending ≡ g ∷ rest → (ys : List Step) →
      Leads book (start goals) ys (close r g rest n) → Scoped (close r g rest n) →
      Comes (close r g rest n) ys
      (unify same cells (placed used r.offsets g.term)
      (placed used r.offsets (get_or r.taken n g.term)))
  with_step_right r xs cells k g rest n p ys l s =
      let m : Replay V = close r g rest n in
      let t : Term = get_or r.taken n g.term in
      let num : length cells ≡ used + r.cells = k.number in
      let w : Within (length r.taken) g.term = goal_old known used r k.scoped g rest p in
      let u : Within (length r.taken) t =
      all_or (Within (length r.taken)) r.taken g.term k.scoped.taken w n in
      let end : List (Equation V Term) = equal g.term t ∷ [] in
      let ends : AllByRecursion (Names (λ x. placed used m.offsets x < used + m.cells)) end =
      all_right (Names (λ x. placed used m.offsets x < used + m.cells)) r.equations end
      (low_terms m ys l) in
      let ga : placed used r.offsets g.term < used + r.cells =
      subst (λ j. j < used + r.cells) (old_at known used r k.scoped g.term w) ends.0.0 in
      let hb : placed used r.offsets t < used + r.cells =
      subst (λ j. j < used + r.cells) (old_at known used r k.scoped t u) ends.0.1 in
      by_unify m ys l s cells (laid_out known used r) (placed used r.offsets g.term)
      (placed used r.offsets t) k.solved k.means (close_laid known used r k.scoped g rest n p)
      (omega arith) (omega arith) num

  -- a step of any form, for its own first goal
  took_right : (r : Replay V) (xs : List Step) (cells : List (Cell V)) → Keeps r xs cells →
      (g : Goal) (rest : List Goal) → r.pending ≡ g ∷ rest → (ys : List Step) (x : Step) (m : Replay V) →
      Took book r x m → Leads book (start goals) ys m → Scoped m → used + m.cells ≤ most →
      Comes m ys (attempt same book used cells r g x.mode x.number)
  unfolding attempt with_entry with_step
  took_right r xs cells k g rest p ys x m (clause_step h hs n e q i f c) l s b =
      subst (λ z. Comes (expand r h hs e) ys (with_entry same book used cells r z (slice_get book n)))
      (one_goal h g hs rest (sym q ∙ p))
      (subst (λ z. Comes (expand r h hs e) ys (with_entry same book used cells r h z)) (sym f)
      (with_entry_right r xs cells k h hs e q (all_nth EntryRules book n e rules.entries f) ys l s b))
  took_right r xs cells k g rest p ys x m (loop_step h hs n q i f) l s b =
      subst (λ z. Comes (close r h hs n) ys (with_step same book used cells r z n))
      (one_goal h g hs rest (sym q ∙ p)) (with_step_right r xs cells k h hs n q ys l s)
  took_right r xs cells k g rest p ys x m (entry_step h hs n e q i f) l s b =
      subst (λ z. Comes (expand r h hs e) ys (with_entry same book used cells r z (slice_get book n)))
      (one_goal h g hs rest (sym q ∙ p))
      (subst (λ z. Comes (expand r h hs e) ys (with_entry same book used cells r h z)) (sym f)
      (with_entry_right r xs cells k h hs e q (all_nth EntryRules book n e rules.entries f) ys l s b))

  -- a step that breaks no rule, and whose instance fits
  pub attempt_right : (r : Replay V) (xs : List Step) (cells : List (Cell V)) → Keeps r xs cells →
      (g : Goal) (rest : List Goal) → r.pending ≡ g ∷ rest → (x : Step) (m : Replay V) →
      step book r x ≡ Replayed.went m → used + m.cells ≤ most →
      Comes m (xs ++ (x ∷ [])) (attempt same book used cells r g x.mode x.number)
  attempt_right r xs cells k g rest p x m e b =
      let t : Took book r x m = took book r x m e in
      took_right r xs cells k g rest p (xs ++ (x ∷ [])) x m t
      (leads_push book (start goals) xs r x m k.leads e) (scoped_step book r x m t k.scoped) b
