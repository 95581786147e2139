-- A head whose label does not fit the goal's makes unifying clash.
use Rattle.std.proofs.Common.{◌≡◌, ℕ, ◌+◌, ◌<◌, ◌≤◌, Bool, true, false, List, length, Some, sym, ap, ◌∙◌, add-zero, arith}
use Rattle.std.specs.List.{slice_get}
use Rattle.theory.specs.Entries.{Part, PartsRules}
use Rattle.unify.specs.Cells.{Cell, most, content_at, root}
use Rattle.unify.specs.Solved.{Solved}
use Rattle.unify.specs.Unify.{State, clash, start, after, rest, fits, join, unify}
use Rattle.unify.proofs.CellLaws.{joined_past}
use Rattle.unify.proofs.Roots.{root_none, root_ends, root_inside}
use Rattle.unify.proofs.Growth.{root_on}
use Rattle.unify.proofs.Turns.{meet_unfit}
use Rattle.searching.specs.Trying.{content_of, copied}
use Rattle.attempts.proofs.Copying.{copied_solved, joined_copied, content_copied, content_there}

module _ {V : Type 0} (same : V → V → Bool) (old : List (Cell V)) (ok : Solved old) (ps : List (Part V))
    (rules : PartsRules 0 ps) (few : length old + length ps ≤ most) where
  abbrev at : ℕ → ℕ
  at j = length old + j

  abbrev new : List (Cell V)
  new = copied at old ps

  solved : Solved new
  solved = copied_solved (length old) ps 0 old ok (sym (add-zero (length old))) rules few

  -- an old cell has the root that it had
  root_kept : (i : ℕ) → root old i ≡ root new i
  root_kept i = sym (root_on old new (λ j k e. joined_copied at ps old j ∙ e) ok.descends solved.descends i
      ∙ root_none new (root old i) (joined_copied at ps old (root old i) ∙ root_ends old ok.descends i))

  -- a new cell is its own root
  root_new : (k : ℕ) → length old + k ≡ root new (length old + k)
  root_new k = sym (root_none new (length old + k)
      (joined_copied at ps old (length old + k) ∙ joined_past old (length old + k) (omega arith)))

  pub unfit_clash : (goal head : ℕ) → goal < length old → (p : Part V) → slice_get ps head ≡ Some p →
      fits same true (content_at old (root old goal)) (content_of at p) ≡ false →
      (s : State V) × (unify same new goal (length old + head) ≡ clash s)
  unfolding unify join after start
  unfit_clash goal head h p e f =
      let r : ℕ = root old goal in
      let t : ℕ = length old + head in
      let low : r < length old = root_inside old ok.descends ok.few goal h in
      let c : content_at new r ≡ content_at old r = content_copied at ps old r low in
      let d : content_at new t ≡ content_of at p = content_there at ps old head p e in
      let unfit : fits same true (content_at new r) (content_at new t) ≡ false = (λ i. fits same true (c i) (d i)) ∙ f in
      let m = meet_unfit same true (start new) goal t r t (root_kept goal) (root_new head) (λ z. omega (arith, z, low)) unfit in
      (start new, ap (λ x. after x (rest same true)) (sym m))
