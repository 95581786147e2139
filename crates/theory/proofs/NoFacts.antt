-- A book in which every entry has a body goal has no finite proofs, and so holds nothing.
use Rattle.std.proofs.Common.{◌<◌, List, length}
use Rattle.std.specs.List.{AllByRecursion}
use Rattle.theory.specs.Trees.{Tree}
use Rattle.theory.specs.Entries.{Entry}
use Rattle.theory.specs.Held.{FiniteProof, by_entry, Held}
use Rattle.theory.proofs.Elements.{all_nth}

module _ {V : Type 0} (book : List (Entry V)) (bodies : AllByRecursion (λ e. 0 < length e.body) book) where
  -- a proof would need one of a body tree, and that another
  no_proof : {t : Tree V} → FiniteProof book t → ⊥
  no_proof (by_entry k e f ι inst same kids) =
      no_proof (kids 0 (all_nth (λ e. 0 < length e.body) book k e bodies f))

  -- the tree that is held would have one
  pub not_held : (t : Tree V) → Held book t → ⊥
  not_held t l = no_proof (l.proved 0)
