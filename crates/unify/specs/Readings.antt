-- The reading of solved cells that has given trees at the open roots. Assumes nothing.
use Rattle.std.specs.Prelude.{◌≡◌, ℕ, List, [], ◌∷◌, length, Some, None, Option}
use Rattle.std.specs.List.{slice_get}
use Rattle.theory.specs.Trees.{Tree, Label}
use Rattle.unify.specs.Cells.{Content, variable, leaf, node, Cell, content_at, joined_at, root}

module _ {V : Type 0} where
  -- the label that a root's content gives, or the given one where it is open
  abbrev pub label_here : Content V → Option (Label V) → Option (Label V)
  label_here variable given = given
  label_here (leaf v) given = Some (Label.leaf v)
  label_here (node f xs) given = Some (Label.node f (length xs))

  -- the label that an argument has, where there is such an argument
  abbrev pub label_of_argument : Option ℕ → (ℕ → Option (Label V)) → Option (Label V)
  label_of_argument None go = None
  label_of_argument (Some x) go = go x

  -- the label somewhere below the k-th argument of a root, or the given one where the root is open
  abbrev pub label_below : Content V → Option (Label V) → ℕ → (ℕ → Option (Label V)) → Option (Label V)
  label_below variable given k go = given
  label_below (leaf v) given k go = None
  label_below (node f xs) given k go = label_of_argument (slice_get xs k) go

  -- at a place, walk down from root to root
  unfoldable pub reading : List (Cell V) → (ℕ → Tree V) → ℕ → Tree V
  reading cells given i [] = label_here (content_at cells (root cells i)) (given (root cells i) [])
  reading cells given i (k ∷ p) =
      label_below (content_at cells (root cells i)) (given (root cells i) (k ∷ p)) k
      (λ x. reading cells given x p)

  -- nothing was written into the cell, and it is joined to no other
  abbrev pub OpenRoot : List (Cell V) → ℕ → Type 0
  OpenRoot cells i = (content_at cells i ≡ variable) × (joined_at cells i ≡ None)
