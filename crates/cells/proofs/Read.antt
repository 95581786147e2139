-- What is read from the cells is what the logic has there.
use Rattle.std.proofs.Common.{◌≡◌, ℕ, zero, suc, ◌<◌, List, [], ◌∷◌, length, get_or, set, refl, ap, le_of_suc-le-suc, not-suc-le-zero}
use Rattle.cells.specs.declared.cell.Cell.{Cell}
use Rattle.cells.specs.Cells.{cell_of, cells_of, content_of, Counted, AllCounted}
use Rattle.unify.specs.Cells.{joined_at, content_at, rejoin}

pub joined_read : {L : Type 0} (cs : List (Cell L)) (i : ℕ) (c : Cell L) → i < length cs → (get_or cs i c).joined ≡ joined_at (cells_of cs) i
unfolding joined_at
joined_read [] i c h = absurd (not-suc-le-zero h)
joined_read (d ∷ cs) zero c h = refl
joined_read (d ∷ cs) (suc i) c h = joined_read cs i c (le_of_suc-le-suc h)

pub content_read : {L : Type 0} (cs : List (Cell L)) (i : ℕ) (c : Cell L) → i < length cs →
    content_of (get_or cs i c).content ≡ content_at (cells_of cs) i
unfolding content_at
content_read [] i c h = absurd (not-suc-le-zero h)
content_read (d ∷ cs) zero c h = refl
content_read (d ∷ cs) (suc i) c h = content_read cs i c (le_of_suc-le-suc h)

pub counted_read : {L : Type 0} (cs : List (Cell L)) (i : ℕ) (c : Cell L) → i < length cs →
    AllCounted cs → Counted (get_or cs i c).content
counted_read [] i c h a = absurd (not-suc-le-zero h)
counted_read (d ∷ cs) zero c h a = a.0
counted_read (d ∷ cs) (suc i) c h a = counted_read cs i c (le_of_suc-le-suc h) a.1

pub set_rejoin : {L : Type 0} (cs : List (Cell L)) (i : ℕ) (c : Cell L) → i < length cs → content_of
    c.content ≡ content_at (cells_of cs) i →
    cells_of (set cs i c) ≡ rejoin (cells_of cs) i c.joined
unfolding content_at rejoin
set_rejoin [] i c h e = absurd (not-suc-le-zero h)
set_rejoin (d ∷ cs) zero c h e = λ k. record { content = e k; joined = c.joined } ∷ cells_of cs
set_rejoin (d ∷ cs) (suc i) c h e = ap (λ l. cell_of d ∷ l) (set_rejoin cs i c (le_of_suc-le-suc h) e)
