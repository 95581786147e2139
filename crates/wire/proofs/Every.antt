-- The tests of a field that go through its bytes, and the facts that they decide.
use Rattle.std.proofs.Common.{◌≡◌, ℕ, zero, suc, ◌<◌, Bool, false, ◌&&◌, ltb, List, [], ◌∷◌, get_or, Decides, sym, refl, ap, ◌∙◌}
use Rattle.std.specs.List.{AllByRecursion, list_all}
use Rattle.std.proofs.lemmas.Bool.Decides.{Decides-ltb, same_from_decides}
use Rattle.theory.specs.Entries.{Part, variable, leaf, node}
use Rattle.form.proofs.Bytewise.{all_decides}
use Rattle.form.specs.Meanings.{node_at}
use Rattle.wire.specs.Marks.{marks_of}

-- the numbers are below another
pub every_below : (limit : ℕ) (xs : List ℕ) (r : Bool) → Decides r (AllByRecursion (λ n. n < limit) xs) → list_all (λ n. ltb n limit) xs ≡ r
every_below limit xs r d =
    same_from_decides (list_all (λ n. ltb n limit) xs) r (all_decides (λ n. ltb n limit) (λ n. n < limit) (λ n. Decides-ltb n limit) xs) d

-- tests that agree on every number
every_same : (f g : ℕ → Bool) → ((n : ℕ) → f n ≡ g n) → (xs : List ℕ) → list_all f xs ≡ list_all g xs
every_same f g same [] = refl
every_same f g same (x ∷ xs) = ap (λ b. b && list_all f xs) (same x) ∙ ap (λ b. g x && b) (every_same f g same xs)

-- the mark of a cell says whether it is a node
mark_is : {V : Type 0} (ps : List (Part V)) (n : ℕ) → get_or (marks_of ps) n false ≡ node_at ps n
mark_is [] n = refl
mark_is (variable ∷ ps) zero = refl
mark_is (leaf v ∷ ps) zero = refl
mark_is (node f xs ∷ ps) zero = refl
mark_is (p ∷ ps) (suc n) = mark_is ps n

-- the cells with those numbers are nodes just where they are marked
pub every_marked : {V : Type 0} (ps : List (Part V)) (marks : List Bool) → marks_of ps ≡ marks → (xs : List ℕ) →
    list_all (node_at ps) xs ≡ list_all (λ n. get_or marks n false) xs
every_marked ps marks e xs =
    sym (every_same (λ n. get_or (marks_of ps) n false) (node_at ps) (mark_is ps) xs) ∙ ap (λ ms. list_all (λ n. get_or ms n false) xs) e
