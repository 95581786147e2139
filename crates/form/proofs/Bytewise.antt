-- A test of every number tells of them all.
use Rattle.std.proofs.Common.{ℕ, Bool, List, Decides, refl}
use Rattle.std.specs.List.{AllByRecursion, list_all}
use Rattle.std.proofs.ByRecursion.{Decides-by_and}

pub all_decides : (test : ℕ → Bool) (P : ℕ → Type 0) → ((n : ℕ) → Decides (test n) (P n)) → (ns : List ℕ) →
    Decides (list_all test ns) (AllByRecursion P ns)
all_decides test P tells ns = Decides-by_and test P (list_all test) tells refl (λ _ _. refl) ns
