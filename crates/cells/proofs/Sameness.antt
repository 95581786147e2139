-- What a leaf kind says of its test, as the unifier takes it.
use Rattle.std.proofs.Common.{◌≡◌, ℕ, Bool, true, false, Decides as Tells, sym, ◌∙◌, arith}
use Rattle.unify.specs.Theorems.{Decides}

pub decided : {L : Type 0} (same : L → L → Bool) → ((x y : L) → Tells (same x y) (x ≡ y)) → Decides same
decided same law = record {
  yields = λ v w e. (law v w).0 e;
  denies = λ v w e p. clashing (sym e ∙ (law v w).1 p);
}
  where
    clashing : false ≡ true → ⊥
    clashing e = let z : ◌≡◌ {A = ℕ} 0 1 = cc in omega arith
