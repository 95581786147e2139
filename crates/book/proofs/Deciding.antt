-- Tests that decide a fact.
use Rattle.std.proofs.Common.{◌≡◌, ℕ, ◌<◌, Bool, true, false, List, [], ◌∷◌, length, Decides, MatchBool, sym, refl, subst, arith}
use Rattle.std.specs.List.{AllByRecursion, AllWithin, HoldsAt}
use Rattle.std.proofs.ByRecursion.{All-get_or, all_from_every}

pub yes_decides : {P : Type 0} → P → Decides true P
yes_decides p = ((λ _. p), λ _. refl)

pub no_decides : {P : Type 0} → (P → ⊥) → Decides false P
no_decides f = ((λ e. let z : ◌≡◌ {A = ℕ} 0 1 = cc in absurd (omega arith)), λ p. absurd (f p))

-- what a test tells that came out true, or false
pub told_yes : {P : Type 0} (r : Bool) → Decides r P → r ≡ true → P
told_yes r d e = d.0 e

pub told_no : {P : Type 0} (r : Bool) → Decides r P → r ≡ false → P → ⊥
told_no r d e p = let t : r ≡ true = d.1 p in let z : ◌≡◌ {A = ℕ} 0 1 = cc in omega arith

-- a test that came out false decides what does not hold
pub false_decides : {P : Type 0} (r : Bool) → r ≡ false → (P → ⊥) → Decides r P
false_decides {P} r e f = subst (λ b. Decides b P) (sym e) (no_decides f)

-- a test decides what follows from its fact, and what its fact follows from
pub decides_by : {P Q : Type 0} (r : Bool) → Decides r P → (P → Q) → (Q → P) → Decides r Q
decides_by r d f b = ((λ t. f (d.0 t)), λ q. d.1 (b q))

-- a test of each item, which ends at the first that fails it, decides whether all pass
pub decides_all : {X : Type 0} (P : X → Type 0) (r : Bool) (xs : List X) →
    MatchBool r (AllWithin P xs 0 (length xs)) ((k : ℕ) × (k < length xs) × HoldsAt (λ x. P x → ⊥) xs k) →
    Decides r (AllByRecursion P xs)
decides_all P true xs h = yes_decides (all_from_every P xs h)
decides_all P false [] h = absurd (omega (arith, h.1))
decides_all P false (x ∷ xs) h = no_decides λ all. h.2 x (All-get_or P (x ∷ xs) h.0 x h.1 all)
