-- What options and results hold.
use Rattle.std.proofs.Common.{◌≡◌, ℕ, Some, None, Ok, Err, Option, Result, sym, refl, subst, IsOk, IsSome, MatchOption, MatchResult, arith}
use Rattle.std.specs.Option.{ok_or}
use Rattle.std.specs.Result.{result_err}

-- the error of a result, where it says in each case what an option is
pub err_is : {T E : Type 0} (r : Result T E) (o : Option E) → MatchResult r (λ _. o ≡ None) (λ f. o ≡ Some f) → result_err r ≡ o
err_is (Ok x) o h = sym h
err_is (Err f) o h = sym h

-- the error that a missing value is given
pub missing_is : {T E : Type 0} (o : Option T) (e f : E) → o ≡ None → ◌≡◌ {A = Result T E} (Err f) (ok_or o e) → f ≡ e
missing_is None e f n h = cc
missing_is (Some x) e f n h = let z : ◌≡◌ {A = ℕ} 0 1 = cc in absurd (omega arith)

-- what is known of an option's value, where there is one, and where there is none
pub some_is : {T : Type 0} (N : Type 0) (S : T → Type 0) (o : Option T) (x : T) → o ≡ Some x → MatchOption o N S → S x
some_is N S None x e h = let z : ◌≡◌ {A = ℕ} 0 1 = cc in absurd (omega arith)
some_is N S (Some y) x e h = let same : y ≡ x = cc in subst S same h

pub none_is : {T : Type 0} (N : Type 0) (S : T → Type 0) (o : Option T) → o ≡ None → MatchOption o N S → N
none_is N S None e h = h
none_is N S (Some y) e h = let z : ◌≡◌ {A = ℕ} 0 1 = cc in absurd (omega arith)

-- a value that is not missing
pub is_there : {T : Type 0} (o : Option T) → (o ≡ None → ⊥) → IsSome o
is_there None h = absurd (h refl)
is_there (Some x) h = refl

-- a result whose fault cannot be
pub is_fine : {T E : Type 0} (S : T → Type 0) (N : E → Type 0) (r : Result T E) → MatchResult r S N → ((e : E) → N e → ⊥) → IsOk r
is_fine S N (Ok x) h n = refl
is_fine S N (Err e) h n = absurd (n e h)

-- what is known of a result's value
pub ok_is : {T E : Type 0} (S : T → Type 0) (N : E → Type 0) (r : Result T E) (x : T) → r ≡ Ok x → MatchResult r S N → S x
ok_is S N (Ok y) x e h = let same : y ≡ x = cc in subst S same h
ok_is S N (Err f) x e h = let z : ◌≡◌ {A = ℕ} 0 1 = cc in absurd (omega arith)
