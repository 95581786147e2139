-- The table of letters: one law for all of its places.
use Rattle.std.specs.Prelude.{◌≡◌, ℕ, zero, suc, ◌+◌, ◌-◌, ◌<◌, ◌≤◌, Bool, true, false, cond, not, List, [], ◌∷◌, is_some, Some, None, nat_lt, slice_index_or, refl}
use Rattle.std.proofs.Common.{sym, ◌∙◌, ap, add-zero, arith}
use Rattle.std.specs.List.{slice_get}
use Rattle.std.proofs.lemmas.Option.{slice_get-get_or, slice_get_past}
use Rattle.std.proofs.lemmas.Bool.{lt-ltb, le-ltb, ltb-true, ltb-false}
use Rattle.leaf.specs.declared.letter.Letter.{Letter}
use Rattle.leaf.specs.ShelfMarks.{letters, code, letter_of}

-- the letters' codes count up from a number
abbrev Runs : ℕ → List Letter → Type 0
Runs n [] = Unit {0}
Runs n (l ∷ ls) = (code l ≡ n) × Runs (suc n) ls

runs_at : (n : ℕ) (ls : List Letter) (k : ℕ) (l : Letter) → Runs n ls → slice_get ls k ≡ Some l → code l ≡ n + k
runs_at n [] k l r e = let z : ◌≡◌ {A = ℕ} 0 1 = cc in absurd (omega arith)
runs_at n (x ∷ ls) zero l r e = let s : x ≡ l = cc in ap code (sym s) ∙ r.0 ∙ sym (add-zero n)
runs_at n (x ∷ ls) (suc k) l r e = runs_at (suc n) ls k l r.1 e ∙ omega arith

letters_run : Runs 65 letters
letters_run = (
  refl,
  (
    refl,
    (
      refl,
      (
        refl,
        (
          refl,
          (
            refl,
            (
              refl,
              (
                refl,
                (
                  refl,
                  (
                    refl,
                    (
                      refl,
                      (
                        refl,
                        (
                          refl,
                          (
                            refl,
                            (
                              refl,
                              (
                                refl,
                                (refl, (refl, (refl, (refl, (refl, (refl, (refl, (refl, (refl, (refl, tt)))))))))),
                              ),
                            ),
                          ),
                        ),
                      ),
                    ),
                  ),
                ),
              ),
            ),
          ),
        ),
      ),
    ),
  ),
)

pub letter_below : (n : ℕ) → n < 65 → letter_of n ≡ None
letter_below n h = rw (lt-ltb n 65 h) refl

pub letter_in : (n : ℕ) (d : Letter) → 65 ≤ n → n ≤ 90 → letter_of n ≡ Some (slice_index_or letters (n - 65) d)
letter_in n d low high = rw (le-ltb n 65 low) (slice_get-get_or letters (n - 65) d (omega arith))

pub letter_past : (n : ℕ) → 90 < n → letter_of n ≡ None
letter_past n h =
    let low : 65 ≤ n = omega arith in
    rw (le-ltb n 65 low) (slice_get_past letters (n - 65) (omega arith))

-- the code of the letter that a number stands for is the number
pub code_letter : (n : ℕ) (l : Letter) → letter_of n ≡ Some l → code l ≡ n
code_letter n l e = go (nat_lt n 65) refl e
  where
    go : (b : Bool) → nat_lt n 65 ≡ b → cond b None (slice_get letters (n - 65)) ≡ Some l → code l ≡ n
    go true t f = let z : ◌≡◌ {A = ℕ} 0 1 = cc in absurd (omega arith)
    go false t f = runs_at 65 letters (n - 65) l letters_run f ∙ omega (arith, ltb-false n 65 t)

pub is_letter : (n : ℕ) → is_some (letter_of n) ≡ not (cond (nat_lt n 65) true (nat_lt 90 n))
is_letter n = go (nat_lt n 65) refl
  where
    go : (b : Bool) → nat_lt n 65 ≡ b → is_some (cond b None (slice_get letters (n - 65))) ≡ not (cond b true (nat_lt 90 n))
    go true t = refl
    go false t = further (nat_lt 90 n) refl
      where
        further : (b : Bool) → nat_lt 90 n ≡ b → is_some (slice_get letters (n - 65)) ≡ not b
        further true u =
            let past : 90 < n = ltb-true 90 n u in
            ap is_some (slice_get_past letters (n - 65) (omega arith))
        further false u =
            let low : 65 ≤ n = ltb-false n 65 t in
            let high : n ≤ 90 = ltb-false 90 n u in
            ap is_some (slice_get-get_or letters (n - 65) Letter.A (omega arith))
