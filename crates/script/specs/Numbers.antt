-- Numbers as decimal digits.
use Rattle.std.specs.Prelude.{◌≡◌, ℕ, ◌+◌, ◌-◌, ◌*◌, ◌<◌, ◌≤◌, List, [], ◌∷◌, length, Some, None, Option}

-- each byte is a digit, from 48 to 57
abbrev pub Digits : List ℕ → Type 0
Digits [] = Unit {0}
Digits (b ∷ bs) = (48 ≤ b) × (b ≤ 57) × Digits bs

-- the number that the digits write, after those that wrote n
abbrev pub value_after : ℕ → List ℕ → ℕ
value_after n [] = n
value_after n (b ∷ bs) = value_after (n * 10 + (b - 48)) bs

-- the text is a number of one digit or more, and no larger than the largest that is allowed
pub record IsNumber (most : ℕ) (text : List ℕ) : Type 0 where
  pub some_digit : 0 < length text
  pub digits : Digits text
  pub allowed : value_after 0 text ≤ most

-- what is read of the text: the value of the number that it is, or nothing if it is none
abbrev pub Reads : ℕ → List ℕ → Option ℕ → Type 0
Reads most text None = IsNumber most text → ⊥
Reads most text (Some n) = IsNumber most text × (n ≡ value_after 0 text)
