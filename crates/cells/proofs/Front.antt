-- The first cells of a list, when those alone have changed.
use Rattle.std.proofs.Common.{◌≡◌, ℕ, ◌≤◌, List, ◌++◌, length, take, drop, sym, ◌∙◌, arith, length-append, length-drop, length-take}
use Rattle.std.proofs.lemmas.List.{take_at}

-- a list that is written back whole
pub refill : {X : Type 0} (n : ℕ) (xs ws : List X) → n ≡ length xs → length ws ≡ length xs →
    take n (ws ++ drop (length ws) xs) ≡ ws
refill n xs ws e h = take_at ws (drop (length ws) xs) n (h ∙ sym e)

module _ {X : Type 0} (n : ℕ) (xs ys : List X) (h : n ≤ length xs) (e : length ys ≡ length (take n xs)) where
  front_length : length ys ≡ n
  front_length = omega (arith, length-take n xs)

  pub front : take n (ys ++ drop n xs) ≡ ys
  front = take_at ys (drop n xs) n front_length

  pub front_as_many : length (ys ++ drop n xs) ≡ length xs
  front_as_many = simp (length-append, length-drop) (omega (arith, front_length))
