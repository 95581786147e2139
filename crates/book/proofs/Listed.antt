-- Lists of cell numbers: their length is what they say, and within what they hold they are its front.
use Rattle.std.proofs.Common.{◌≡◌, ℕ, ◌≤◌, List, ◌++◌, length, take, replicate, arith}
use Rattle.std.proofs.lemmas.List.{length-take, length-append, length-replicate, take-append-le}

pub length_listed : (n : ℕ) (xs : List ℕ) → length (take n (xs ++ replicate n 0)) ≡ n
length_listed n xs = simp (length-take, length-append, length-replicate) (omega arith)

pub listed_front : (n : ℕ) (xs : List ℕ) → n ≤ length xs → take n (xs ++ replicate n 0) ≡ take n xs
listed_front n xs h = take-append-le n xs (replicate n 0) h
