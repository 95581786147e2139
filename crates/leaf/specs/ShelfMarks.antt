-- Shelf marks as bytes: a capital letter's code, then a number in two bytes. Assumes nothing.
use Rattle.std.specs.Prelude.{ℕ, ◌+◌, ◌-◌, ◌*◌, Bool, true, cond, List, [], ◌∷◌, None, Option, nat_lt}
use Rattle.std.specs.List.{slice_get}
use Rattle.std.specs.Option.{option_map}
use Rattle.leaf.specs.declared.letter.Letter.{Letter}
use Rattle.leaf.specs.declared.letter.Letter.TheVariants.{A, B, C, D, E, F, G, H, I, J, K, L, M, N, O, P, Q, R, S, T, U, V, W, X, Y, Z}
use Rattle.leaf.specs.declared.shelf_mark.ShelfMark.{ShelfMark}
use Rattle.leaf.specs.Bytes.{two_bytes}

-- the letters in their order
abbrev pub letters : List Letter
letters = A ∷ B ∷ C ∷ D ∷ E ∷ F ∷ G ∷ H ∷ I ∷ J ∷ K ∷ L ∷ M ∷ N ∷ O ∷ P ∷ Q ∷ R ∷ S ∷ T ∷ U ∷ V ∷ W ∷ X ∷ Y ∷ Z ∷ []

-- a letter's ASCII code
abbrev pub code : Letter → ℕ
code A = 65
code B = 66
code C = 67
code D = 68
code E = 69
code F = 70
code G = 71
code H = 72
code I = 73
code J = 74
code K = 75
code L = 76
code M = 77
code N = 78
code O = 79
code P = 80
code Q = 81
code R = 82
code S = 83
code T = 84
code U = 85
code V = 86
code W = 87
code X = 88
code Y = 89
code Z = 90

-- the letter whose code a number is: the letters begin at 65
abbrev pub letter_of : ℕ → Option Letter
letter_of n = cond (nat_lt n 65) None (slice_get letters (n - 65))

-- the bytes of a shelf mark
abbrev pub mark_bytes : ShelfMark → List ℕ
mark_bytes m = code m.letter ∷ two_bytes m.number

-- the shelf mark of three bytes
abbrev pub mark_of : List ℕ → Option ShelfMark
mark_of [] = None
mark_of (a ∷ []) = None
mark_of (a ∷ b ∷ []) = None
mark_of (a ∷ b ∷ c ∷ []) = option_map (λ l. record { letter = l; number = b * 256 + c }) (letter_of a)
mark_of (a ∷ b ∷ c ∷ d ∷ rest) = None

-- the first byte is not from 65 to 90
abbrev pub no_letter : List ℕ → Bool
no_letter [] = true
no_letter (a ∷ rest) = cond (nat_lt a 65) true (nat_lt 90 a)
