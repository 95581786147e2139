-- Accession numbers as bytes: four, the high byte first. Assumes nothing.
use Rattle.std.specs.Prelude.{ℕ, ◌+◌, ◌*◌, Bool, false, List, [], ◌∷◌, Some, None, Option}
use Rattle.leaf.specs.declared.accession_number.AccessionNumber.{AccessionNumber}
use Rattle.leaf.specs.Bytes.{four_bytes}

-- the bytes of an accession number
abbrev pub number_bytes : AccessionNumber → List ℕ
number_bytes v = four_bytes v.0

-- the accession number of four bytes
abbrev pub number_of : List ℕ → Option AccessionNumber
number_of [] = None
number_of (a ∷ []) = None
number_of (a ∷ b ∷ []) = None
number_of (a ∷ b ∷ c ∷ []) = None
number_of (a ∷ b ∷ c ∷ d ∷ []) = Some (record { 0 = ((a * 256 + b) * 256 + c) * 256 + d })
number_of (a ∷ b ∷ c ∷ d ∷ e ∷ rest) = None

-- no four bytes are refused
abbrev pub never : List ℕ → Bool
never bs = false
