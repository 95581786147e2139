-- Texts cut at bytes of one value.
use Rattle.std.specs.Prelude.{◌≡◌, ℕ, suc, ◌<◌, List, ◌∷◌, ◌++◌, length, Some, None, Option, ◌≢◌, slice_index}
use Rattle.std.specs.Borrow.{Bor}

-- the byte is not in the text
abbrev pub Lacks : ℕ → List ℕ → Type 0
Lacks byte text = (k : ℕ) → k < length text → slice_index text k ≢ byte

-- the text is its first piece, with what stands behind the byte where that ends, if there is such a byte
abbrev pub CutAt : ℕ → List ℕ → Bor (List ℕ) → Option (Bor (List ℕ)) → Type 0
CutAt byte text piece None = (piece.now ≡ text) × Lacks byte text
CutAt byte text piece (Some rest) = (text ≡ piece.now ++ (byte ∷ rest.now)) × Lacks byte piece.now

-- at most so many pieces are still to come
abbrev pub to_come : Option (Bor (List ℕ)) → ℕ
to_come None = 0
to_come (Some text) = suc (length text.now)
