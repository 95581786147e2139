-- What the writer does: the form of a book at the front of an output, or a refusal. Assumes nothing.
use Rattle.std.specs.Prelude.{◌≡◌, ℕ, ◌<◌, ◌≤◌, List, [], length, Some, None, Ok, Err, Option, Result}
use Rattle.leaf.specs.Outputs.{Fills}
use Rattle.theory.specs.Entries.{Entry, Part, variable, leaf, node}
use Rattle.wire.specs.declared.writer.WriteRefusal.{WriteRefusal}
use Rattle.wire.specs.declared.writer.WriteRefusal.TheVariants.{TooMuch, ShortOutput}

-- the number of a refusal
abbrev pub refusal_number : WriteRefusal → ℕ
refusal_number TooMuch = 13
refusal_number ShortOutput = 14

-- what a call of the writer means: the form stands at the output's front, or it is refused and the output unaltered
abbrev pub WriteMeans : List ℕ → List ℕ → List ℕ → Result ℕ WriteRefusal → Type 0
WriteMeans form before after (Ok n) = (length form ≤ 65535) × Fills before after form n
WriteMeans form before after (Err TooMuch) = (65535 < length form) × (after ≡ before)
WriteMeans form before after (Err ShortOutput) = (length form ≤ 65535) × (length before < length form) × (after ≡ before)

-- what a value that may be absent is written as
abbrev pub shown : {X : Type 0} → (X → List ℕ) → Option X → List ℕ
shown f None = []
shown f (Some x) = f x

module _ {V : Type 0} where
  -- the cells of an entry, if there is such an entry
  abbrev pub parts_in : Option (Entry V) → List (Part V)
  parts_in None = []
  parts_in (Some e) = e.parts

  -- its body goals
  abbrev pub body_in : Option (Entry V) → List ℕ
  body_in None = []
  body_in (Some e) = e.body

  -- how many arguments a cell has
  abbrev pub arguments : Part V → ℕ
  arguments variable = 0
  arguments (leaf v) = 0
  arguments (node f args) = length args
