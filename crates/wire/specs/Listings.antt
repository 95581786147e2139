-- The listing of a book: a line for each entry, and a last line. Assumes nothing.
use Rattle.std.specs.Prelude.{◌≡◌, ℕ, suc, List, [], ◌∷◌, ◌++◌, length, Some, None, Ok, Err, codes, decimal, Option, Result}
use Rattle.leaf.specs.Outputs.{Fills, Short}
use Rattle.theory.specs.Entries.{Entry, Kind}
use Rattle.book.specs.Answers.{kind_word}
use Rattle.form.specs.declared.fault.Fault.{Fault}
use Rattle.form.specs.Words.{fault_words}
use Rattle.wire.specs.declared.list_refusal.ListRefusal.{ListRefusal}
use Rattle.wire.specs.declared.list_refusal.ListRefusal.TheVariants.{ShortOutput, NoMemory}

-- a line: a number, a kind, and the counts of cells and of body goals, ended by byte 10
abbrev pub line_of : ℕ → Kind → ℕ → ℕ → List ℕ
line_of n kind cells goals =
    decimal n ++ (codes " " ++ (kind_word kind ++ (codes " " ++ (decimal cells ++ (codes " " ++ (decimal goals ++ codes "\n"))))))

module _ {V : Type 0} where
  -- the line of the n-th entry
  abbrev pub entry_line : ℕ → Entry V → List ℕ
  entry_line n e = line_of n e.kind (length e.parts) (length e.body)

  -- a line for each entry, numbered from n on
  abbrev pub entry_lines : ℕ → List (Entry V) → List ℕ
  entry_lines n [] = []
  entry_lines n (e ∷ es) = entry_line n e ++ entry_lines (suc n) es

-- the last line: the number of entries, or the fault that ends them
abbrev pub last_line : ℕ → Option Fault → List ℕ
last_line n None = codes "entries " ++ (decimal n ++ codes "\n")
last_line n (Some f) = fault_words f ++ codes "\n"

-- the whole listing
unfoldable pub listing_of : {V : Type 0} → List (Entry V) → Option Fault → List ℕ
listing_of es f = entry_lines 0 es ++ last_line (length es) f

-- what a call that lists leaves in the output: the whole listing, or nothing, since it does not fit or memory ran out
abbrev pub ListMeans : List ℕ → List ℕ → List ℕ → Result ℕ ListRefusal → Type 0
ListMeans text before after (Ok n) = Fills before after text n
ListMeans text before after (Err ShortOutput) = Short before after text
ListMeans text before after (Err NoMemory) = after ≡ before

-- the number of a refusal that the input causes; want of memory has none
abbrev pub list_number : ListRefusal → Option ℕ
list_number ShortOutput = Some 14
list_number NoMemory = None
