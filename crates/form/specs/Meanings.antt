-- What bytes mean as a book: the entries before the first fault, and that fault. Assumes nothing.
use Rattle.std.specs.Prelude.{ℕ, suc, ◌+◌, ◌*◌, Bool, true, false, cond, not, ◌&&◌, ltb, List, [], ◌∷◌, ◌++◌, length, drop, Some, None, Option, ◌==◌, nat_le, nat_lt, slice_index}
use Rattle.std.specs.List.{slice_get, list_all}
use Rattle.theory.specs.Entries.{Entry, Kind, clause, cofact, Part, variable, leaf, node}
use Rattle.form.specs.declared.fault.Cause.{Cause}
use Rattle.form.specs.declared.fault.Cause.TheVariants.{PastEnd, WrongTag, WrongLength, WrongCell, WrongLeaf, WrongGoals, TooMuch}
use Rattle.form.specs.declared.fault.Fault.{Fault}
use Rattle.form.specs.declared.fault.Layer.{Layer}
use Rattle.form.specs.declared.fault.Layer.TheVariants as layers
use Rattle.form.specs.Fields.{Field, cut}

-- a test of a field: the fault's cause, and whether the field fails it
pub record Test : Type 0 where
  pub cause : Cause
  pub fails : Bool

-- the kinds of field in an entry
pub data Shape : Type 0 where
  variable_field leaf_field node_field goals_field : Shape

-- the kind of field that a tag stands for, from 16 to 19
abbrev pub shape : ℕ → Option Shape
shape tag =
    cond (tag == 16) (Some variable_field)
    (cond (tag == 17) (Some leaf_field) (cond (tag == 18) (Some node_field) (cond (tag == 19) (Some goals_field) None)))

-- the kind of entry that a tag stands for: 1 or 2
abbrev pub entry_kind : ℕ → Option Kind
entry_kind tag = cond (tag == 1) (Some clause) (cond (tag == 2) (Some cofact) None)

-- the number lies between the two, or is one of them
abbrev pub between : ℕ → ℕ → ℕ → Bool
between low n high = nat_le low n && nat_le n high

-- what a field of an entry is: a fault, a cell, or the goals with head and body
pub data Seen (V : Type 0) : Type 0 where
  wrong : Cause → Seen V
  cell : Part V → Seen V
  goals : ℕ → List ℕ → Seen V

-- how the contents of an entry end: with a fault at a place, without goals, or as a complete entry
pub data Ending (V : Type 0) : Type 0 where
  bad : Cause → ℕ → Ending V
  unended : Ending V
  complete : List (Part V) → ℕ → List ℕ → Ending V

-- what a field of the book's row is: an entry, or a fault in it
pub data Found (V : Type 0) : Type 0 where
  entry : Entry V → Found V
  fault : Fault → Found V

-- what a book means
pub record Meaning (V : Type 0) : Type 0 where
  pub entries : List (Entry V)
  pub first_fault : Option Fault

-- a fault in a leaf's bytes has layer leaf, any other within an entry layer entry
abbrev pub inner_layer : Cause → Layer
inner_layer PastEnd = layers.Entry
inner_layer WrongTag = layers.Entry
inner_layer WrongLength = layers.Entry
inner_layer WrongCell = layers.Entry
inner_layer WrongLeaf = layers.Leaf
inner_layer WrongGoals = layers.Entry
inner_layer TooMuch = layers.Entry

-- a fault at a field of the book's row
abbrev pub row_fault : Cause → ℕ → ℕ → Fault
row_fault c place n = record { cause = c; place = place; entry = n; layer = layers.Book }

-- a fault within an entry
abbrev pub inner_fault : Cause → ℕ → ℕ → Fault
inner_fault c place n = record { cause = c; place = place; entry = n; layer = inner_layer c }

-- the place after a field
abbrev pub next_place : ℕ → Field → ℕ
next_place place f = place + (3 + length f.contents)

module _ {V : Type 0} where
  -- the cell with that number is a node
  abbrev pub node_at : List (Part V) → ℕ → Bool
  node_at ps n = elim (slice_get ps n) [ None ↦ false | Some p ↦ elim p [ variable ↦ false | leaf v ↦ false | node f xs ↦ true ] ]

  -- the tests in their order, and what the field is where it fails none
  abbrev pub judged : List Test → Seen V → Seen V
  judged [] s = s
  judged (t ∷ ts) s = cond t.fails (wrong t.cause) (judged ts s)

  -- a leaf, unless its bytes were refused
  abbrev pub leaf_seen : Option V → Seen V
  leaf_seen None = wrong WrongLeaf
  leaf_seen (Some v) = cell (leaf v)

  -- goals end the entry: any byte after them is a fault
  abbrev pub goals_end : List (Part V) → ℕ → List ℕ → ℕ → List Field → List ℕ → Ending V
  goals_end ps head body after [] [] = complete ps head body
  goals_end ps head body after [] (b ∷ bs) = bad WrongGoals after
  goals_end ps head body after (f ∷ fs) left = bad WrongGoals after

  -- a fault ends the entry at its place; after a cell, and after goals, it goes on as it says
  abbrev pub on_seen : Seen V → ℕ → (Part V → Ending V) → (ℕ → List ℕ → Ending V) → Ending V
  on_seen (wrong c) place then last = bad c place
  on_seen (cell p) place then last = then p
  on_seen (goals head body) place then last = last head body

  -- an entry's own end: goals must have come, and a co-fact has no body
  abbrev pub closed : Kind → ℕ → ℕ → Ending V → Found V
  closed k place n (bad c at) = fault (inner_fault c at n)
  closed k place n unended = fault (row_fault WrongGoals place n)
  closed clause place n (complete ps head body) =
      entry (record { kind = clause; parts = ps; head = head; body = body })
  closed cofact place n (complete ps head []) =
      entry (record { kind = cofact; parts = ps; head = head; body = [] })
  closed cofact place n (complete ps head (b ∷ body)) = fault (row_fault WrongGoals place n)

  -- a fault ends the book; an entry comes before what follows
  abbrev pub on_found : Found V → Meaning V → Meaning V
  on_found (fault x) m = record { entries = []; first_fault = Some x }
  on_found (entry e) m = record { entries = e ∷ m.entries; first_fault = m.first_fault }

module _ {V : Type 0} (wide : ℕ) (reading : List ℕ → Option V) where
  -- a field after the cells ps: its tests in their order, and what it is where it fails none
  abbrev pub seen : List (Part V) → List ℕ → Option Shape → Seen V
  seen ps bs None = wrong WrongTag
  seen ps bs (Some variable_field) =
      judged
      (record { cause = WrongLength; fails = not (length bs == 0) } ∷ record { cause = TooMuch; fails = nat_le 64 (length ps) } ∷ [])
      (cell variable)
  seen ps bs (Some leaf_field) =
      judged
      (record { cause = WrongLength; fails = not (length bs == wide) } ∷ record { cause = TooMuch; fails = nat_le 64 (length ps) } ∷ [])
      (leaf_seen (reading bs))
  seen ps bs (Some node_field) =
      judged
      (record { cause = WrongLength; fails = not (between 2 (length bs) 6) } ∷ record { cause = TooMuch; fails = nat_le 64 (length ps) }
      ∷ record { cause = WrongCell; fails = not (list_all (λ a. ltb a (length ps)) (drop 2 bs)) } ∷ [])
      (cell (node (slice_index bs 0 * 256 + slice_index bs 1) (drop 2 bs)))
  seen ps bs (Some goals_field) =
      judged
      (record { cause = WrongLength; fails = not (between 1 (length bs) 9) } ∷ record { cause = WrongCell; fails = not (list_all (node_at ps) bs) } ∷ [])
      (goals (slice_index bs 0) (drop 1 bs))

  -- the fields of an entry from a place on, after the cells ps
  abbrev pub ending : List (Part V) → ℕ → List Field → List ℕ → Ending V
  ending ps place [] [] = unended
  ending ps place [] (b ∷ bs) = bad PastEnd place
  ending ps place (f ∷ fs) left =
      on_seen (seen ps f.contents (shape f.tag)) place (λ p. ending (ps ++ p ∷ []) (next_place place f) fs left)
      (λ head body. goals_end ps head body (next_place place f) fs left)

  -- the same, of bytes
  abbrev pub ending_of : List (Part V) → ℕ → List ℕ → Ending V
  ending_of ps place bs = ending ps place (cut bs).fields (cut bs).left

  -- a field of the book's row, the n-th: its tag, then whether it is one too many, then what it holds
  abbrev pub found : ℕ → ℕ → Field → Option Kind → Found V
  found place n f None = fault (row_fault WrongTag place n)
  found place n f (Some k) =
      cond (nat_le 1024 n) (fault (row_fault TooMuch place n)) (closed k place n (ending_of [] (place + 3) f.contents))

  -- the fields of the book's row from a place on, after n entries
  abbrev pub row_means : ℕ → ℕ → List Field → List ℕ → Meaning V
  row_means place n [] [] = record { entries = []; first_fault = None }
  row_means place n [] (b ∷ bs) = record { entries = []; first_fault = Some (row_fault PastEnd place n) }
  row_means place n (f ∷ fs) left =
      on_found (found place n f (entry_kind f.tag)) (row_means (next_place place f) (suc n) fs left)

  -- the same, of bytes
  abbrev pub row_of : ℕ → ℕ → List ℕ → Meaning V
  row_of place n bs = row_means place n (cut bs).fields (cut bs).left

  -- a book has at most 65,535 bytes, and is a row of fields
  unfoldable pub meaning : List ℕ → Meaning V
  meaning bs =
      cond (nat_lt 65535 (length bs)) (record { entries = []; first_fault = Some (row_fault TooMuch 0 0) }) (row_of 0 0 bs)
