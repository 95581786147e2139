-- A book of one entry, over accession numbers, and its bytes. Assumes nothing.
use Rattle.std.specs.Prelude.{ℕ, List, [], ◌∷◌, take, Some, None}
use Rattle.leaf.specs.declared.accession_number.AccessionNumber.{AccessionNumber}
use Rattle.theory.specs.Entries.{Entry, cofact, variable, node}
use Rattle.form.specs.declared.fault.Cause.TheVariants.{PastEnd}
use Rattle.form.specs.declared.fault.Layer.TheVariants as layers
use Rattle.form.specs.Meanings.{Meaning}

-- a co-fact of two cells, a variable and node 1 over it, whose head is the node
abbrev pub sample_bytes : List ℕ
sample_bytes = 2 ∷ 0 ∷ 13 ∷ 16 ∷ 0 ∷ 0 ∷ 18 ∷ 0 ∷ 3 ∷ 0 ∷ 1 ∷ 0 ∷ 19 ∷ 0 ∷ 1 ∷ 1 ∷ []

abbrev pub sample_entry : Entry AccessionNumber
sample_entry = record { kind = cofact; parts = variable ∷ node 1 (0 ∷ []) ∷ []; head = 1; body = [] }

-- what the bytes mean
abbrev pub sample_meaning : Meaning AccessionNumber
sample_meaning = record { entries = sample_entry ∷ []; first_fault = None }

-- without the last byte the one field runs past the end
abbrev pub sample_cut_off : List ℕ
sample_cut_off = take 15 sample_bytes

abbrev pub cut_off_meaning : Meaning AccessionNumber
cut_off_meaning =
    record {
      entries = [];
      first_fault = Some (record { cause = PastEnd; place = 0; entry = 0; layer = layers.Book });
    }
