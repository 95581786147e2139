-- What a fault is written as. Assumes nothing.
use Rattle.std.specs.Prelude.{ℕ, List, ◌++◌, codes, decimal}
use Rattle.form.specs.declared.fault.Fault.{Fault}
use Rattle.form.specs.declared.fault.Layer.{Layer}
use Rattle.form.specs.declared.fault.Layer.TheVariants as layers
use Rattle.form.specs.Numbers.{cause_number}

-- the word for a layer
abbrev pub layer_word : Layer → List ℕ
layer_word layers.Book = codes "book"
layer_word layers.Entry = codes "entry"
layer_word layers.Leaf = codes "leaf"

-- a fault's number, its place, how many good entries come before it, and its layer
abbrev pub fault_words : Fault → List ℕ
fault_words f =
    codes "fault " ++ (decimal (cause_number f.cause) ++ (codes " place " ++ (decimal f.place ++ (codes " entry "
    ++ (decimal f.entry ++ (codes " layer " ++ layer_word f.layer))))))
