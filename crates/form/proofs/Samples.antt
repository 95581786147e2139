-- The sample book, computed.
use Rattle.std.proofs.Common.{◌≡◌, [], ◌∷◌, refl}
use Rattle.leaf.specs.AccessionNumbers.{number_of, number_bytes}
use Rattle.form.specs.Fields.{cut}
use Rattle.form.specs.Forms.{book_form}
use Rattle.form.specs.Meanings.{meaning}
use Rattle.form.specs.Samples.{sample_bytes, sample_entry, sample_meaning, sample_cut_off, cut_off_meaning}

pub sample_means : meaning 4 number_of sample_bytes ≡ sample_meaning
unfolding meaning cut
sample_means = refl

pub cut_off_means : meaning 4 number_of sample_cut_off ≡ cut_off_meaning
unfolding meaning cut
cut_off_means = refl

pub sample_form : book_form number_bytes (sample_entry ∷ []) ≡ sample_bytes
sample_form = refl
