-- The sample book, computed.
use Rattle.form.proofs.Samples.{sample_means, sample_form, cut_off_means}
use Rattle.form.proofs.theorems.sample_means_one_cofact.Goals as goal

pub returns : goal.returns
returns c = record { means = sample_means; form = sample_form; cut = cut_off_means }
