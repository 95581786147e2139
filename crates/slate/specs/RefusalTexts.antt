-- What is printed of a refusal.
use Rattle.std.specs.Prelude.{ℕ, List, [], ◌++◌, codes, decimal}
use Rattle.theory.specs.Calls.{Refusal, not_in_use, too_many_arguments, not_an_atom, too_long, too_short, unlawful_at}
use Rattle.theory.specs.Calls.{no_cell, clash, no_cell_after, spent_after, full_after, number}

-- what a refusal carries
abbrev pub text_carried : Refusal → List ℕ
text_carried (not_in_use c) = codes " cell " ++ decimal c
text_carried too_many_arguments = []
text_carried (not_an_atom c) = codes " cell " ++ decimal c
text_carried too_long = []
text_carried too_short = []
text_carried (unlawful_at s r) = codes " step " ++ (decimal s ++ (codes " rule " ++ decimal r))
text_carried no_cell = []
text_carried clash = []
text_carried (no_cell_after n) = codes " tries " ++ decimal n
text_carried (spent_after n) = codes " tries " ++ decimal n
text_carried (full_after n) = codes " tries " ++ decimal n

-- a refusal: its number, and what it carries
abbrev pub text_of_refusal : Refusal → List ℕ
text_of_refusal r = decimal (number r) ++ text_carried r
