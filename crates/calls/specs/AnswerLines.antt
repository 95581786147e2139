-- The line that is printed for an answer.
use Rattle.std.specs.Prelude.{ℕ, List, ◌++◌, codes, decimal}
use Rattle.std.specs.List.{flat_map}
use Rattle.theory.specs.Records.{Step}
use Rattle.theory.specs.Calls.{Answer, Refusal, wrote, accepted, same, different, grants, fails, passes, refused}
use Rattle.slate.specs.RefusalTexts.{text_of_refusal}

-- the word of a step: its mode, a comma and its number
abbrev pub word_of_step : Step → List ℕ
word_of_step s = decimal s.mode ++ (codes "," ++ decimal s.number)

-- a step: a space, its mode, a comma and its number
abbrev pub text_of_step : Step → List ℕ
text_of_step s = codes " " ++ word_of_step s

-- all steps, one after the other
abbrev pub text_of_steps : List Step → List ℕ
text_of_steps steps = flat_map text_of_step steps

-- the line of a granted search: its count and its record
abbrev pub line_of_granted : ℕ → List Step → List ℕ
line_of_granted n steps = (codes "granted " ++ (decimal n ++ codes " steps")) ++ text_of_steps steps

-- the line of a refusal: its number, and what it carries
abbrev pub line_of_refusal : Refusal → List ℕ
line_of_refusal r = codes "refused " ++ text_of_refusal r

-- the line of an answer
abbrev pub line_of_answer : Answer → List ℕ
line_of_answer (wrote c) = codes "cell " ++ decimal c
line_of_answer accepted = codes "accepted"
line_of_answer same = codes "equal"
line_of_answer different = codes "different"
line_of_answer (grants n steps) = line_of_granted n steps
line_of_answer (fails n) = codes "failed " ++ decimal n
line_of_answer passes = codes "passed"
line_of_answer (refused r) = line_of_refusal r
