-- What is said of a script that cannot be read.
use Rattle.std.specs.Prelude.{ℕ, List, ◌++◌, codes, decimal}
use Rattle.script.specs.declared.fault.ScriptError.{ScriptError}
use Rattle.script.specs.declared.fault.ScriptError.TheVariants.{Line, NoMemory}

-- why a script cannot be read
abbrev pub text_of_error : ScriptError → List ℕ
text_of_error (Line number) = codes "line " ++ (decimal number ++ codes " is not a call")
text_of_error NoMemory = codes "out of memory"

-- the line that names the file, and says why it cannot be read
abbrev pub script_says : List ℕ → ScriptError → List ℕ
script_says file e = file ++ (codes ": " ++ (text_of_error e ++ codes "\n"))
