-- What can be wrong with a script.
use Rattle.std.specs.Prelude.{ℕ}
use Rattle.script.specs.declared.fault.LineFault.{LineFault}
use Rattle.script.specs.declared.fault.LineFault.TheVariants as line
use Rattle.script.specs.declared.fault.ScriptError.{ScriptError}
use Rattle.script.specs.declared.fault.ScriptError.TheVariants.{Line, NoMemory}

-- the fault of a line, as that of the script
abbrev pub fault_at : LineFault → ℕ → ScriptError
fault_at line.NotOfTheForm number = Line number
fault_at line.NoMemory number = NoMemory
