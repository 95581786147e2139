-- The numbers of the modes.
use Rattle.std.specs.Prelude.{◌≡◌, ℕ, ◌≢◌, Result, MatchResult}
use Rattle.frames.specs.declared.mode.Mode.{Mode}
use Rattle.frames.specs.declared.mode.Mode.TheVariants.{Clause, Loop, Entry}
use Rattle.frames.specs.declared.mode.UnknownMode.{UnknownMode}

-- the number by which a record names a mode
abbrev pub mode_number : Mode → ℕ
mode_number Clause = 1
mode_number Loop = 2
mode_number Entry = 3

-- the mode with that number, or that no mode has it
abbrev pub ReadsMode : ℕ → Result Mode UnknownMode → Type 0
ReadsMode n r = MatchResult r (λ mode. n ≡ mode_number mode) (λ _. (n ≢ 1) × (n ≢ 2) × (n ≢ 3))
