use Rattle.theory.proofs.SoundSittings.{sound_right}
use Rattle.theory.proofs.right_sittings_are_sound.Goals as goal

pub returns : goal.returns
returns g c = λ book rules supplied h r. sound_right book rules supplied h r
