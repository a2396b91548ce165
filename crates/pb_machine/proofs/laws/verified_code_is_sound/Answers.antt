use Rattle.pb_machine.proofs.EitherLending.{code_is_sound}
use Rattle.pb_machine.proofs.laws.verified_code_is_sound.Goals as goal

pub returns : goal.returns
returns c = code_is_sound
