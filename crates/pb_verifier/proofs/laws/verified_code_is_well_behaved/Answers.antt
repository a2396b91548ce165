use Rattle.pb_verifier.proofs.SoundBehaviour.{behaved}
use Rattle.pb_verifier.proofs.laws.verified_code_is_well_behaved.Goals as goal

pub returns : goal.returns
returns c = behaved
