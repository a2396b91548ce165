use Rattle.pb_verifier.proofs.SoundBehaviour.{peaks_decide}
use Rattle.pb_verifier.proofs.laws.greatest_amounts_decide.Goals as goal

pub returns : goal.returns
returns c = peaks_decide
