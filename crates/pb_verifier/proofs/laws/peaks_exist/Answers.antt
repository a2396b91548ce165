use Rattle.pb_verifier.proofs.ClaimTests as deciding
use Rattle.pb_verifier.proofs.laws.peaks_exist.Goals as goal

pub returns : goal.returns
returns c = deciding.peaks_exist
