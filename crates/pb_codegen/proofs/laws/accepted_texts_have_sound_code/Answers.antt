use Rattle.pb_codegen.proofs.VerifiedPrograms.{sound_code}
use Rattle.pb_codegen.proofs.laws.accepted_texts_have_sound_code.Goals as goal

pub returns : goal.returns
returns c = sound_code
