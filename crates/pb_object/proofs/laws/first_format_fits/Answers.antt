use Rattle.pb_object.proofs.SayableCode.{first_text, first_fits}
use Rattle.pb_object.proofs.laws.first_format_fits.Goals as goal

pub returns : goal.returns
returns c = record { yes = first_text; only = first_fits }
