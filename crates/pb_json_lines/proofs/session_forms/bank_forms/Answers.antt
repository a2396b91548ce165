use Rattle.std.proofs.Common.{refl}
use Rattle.pb_json_lines.specs.SessionForms.{bank_forms}
use Rattle.pb_json_lines.proofs.session_forms.bank_forms.Goals as goal

pub returns : goal.returns
unfolding bank_forms
returns c = refl
