use Rattle.std.proofs.Common.{refl}
use Rattle.pb_json_lines.specs.SessionForms.{debug_forms}
use Rattle.pb_json_lines.proofs.session_forms.debug_forms.Goals as goal

pub returns : goal.returns
unfolding debug_forms
returns c = refl
