use Rattle.std.proofs.Common.{refl}
use Rattle.pb_json_lines.specs.TextForms.{explain_forms}
use Rattle.pb_json_lines.proofs.text_forms.explain_forms.Goals as goal

pub returns : goal.returns
unfolding explain_forms
returns c = refl
