use Rattle.std.proofs.Common.{refl}
use Rattle.pb_json_lines.specs.TextForms.{record_forms}
use Rattle.pb_json_lines.proofs.text_forms.record_forms.Goals as goal

pub returns : goal.returns
unfolding record_forms
returns c = refl
