use Rattle.std.proofs.Common.{refl}
use Rattle.pb_json_lines.specs.ProgramForms.{program_forms}
use Rattle.pb_json_lines.proofs.program_forms.program_forms.Goals as goal

pub returns : goal.returns
unfolding program_forms
returns c = refl
