use Rattle.std.proofs.Common.{refl}
use Rattle.pb_json_lines.specs.ProgramForms.{parts}
use Rattle.pb_json_lines.proofs.program_forms.parts.Goals as goal

pub returns : goal.returns
unfolding parts
returns c = refl
