use Rattle.pb_json_lines.proofs.AloneLemmas.{told_as_ever}
use Rattle.pb_json_lines.proofs.laws.live_lines_are_json_lines.Goals as goal

pub returns : goal.returns
returns c = told_as_ever
