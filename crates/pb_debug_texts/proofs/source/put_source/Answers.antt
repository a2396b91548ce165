use Rattle.std.proofs.Common.{rules, arith}
use Rattle.std.proofs.lemmas.Grind.{common_steps}
use Rattle.pb_debug_texts.proofs.source.put_source.Goals as goal

pub returns-in_default-line_numbered : goal.returns-in_default-line_numbered
returns-in_default-line_numbered c = search rules fits 100

pub returns : goal.returns
returns c = grind (arith, common_steps) steps 400000
