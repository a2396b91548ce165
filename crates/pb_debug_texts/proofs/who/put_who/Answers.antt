use Rattle.std.proofs.Common.{rules, arith}
use Rattle.std.proofs.lemmas.Grind.{common_steps}
use Rattle.pb_debug_texts.proofs.who.put_who.Goals as goal

pub returns : goal.returns
returns c = grind (arith, rules, common_steps)
