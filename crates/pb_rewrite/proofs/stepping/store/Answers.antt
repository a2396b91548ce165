use Rattle.std.proofs.Common.{sym, arith, rules}
use Rattle.std.proofs.lemmas.List.{set_past}
use Rattle.pb_rewrite.proofs.stepping.store.Goals as goal

pub returns-then-x-vars : goal.returns-then-x-vars
returns-then-x-vars c = sym (set_past c.args.vars.now _ _ (omega arith))

pub returns : goal.returns
returns c = search rules fits 100
