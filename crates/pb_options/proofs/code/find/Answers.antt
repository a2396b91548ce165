use Rattle.pb_options.proofs.CodeLemmas.{none_of_all}
use Rattle.std.proofs.Common.{arith}
use Rattle.pb_options.proofs.code.find.Goals as goal

pub returns-clause-none : goal.returns-clause-none
returns-clause-none c =
    none_of_all c.args.listed.now c.args.name.now c.loop-code.code-index
    (let past = c.loop-code-test.false in omega (arith, past)) c.loop-code.invariant
