use Rattle.pb_grammar.proofs.Signs.{signs_begin, signs_step, signs_end}
use Rattle.pb_grammar.proofs.parser.Parser.signed.Goals as goal

pub loop-turn-init : goal.loop-turn-init
loop-turn-init g c = λ e h. signs_begin _ _ _ e h

pub loop-turn-preserved : goal.loop-turn-preserved
loop-turn-preserved g c = λ e h. signs_step _ _ c.args.count c.loop-turn._turn c.args.op e c.loop-turn-test.true
    (c.loop-turn.invariant e h) c.in_ok-whole.ensures.made

pub returns : goal.returns
returns g c = λ e h rest. signs_end _ c.args.count c.loop-turn._turn c.args.op e c.loop-turn-test.false (c.loop-turn.invariant e h) rest
