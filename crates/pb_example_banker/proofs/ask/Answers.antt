use Rattle.std.proofs.Common.{◌∙◌, ap, arith, subst}
use Rattle.pb_banker.specs.Asking.{Answers, state_after}
use Rattle.pb_example_banker.proofs.Rounds.{answered}
use Rattle.pb_example_banker.proofs.ask.Goals as goal

pub returns-clause-answer : goal.returns-clause-answer
returns-clause-answer c =
    let s = c.args.banker.now.state in
    let r = c.args.request in
    answered s c.ask.new.self.state r c.ask.result
    (record {
      job = omega (arith, c.if-request-processes.false, c.processes.ensures.number);
      device = omega (arith, c.if-from-resources.false, c.resources.ensures.number, c.from.ensures);
    })
    (subst (λ pairs. Answers s r.job pairs c.ask.result) c.one.ensures c.ask.ensures.answer)
    (c.ask.ensures.state ∙ ap (λ pairs. state_after s r.job pairs c.ask.result) c.one.ensures)
