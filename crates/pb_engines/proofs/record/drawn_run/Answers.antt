use Rattle.std.proofs.Common.{Some, subst}
use Rattle.std.specs.Prelude.{MatchOption, IfSome}
use Rattle.pb_machine.specs.Views.{machine_view, IsMachineBy}
use Rattle.pb_record.specs.Recorded.{IsRecorded, IsTooLong}
use Rattle.pb_engines.proofs.RecordLemmas.{drawn_ends}
use Rattle.pb_engines.proofs.record.drawn_run.Goals as goal

pub returns-clause-picks : goal.returns-clause-picks
returns-clause-picks c =
    let code = c.args.verified.now.code in
    let steps = c.args.steps in
    let seed = Some c.args.seed in
    let recorded : IsRecorded c.args.lending code steps seed c.in-Some.picks.items (machine_view c.in-Some.machine) =
    subst (λ o. MatchOption o (IsTooLong c.args.lending code steps seed)
    (λ made. IsRecorded c.args.lending code steps seed made.1.items (machine_view made.0))) c.in-Some.is c.in-Ok.ensures.picks in
    let of : IsMachineBy c.args.lending c.args.verified.now c.in-Some.machine =
    subst (λ o. IfSome o (λ made. IsMachineBy c.args.lending c.args.verified.now made.0)) c.in-Some.is c.in-Ok.ensures.machine in
    drawn_ends c.args.lending code steps seed c.in-Some.picks.items (machine_view c.in-Some.machine) c.ending_of-ending.result c.status_of.result
    recorded (c.ending_of-ending.ensures c.args.lending of) c.status_of.ensures

pub ending_of-ending-requires : goal.ending_of-ending-requires
ending_of-ending-requires c =
    (c.args.lending, subst (λ o. IfSome o (λ made. IsMachineBy c.args.lending c.args.verified.now made.0)) c.in-Some.is c.in-Ok.ensures.machine)
