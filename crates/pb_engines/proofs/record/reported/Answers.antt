use Rattle.std.proofs.Common.{None, subst}
use Rattle.std.specs.Prelude.{MatchOption}
use Rattle.pb_base.specs.declared.lending.Lending.TheVariants.{ByBanker}
use Rattle.pb_base.specs.Steppers.{State}
use Rattle.pb_code.specs.Code.{CodeProcess}
use Rattle.pb_record.specs.Recorded.{IsRecorded, IsTooLong}
use Rattle.pb_engines.proofs.RecordLemmas.{banker_is_never_stuck}
use Rattle.pb_engines.proofs.record.reported.Goals as goal

pub returns : goal.returns
returns g c =
    let code = c.args.verified.now.code in
    let steps = c.args.options.steps in
    let (end, recorded) : (end : State CodeProcess) × IsRecorded ByBanker code steps None c.in-Some.picks.items end =
    subst (λ o. MatchOption o (IsTooLong ByBanker code steps None)
    (λ picks. (end : State CodeProcess) × IsRecorded ByBanker code steps None picks.items end)) c.in-Some.is c.in_ok-picks.ensures.picks in
    banker_is_never_stuck c.args.verified.now c.requires steps c.in-Some.picks.items end recorded
