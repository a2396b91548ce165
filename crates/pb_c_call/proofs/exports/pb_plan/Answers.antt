use Rattle.std.proofs.Common.{List, ap, length, subst}
use Rattle.pb_base.specs.declared.lending.Lending.TheVariants.{ByBanker}
use Rattle.pb_capitals.specs.Changes.{changes_in}
use Rattle.pb_capitals.specs.declared.change.Change.{Change}
use Rattle.pb_c_call.specs.Replies.{IsGiven, KeptBytes, Tellings}
use Rattle.pb_c_call.proofs.GivenReplies.{given, told}
use Rattle.pb_c_call.proofs.exports.pb_plan.Goals as goal
use Rattle.pb_plan_engine.specs.Plans.{SaysOfPlans}
use Rattle.pb_plan_engine.specs.Sayings.{line_of}
use Rattle.pb_voice.specs.Voices.{Written}

pub returns-clause-given : goal.returns-clause-given
returns-clause-given c =
    subst
    (λ (changes : List Change). IsGiven (Tellings (Written line_of (SaysOfPlans ByBanker changes)) c.args.texts.now) c.put_front.new.to
    c.number_of.result (length c.as_slice-bytes.result.now))
    c.none-none.ensures
    (given (Tellings (Written line_of (SaysOfPlans ByBanker (changes_in c.none-none.result))) c.args.texts.now) c.put_front.new.to c.args.output.now
    c.write_plan-status.new.output.bytes c.as_slice-bytes.result.now c.write_plan-status.result c.number_of.result
    (told (Written line_of (SaysOfPlans ByBanker (changes_in c.none-none.result))) c.args.texts.now c.new-source.result c.new-reply.result.bytes
    c.write_plan-status.new.output.bytes c.write_plan-status.result c.new-source.ensures
    (ap (λ (k : KeptBytes). k.bytes) c.new-reply.ensures) c.write_plan-status.ensures.text)
    c.number_of.ensures.number c.as_slice-bytes.ensures c.put_front.ensures.length c.put_front.ensures.front)
