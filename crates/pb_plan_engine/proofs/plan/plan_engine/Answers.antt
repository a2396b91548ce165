use Rattle.std.proofs.Common.{[], ◌∷◌, inl, inr, refl}
use Rattle.pb_capitals.specs.Changes.{changes_in}
use Rattle.pb_command_io.specs.declared.status.Status.TheVariants as status
use Rattle.pb_plan_engine.specs.Plans.{SaysOfPlan}
use Rattle.pb_plan_engine.specs.Sayings.{NoMemory, TooLong}
use Rattle.pb_voice.proofs.InputLemmas.{answers_read, of_too_long, of_no_memory}
use Rattle.pb_voice.specs.Held.{at}
use Rattle.pb_plan_engine.proofs.plan.plan_engine.Goals as goal

pub returns-in-Ok : goal.returns-in-Ok
returns-in-Ok g c =
    let before = at g.O.Output.written g.O.Output.failures c.args.teller.now c.args.output.now in
    answers_read TooLong NoMemory g.T.Teller.tells g.T.Teller.breaks (SaysOfPlan c.args.lending (changes_in c.args.changes.now)) before
    (at g.O.Output.written g.O.Output.failures c.tell_plan.new.teller c.tell_plan.new.output) c.tell_plan.result (g.I.Input.rest c.args.input.now)
    (g.I.Input.failures c.args.input.now) (g.I.Input.failures c.read_whole.new.input) c.in-Ok.bytes.items c.deref.result.now before
    c.in-Ok.ensures.bytes c.deref.ensures.value c.in-Ok.ensures.counted refl c.tell_plan.ensures

pub returns-in-Err-TooLong : goal.returns-in-Err-TooLong
returns-in-Err-TooLong g c =
    inr (
      c.in-Err-TooLong.ensures.no_fault (λ e. let f = c.in-Err-TooLong.field-0-is in cc),
      (TooLong ∷ [], status.Refused, tt, c.tell_last.ensures),
      of_too_long TooLong NoMemory g.T.Teller.tells g.T.Teller.breaks (SaysOfPlan c.args.lending (changes_in c.args.changes.now))
          (at g.O.Output.written g.O.Output.failures c.args.teller.now c.args.output.now)
          (at g.O.Output.written g.O.Output.failures c.tell_last.new.teller c.tell_last.new.output) c.tell_last.result
          (g.I.Input.rest c.args.input.now) (c.in-Err-TooLong.ensures.long c.in-Err-TooLong.field-0-is) c.tell_last.ensures,
    )

pub returns-in-Err-Memory : goal.returns-in-Err-Memory
returns-in-Err-Memory g c =
    inr (
      c.in-Err-Memory.ensures.no_fault (λ e. let f = c.in-Err-Memory.field-0-is in cc),
      (NoMemory ∷ [], status.Memory, tt, c.tell_last-in-Err-Memory.ensures),
      of_no_memory TooLong NoMemory g.T.Teller.tells g.T.Teller.breaks (SaysOfPlan c.args.lending (changes_in c.args.changes.now))
          (at g.O.Output.written g.O.Output.failures c.args.teller.now c.args.output.now)
          (at g.O.Output.written g.O.Output.failures c.tell_last-in-Err-Memory.new.teller c.tell_last-in-Err-Memory.new.output) c.tell_last-in-Err-Memory.result
          (g.I.Input.rest c.args.input.now) c.tell_last-in-Err-Memory.ensures,
    )

pub returns-in-Err-Device : goal.returns-in-Err-Device
returns-in-Err-Device g c = inl (c.in-Err-Device.ensures.fault c.in-Err-Device.field-0-is, refl, refl)
