use Rattle.std.proofs.Common.{[], ◌∷◌, inl, inr, refl}
use Rattle.pb_command_io.specs.declared.status.Status.TheVariants as status
use Rattle.pb_voice.specs.Inputs.{SaysOfNothing}
use Rattle.pb_accept.specs.Sayings.{NoMemory, TooLong}
use Rattle.pb_voice.proofs.InputLemmas.{of_too_long, of_no_memory}
use Rattle.pb_voice.specs.Held.{at}
use Rattle.pb_accept.proofs.reading.read_or_tell.Goals as goal

pub returns-in-Err-TooLong-clause-told : goal.returns-in-Err-TooLong-clause-told
returns-in-Err-TooLong-clause-told g c =
    inr (
      c.in-Err-TooLong.ensures.no_fault (λ e. let f = c.in-Err-TooLong.field-0-is in cc),
      (TooLong ∷ [], status.Refused, tt, c.tell_last.ensures),
      of_too_long TooLong NoMemory g.T.Teller.tells g.T.Teller.breaks SaysOfNothing (at g.O.Output.written g.O.Output.failures c.args.teller.now c.args.output.now)
          (at g.O.Output.written g.O.Output.failures c.tell_last.new.teller c.tell_last.new.output) c.tell_last.result
          (g.I.Input.rest c.args.input.now) (c.in-Err-TooLong.ensures.long c.in-Err-TooLong.field-0-is) c.tell_last.ensures,
    )

pub returns-in-Err-Memory-clause-told : goal.returns-in-Err-Memory-clause-told
returns-in-Err-Memory-clause-told g c =
    inr (
      c.in-Err-Memory.ensures.no_fault (λ e. let f = c.in-Err-Memory.field-0-is in cc),
      (NoMemory ∷ [], status.Memory, tt, c.tell_last-in-Err-Memory.ensures),
      of_no_memory TooLong NoMemory g.T.Teller.tells g.T.Teller.breaks SaysOfNothing (at g.O.Output.written g.O.Output.failures c.args.teller.now c.args.output.now)
          (at g.O.Output.written g.O.Output.failures c.tell_last-in-Err-Memory.new.teller c.tell_last-in-Err-Memory.new.output) c.tell_last-in-Err-Memory.result
          (g.I.Input.rest c.args.input.now) c.tell_last-in-Err-Memory.ensures,
    )

pub returns-in-Err-Device-clause-told : goal.returns-in-Err-Device-clause-told
returns-in-Err-Device-clause-told g c = inl (c.in-Err-Device.ensures.fault c.in-Err-Device.field-0-is, refl, refl)
