use Rattle.std.proofs.Common.{[], ◌∷◌, inl, inr, refl, subst, List, ℕ}
use Rattle.pb_command_io.specs.declared.status.Status.TheVariants as status
use Rattle.pb_search_engine.specs.Sayings.{Plain, SaysOfAnyInput}
use Rattle.pb_search_engine.specs.SaysOfAll.{SaysOfSought}
use Rattle.pb_accept.specs.Sayings.{NoMemory, TooLong}
use Rattle.pb_voice.specs.Tellings.{Speaks}
use Rattle.pb_voice.proofs.InputLemmas.{something, of_what_was_read, of_too_long, of_no_memory}
use Rattle.pb_voice.specs.Held.{at}
use Rattle.pb_search_engine.proofs.sought.sought_engine.Goals as goal

pub returns-in-Ok : goal.returns-in-Ok
returns-in-Ok g c =
    let told = c.tell_text.ensures in
    inr (
      c.in-Ok.ensures.counted,
      something (Plain TooLong) (Plain NoMemory) g.T.Teller.tells g.T.Teller.breaks (SaysOfSought c.args.sought c.args.options) (at g.O.Output.written g.O.Output.failures c.args.teller.now c.args.output.now) (at g.O.Output.written g.O.Output.failures c.tell_text.new.teller c.tell_text.new.output) c.tell_text.result _ told,
      of_what_was_read (Plain TooLong) (Plain NoMemory) g.T.Teller.tells g.T.Teller.breaks (SaysOfSought c.args.sought c.args.options) (at g.O.Output.written g.O.Output.failures c.args.teller.now c.args.output.now) (at g.O.Output.written g.O.Output.failures c.tell_text.new.teller c.tell_text.new.output) c.tell_text.result
          (g.I.Input.rest c.args.input.now) c.in-Ok.bytes.items c.in-Ok.ensures.bytes
          (subst (λ (l : List ℕ). Speaks g.T.Teller.tells g.T.Teller.breaks (SaysOfAnyInput (SaysOfSought c.args.sought c.args.options) l) (at g.O.Output.written g.O.Output.failures c.args.teller.now c.args.output.now) (at g.O.Output.written g.O.Output.failures c.tell_text.new.teller c.tell_text.new.output) c.tell_text.result)
          c.deref.ensures.value told),
    )

pub returns-in-Err-TooLong : goal.returns-in-Err-TooLong
returns-in-Err-TooLong g c =
    inr (
      c.in-Err-TooLong.ensures.no_fault (λ e. let f = c.in-Err-TooLong.field-0-is in cc),
      (Plain TooLong ∷ [], status.Refused, tt, c.tell_last.ensures),
      of_too_long (Plain TooLong) (Plain NoMemory) g.T.Teller.tells g.T.Teller.breaks (SaysOfSought c.args.sought c.args.options) (at g.O.Output.written g.O.Output.failures c.args.teller.now c.args.output.now) (at g.O.Output.written g.O.Output.failures c.tell_last.new.teller c.tell_last.new.output) c.tell_last.result
          (g.I.Input.rest c.args.input.now) (c.in-Err-TooLong.ensures.long c.in-Err-TooLong.field-0-is) c.tell_last.ensures,
    )

pub returns-in-Err-Memory : goal.returns-in-Err-Memory
returns-in-Err-Memory g c =
    inr (
      c.in-Err-Memory.ensures.no_fault (λ e. let f = c.in-Err-Memory.field-0-is in cc),
      (Plain NoMemory ∷ [], status.Memory, tt, c.tell_last-in-Err-Memory.ensures),
      of_no_memory (Plain TooLong) (Plain NoMemory) g.T.Teller.tells g.T.Teller.breaks (SaysOfSought c.args.sought c.args.options) (at g.O.Output.written g.O.Output.failures c.args.teller.now c.args.output.now) (at g.O.Output.written g.O.Output.failures c.tell_last-in-Err-Memory.new.teller c.tell_last-in-Err-Memory.new.output) c.tell_last-in-Err-Memory.result
          (g.I.Input.rest c.args.input.now) c.tell_last-in-Err-Memory.ensures,
    )

pub returns-in-Err-Device : goal.returns-in-Err-Device
returns-in-Err-Device g c = inl (c.in-Err-Device.ensures.fault c.in-Err-Device.field-0-is, refl, refl)
