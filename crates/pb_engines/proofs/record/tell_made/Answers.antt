use Rattle.std.proofs.Common.{◌≡◌, ◌⊎◌, ◌≢◌, [], ◌∷◌, List, Some, None, Ok, Err, inl, inr, subst}
use Rattle.pb_accept.specs.Sayings.{LongOutput, NoMemory, Threads}
use Rattle.pb_accept.specs.ToldRuns.{SaysOfRecorded}
use Rattle.pb_base.specs.Lines.{names_view}
use Rattle.pb_command_io.specs.declared.status.Status.TheVariants as status
use Rattle.pb_engines.specs.Made.{SaysOfMade, made_picks, no_memory, no_threads, too_many}
use Rattle.pb_history.specs.declared.counted.CountedPick.{CountedPick}
use Rattle.pb_workers.specs.declared.fault.RunFault.TheVariants as fault
use Rattle.pb_voice.specs.Held.{at}
use Rattle.pb_voice.specs.Tellings.{Speaks}
use Rattle.pb_engines.proofs.RecordLemmas.{is_memory}
use Rattle.pb_engines.proofs.record.tell_made.Goals as goal

pub returns-in-Ok-Some : goal.returns-in-Ok-Some
returns-in-Ok-Some g c =
    let is : c.args.made ≡ Ok (Some c.in-Ok-Some.recorded) = cc in
    let (said, given, says, ends) = c.tell_recorded.ensures in (
      said,
      given,
      made_picks c.in-Ok-Some.recorded is said given
          (subst (λ (picks : List CountedPick). SaysOfRecorded c.args.text.now (names_view c.args.names.now) picks c.in-Ok-Some.recorded.status said given)
          c.deref.ensures.value says),
      ends,
    )

pub returns-in-Ok-None : goal.returns-in-Ok-None
returns-in-Ok-None g c =
    let is : c.args.made ≡ Ok None = cc in
    (LongOutput ∷ [], status.Refused, too_many is, c.tell_last.ensures)

pub returns-in-Err : goal.returns-in-Err
returns-in-Err g c = go (is_memory c.in-Err.fault)
  where
    go : (c.in-Err.fault ≡ fault.NoMemory) ⊎ (c.in-Err.fault ≢ fault.NoMemory)
        → Speaks g.T.Teller.tells g.T.Teller.breaks (SaysOfMade c.args.text.now (names_view c.args.names.now) c.args.made)
        (at g.O.Output.written g.O.Output.failures c.args.teller.now c.args.output.now)
        (at g.O.Output.written g.O.Output.failures c.tell_no_run.new.teller c.tell_no_run.new.output) c.tell_no_run.result
    go (inl memory) = (NoMemory ∷ [], status.Memory, no_memory, c.tell_no_run.ensures.memory memory)
    go (inr other) =
        let is : c.args.made ≡ Err c.in-Err.fault = cc in
        (Threads ∷ [], status.Threads, no_threads c.in-Err.fault is other, c.tell_no_run.ensures.threads other)
