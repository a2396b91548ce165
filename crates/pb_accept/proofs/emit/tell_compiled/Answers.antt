use Rattle.std.proofs.Common.{[], ◌∷◌, ℕ, List, subst, sym}
use Rattle.pb_accept.specs.Emissions.{IsWrittenIn, beyond, no_memory, written}
use Rattle.pb_accept.specs.Sayings.{BeyondFirst, NoMemory, Text}
use Rattle.pb_command_io.specs.declared.status.Status.TheVariants as status
use Rattle.pb_accept.proofs.emit.tell_compiled.Goals as goal

pub returns-in-Ok-Some : goal.returns-in-Ok-Some
returns-in-Ok-Some g c =
    let is = rw c.in-Ok-Some.field-0-is at c.in-Ok-Some.ensures in (
      Text c.deref.result.now ∷ [],
      status.Done,
      written c.deref.result.now
          (subst (λ (t : List ℕ). IsWrittenIn c.args.format c.args.compiled.now.verified.code c.args.compiled.now.labels t) (sym c.deref.ensures.value) is),
      c.tell_last.ensures,
    )

pub returns-in-Ok-None : goal.returns-in-Ok-None
returns-in-Ok-None g c =
    let is = rw c.in-Ok-None.field-0-is at c.in-Ok-None.ensures in
    (BeyondFirst ∷ [], status.Refused, beyond is, c.tell_last-in-Ok-None.ensures)

pub returns-in-Err : goal.returns-in-Err
returns-in-Err g c = (NoMemory ∷ [], status.Memory, no_memory, c.tell_last-in-Err.ensures)
