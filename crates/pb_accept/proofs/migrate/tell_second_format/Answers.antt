use Rattle.std.proofs.Common.{[], ◌∷◌, ℕ, List, subst, sym}
use Rattle.pb_accept.specs.Emissions.{IsWrittenIn, no_memory, written}
use Rattle.pb_accept.specs.Sayings.{NoMemory, Text}
use Rattle.pb_code.specs.View.{code_view, labels_view}
use Rattle.pb_code.specs.declared.format.Format.TheVariants.{Two}
use Rattle.pb_command_io.specs.declared.status.Status.TheVariants as status
use Rattle.pb_accept.proofs.migrate.tell_second_format.Goals as goal

pub returns-in-Ok : goal.returns-in-Ok
returns-in-Ok g c = (
  Text c.deref.result.now ∷ [],
  status.Done,
  written c.deref.result.now
      (subst (λ (t : List ℕ). IsWrittenIn Two (code_view c.args.code.now) (labels_view c.args.labels.now) t) (sym c.deref.ensures.value) c.in-Ok.ensures),
  c.tell_last.ensures,
)

pub returns-in-Err : goal.returns-in-Err
returns-in-Err g c = (NoMemory ∷ [], status.Memory, no_memory, c.tell_last-in-Err.ensures)
