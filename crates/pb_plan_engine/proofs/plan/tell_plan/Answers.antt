use Rattle.std.proofs.Common.{◌∷◌, [], List, map, subst}
use Rattle.pb_command_io.specs.declared.status.Status.TheVariants as status
use Rattle.pb_plan_engine.specs.Sayings.{NoMemory}
use Rattle.pb_plan_engine.specs.View.{said_view}
use Rattle.pb_plan_engine.specs.declared.said.Said.{Said}
use Rattle.pb_voice.specs.Held.{at}
use Rattle.pb_voice.specs.Inputs.{no_memory, read}
use Rattle.pb_voice.specs.Tellings.{Ends}
use Rattle.pb_plan_engine.proofs.plan.tell_plan.Goals as goal

pub returns-in-Ok : goal.returns-in-Ok
returns-in-Ok g c = (
  map said_view c.in-Ok.plan.said.items,
  c.in-Ok.plan.status,
  read _ _ c.requires c.in-Ok.ensures.said,
  subst (λ (l : List Said). Ends g.T.Teller.tells g.T.Teller.breaks (at g.O.Output.written g.O.Output.failures c.args.teller.now c.args.output.now)
      (map said_view l) c.in-Ok.plan.status (at g.O.Output.written g.O.Output.failures c.tell_all.new.teller c.tell_all.new.output) c.tell_all.result)
      c.deref.ensures.value c.tell_all.ensures,
)

pub returns-in-Err : goal.returns-in-Err
returns-in-Err g c = (NoMemory ∷ [], status.Memory, no_memory, c.tell_last.ensures)
