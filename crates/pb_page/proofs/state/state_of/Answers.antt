use Rattle.std.proofs.Common.{sym, subst}
use Rattle.pb_base.specs.declared.lending.Lending.{Lending}
use Rattle.pb_code.specs.View.{labels_view}
use Rattle.pb_machine.specs.Views.{IsMachineBy, machine_view}
use Rattle.pb_page.specs.States.{IsStateBy}
use Rattle.pb_page.specs.Texts.{texts}
use Rattle.pb_page.proofs.state.state_of.Goals as goal

pub add_all-requires-clause-machine : goal.add_all-requires-clause-machine
add_all-requires-clause-machine c =
    let is = c.requires.1 in
    subst (λ (l : Lending). IsMachineBy l c.args.verified.now c.args.machine.now) (sym is.lends) is

pub returns : goal.returns
returns c = λ lending is.
    subst (λ (l : Lending). IsStateBy l c.args.verified.now.code (labels_view c.args.labels.now) (machine_view c.args.machine.now) (texts c.add_all.new.entries.items))
    is.lends c.in_ok-add_all.ensures
