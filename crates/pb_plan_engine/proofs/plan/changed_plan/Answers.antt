use Rattle.std.proofs.Common.{◌∙◌, List, ap, map, option_map, subst, sym}
use Rattle.std.specs.Prelude.{IfOk}
use Rattle.std.specs.Borrow.{Bor}
use Rattle.pb_capitals.specs.Changes.{changes_in}
use Rattle.pb_capitals.specs.declared.change.Change.{Change}
use Rattle.pb_joint.specs.View.{full_name}
use Rattle.pb_joint.specs.declared.texts.FullName.{FullName as Given}
use Rattle.pb_names.specs.Program.{Program}
use Rattle.pb_names.specs.View.{resolved_view}
use Rattle.pb_plan_engine.specs.Changed.{undeclared}
use Rattle.pb_plan_engine.specs.Plans.{HasStatus, IsOfTree, IsPlan}
use Rattle.pb_plan_engine.specs.View.{said_view}
use Rattle.pb_plan_engine.proofs.ChangedLemmas.{changed_of_tree}
use Rattle.pb_plan_engine.proofs.PlanLemmas.{no_device, tells_plan, tells_unknown}
use Rattle.pb_plan_engine.proofs.plan.changed_plan.Goals as goal

pub make_plan-requires-clause-numbered : goal.make_plan-requires-clause-numbered
make_plan-requires-clause-numbered c =
    subst (λ (p : Program). IsOfTree p c.args.joint.claims) (sym c.change_capitals.ensures.program)
    (changed_of_tree (changes_in c.args.changes.now) (resolved_view c.args.joint.program) c.args.joint.claims c.requires.numbered)

pub returns-in-Some-clause-said : goal.returns-in-Some-clause-said
returns-in-Some-clause-said c =
    let program = resolved_view c.args.joint.program in
    tells_unknown c.unknown.result c.args.lending (changes_in c.args.changes.now) (map full_name c.args.joint.names.items)
    program c.args.joint.claims c.in-Some.change.now
    (ap (λ (changes : List Change). undeclared changes program) (sym c.as_slice.ensures) ∙ sym c.undeclared.ensures
    ∙ ap (option_map (λ (change : Bor Change). change.now)) c.in-Some.is)
    c.unknown.ensures.said c.unknown.ensures.status

pub returns-in-Some-clause-no_fault : goal.returns-in-Some-clause-no_fault
returns-in-Some-clause-no_fault c = no_device c.unknown.result c.unknown.ensures.status

pub returns-clause-said : goal.returns-clause-said
returns-clause-said c =
    let program = resolved_view c.args.joint.program in
    let changed = resolved_view c.change_capitals.new.program in
    tells_plan c.make_plan.result c.args.lending (changes_in c.args.changes.now) (map full_name c.args.joint.names.items)
    program changed c.args.joint.claims
    (ap (λ (changes : List Change). undeclared changes program) (sym c.as_slice.ensures) ∙ sym c.undeclared.ensures
    ∙ ap (option_map (λ (change : Bor Change). change.now)) c.in_default.is)
    c.change_capitals.ensures.program
    (subst (λ (names : List Given). IfOk c.make_plan.result (λ p. IsPlan (map full_name names) changed c.args.joint.claims (map said_view p.said.items)
    × HasStatus c.args.lending changed c.args.joint.claims p.status)) c.deref.ensures.value c.make_plan.ensures.said)
