use Rattle.std.proofs.Common.{◌∙◌, List, ap, arith, length, map}
use Rattle.std.proofs.lemmas.List.{with_items_is}
use Rattle.pb_capitals.specs.Changes.{changes_in}
use Rattle.pb_names.specs.Program.{Resource as PlainResource}
use Rattle.pb_names.specs.View.{process_view, resource_view}
use Rattle.pb_names.specs.declared.resolved.Resource.{Resource}
use Rattle.pb_plan_engine.specs.Changed.{changed_resource}
use Rattle.pb_plan_engine.proofs.ChangingLemmas.{all_changed, more_changed}
use Rattle.pb_plan_engine.proofs.changing.change_capitals.Goals as goal

pub loop-resource-preserved : goal.loop-resource-preserved
loop-resource-preserved g c =
    more_changed (changes_in c.args.changes.now) c.deref_mut-resource-items.result.now c.loop-resource.resource-items c.loop-resource.resource-index
    c.resource-item.result c.deref.result.now c.capital_under-resource.result c.loop-resource-test.true c.loop-resource.invariant
    c.deref.ensures.value c.capital_under-resource.ensures

pub returns-clause-program : goal.returns-clause-program
returns-clause-program g c =
    let processes = map process_view c.args.program.now.processes.items in
    let past = c.loop-resource-test.false in
    let all = all_changed (changes_in c.args.changes.now) c.deref_mut-resource-items.result.now c.loop-resource.resource-items c.loop-resource.resource-index
    past c.loop-resource.invariant in
    let given = c.args.program.now.resources in
    let kept = c.loop-resource.auto.resource-items in
    let same = ap (λ (rs : List (Resource _)). length rs) c.deref_mut-resource-items.ensures.value in
    let long = given.ok.0 in
    ap (λ (rs : List PlainResource). record { resources = rs; processes = processes })
    (ap (map resource_view) (with_items_is given c.loop-resource.resource-items (omega (arith, kept, same, long))) ∙ all ∙ ap (λ (rs : List (Resource _)). map (changed_resource (changes_in c.args.changes.now)) (map resource_view rs)) c.deref_mut-resource-items.ensures.value)
