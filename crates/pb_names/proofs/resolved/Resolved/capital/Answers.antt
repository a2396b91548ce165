use Rattle.std.proofs.Common.{◌≡◌, ◌≤◌, ℕ, length, ap, subst, sym, ◌∙◌, arith}
use Rattle.std.specs.Prelude.{All, IfOk}
use Rattle.std.proofs.lemmas.List.{length-map, take_all}
use Rattle.pb_names.specs.View.{resource_view}
use Rattle.pb_names.proofs.Capitals.{capitals, capital_pushed, capitals_length}
use Rattle.pb_names.proofs.resolved.Resolved.capital.Goals as goal

pub loop-resource-preserved : goal.loop-resource-preserved
loop-resource-preserved g c =
    capital_pushed c.loop-resource.amounts.items _ c.deref-resource-items.result.now c.loop-resource.resource-index c.resource-item.result
    c.loop-resource.invariant (omega arith) c.resource-item.is c.in_ok-push.ensures.items

pub new-requires-clause-few : goal.new-requires-clause-few
new-requires-clause-few g c =
    let rs = c.deref-resource-items.result.now in
    let whole : c.deref.result.now ≡ capitals c.args.self.now.resources.items =
    c.deref.ensures.value ∙ c.loop-resource.invariant ∙ ap capitals (take_all c.loop-resource.resource-index rs (omega
    arith)) ∙ ap capitals c.deref-resource-items.ensures.value in
    omega (
      arith,
      ap length whole,
      capitals_length c.args.self.now.resources.items,
      length-map c.args.self.now.resources.items resource_view,
      c.requires.few,
    )

pub new-requires-clause-small : goal.new-requires-clause-small
new-requires-clause-small g c =
    let rs = c.deref-resource-items.result.now in
    let whole : c.deref.result.now ≡ capitals c.args.self.now.resources.items =
    c.deref.ensures.value ∙ c.loop-resource.invariant ∙ ap capitals (take_all c.loop-resource.resource-index rs (omega
    arith)) ∙ ap capitals c.deref-resource-items.ensures.value in
    subst (All (λ (n : ℕ). n ≤ 1000000)) (sym whole) c.requires.small

pub returns : goal.returns
returns g c =
    let rs = c.deref-resource-items.result.now in
    let whole : c.deref.result.now ≡ capitals c.args.self.now.resources.items =
    c.deref.ensures.value ∙ c.loop-resource.invariant ∙ ap capitals (take_all c.loop-resource.resource-index rs (omega
    arith)) ∙ ap capitals c.deref-resource-items.ensures.value in
    subst (λ amounts. IfOk c.new.result (λ capital. capital ≡ amounts)) whole c.new.ensures
