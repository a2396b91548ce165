use Rattle.std.proofs.Common.{sym, append-nil, ap, map, ◌++◌, ◌∷◌, [], ◌∙◌}
use Rattle.std.proofs.lemmas.List.{map-append, take_all}
use Rattle.pb_names.specs.Program.{arms_list}
use Rattle.pb_names.specs.View.{arms_view, block_view}
use Rattle.pb_generator.proofs.Lists.{arms_list-more, collected}
use Rattle.pb_generator.proofs.arms.add_arms.Goals as goal

pub loop-arm-init : goal.loop-arm-init
loop-arm-init g c = sym (append-nil (map (λ arm. block_view arm.now.items) c.args.arms.now.items))

pub loop-arm-preserved : goal.loop-arm-preserved
loop-arm-preserved g c =
    collected _ _ _ _ (block_view c.arm-item.result.items ∷ []) _ c.loop-arm.invariant
    (ap (map (λ arm. block_view arm.now.items)) c.in_ok-push.ensures.items ∙ map-append _ c.loop-arm.arms.items _)
    (arms_list-more c.deref-arm-items.result.now c.loop-arm.arm-index c.arm-item.result c.arm-item.is c.loop-arm-test.true)

pub returns : goal.returns
returns g c =
    c.loop-arm.invariant
    ∙ ap (λ own. map (λ arm. block_view arm.now.items) c.args.arms.now.items ++ arms_list (arms_view own))
    (take_all c.loop-arm.arm-index c.deref-arm-items.result.now c.loop-arm-test.false ∙ c.deref-arm-items.ensures.value)
