use Rattle.std.proofs.Common.{◌≡◌, ◌++◌, map, take}
use Rattle.pb_names.specs.Program.{arms_list}
use Rattle.pb_names.specs.View.{arms_view, block_view}
use Rattle.pb_generator.proofs.arms.add_arms.Given as goal

abbrev pub invariant-loop-arm : goal.invariant-loop-arm
invariant-loop-arm g l =
    map (λ arm. block_view arm.now.items) l.arms.items
    ≡ map (λ arm. block_view arm.now.items) l.initial.arms.items ++ arms_list (arms_view (take l.arm-index l.arm-items))
