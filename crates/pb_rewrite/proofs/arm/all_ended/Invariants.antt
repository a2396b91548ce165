use Rattle.std.proofs.Common.{◌≡◌, drop}
use Rattle.pb_names.specs.Source.{all_ended}
use Rattle.pb_rewrite.specs.View.{running_view}
use Rattle.pb_rewrite.proofs.arm.all_ended.Given as goal

abbrev pub invariant-loop-arm : goal.invariant-loop-arm
invariant-loop-arm g l = all_ended (running_view l.arms.items) ≡ all_ended (running_view (drop l.arm-index l.arm-items))
