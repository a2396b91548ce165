use Rattle.std.proofs.Common.{map, take}
use Rattle.pb_names.specs.View.{block_view}
use Rattle.pb_generator.proofs.ArmOrder.{HasWritten}
use Rattle.pb_generator.proofs.process.write_arms.Given as goal

abbrev pub invariant-loop-arm : goal.invariant-loop-arm
invariant-loop-arm g l =
    HasWritten l.writer l.entries.items (map (λ arm. block_view arm.now.items) (take l.arm-index l.arm-items))
