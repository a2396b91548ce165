use borrow.Author.Count.{falls}
use Rattle.std.proofs.Common.{arith, map}
use Rattle.pb_tree.specs.Measure.{saturated, processes_height}
use Rattle.pb_tree.specs.View.{process_view}
use Rattle.pb_tree.proofs.Copies.{read_all}
use Rattle.pb_tree.proofs.Sums.{process_height_more}
use Rattle.pb_tree.proofs.program.Program.height.Goals as goal

pub loop-process-preserved : goal.loop-process-preserved
loop-process-preserved g c =
    omega (
      arith,
      process_height_more c.deref-process-items.result.now c.loop-process.process-index
          c.process-item.result c.process-item.is c.loop-process-test.true,
    )

pub loop-process-smaller : goal.loop-process-smaller
loop-process-smaller g c = falls _ _ c.loop-process-test.true

pub returns : goal.returns
returns g c =
    read_all (λ ps. saturated (processes_height (map process_view ps))) _ _ _ _
    c.loop-process.invariant c.loop-process-test.false c.deref-process-items.ensures.value
