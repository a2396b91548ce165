use Rattle.std.proofs.Common.{arith, rules, ap, ◌∙◌}
use Rattle.pb_names.specs.Claims.{stmt_peak}
use Rattle.pb_names.specs.View.{stmt_view}
use Rattle.pb_names.proofs.Views.{numbered-Parbegin}
use Rattle.pb_names.proofs.Sizes.{stmt_size_within, arm_size_within, arms_size_within}
use Rattle.pb_claims.proofs.Walks.{peak_more, arms_peak_more}
use Rattle.pb_claims.proofs.peaks.+peaks.Goals as goal

pub peak_of_stmt-returns-in-Parbegin : goal.peak_of_stmt-returns-in-Parbegin
peak_of_stmt-returns-in-Parbegin g t c =
    omega (
      arith,
      ap (stmt_peak c.args.resource) (ap stmt_view c.in-Parbegin.is
          ∙ numbered-Parbegin c.in-Parbegin.line c.in-Parbegin.first c.in-Parbegin.arms),
    )

pub peak_of_list-loop-stmt-preserved : goal.peak_of_list-loop-stmt-preserved
peak_of_list-loop-stmt-preserved g t c =
    omega (
      arith,
      peak_more c.args.resource c.deref-stmt-items.result.now c.loop-stmt.stmt-index
          c.stmt-item.result c.stmt-item.is (omega arith),
    )

pub peak_of_arms-loop-arm-preserved : goal.peak_of_arms-loop-arm-preserved
peak_of_arms-loop-arm-preserved g t c =
    omega (
      arith,
      arms_peak_more c.args.resource c.deref-arm-items.result.now c.loop-arm.arm-index
          c.arm-item.result c.arm-item.is (omega arith),
    )

pub peak_of_list-peak_of_stmt-requires : goal.peak_of_list-peak_of_stmt-requires
peak_of_list-peak_of_stmt-requires g t c κs within =
    let less = stmt_size_within _ _ _ _ c.deref-stmt-items.ensures.value c.stmt-item.is (omega arith) in
    search rules

pub peak_of_arms-peak_of_list-requires : goal.peak_of_arms-peak_of_list-requires
peak_of_arms-peak_of_list-requires g t c κs within =
    let less = arm_size_within _ _ _ _ c.deref-arm-items.ensures.value c.arm-item.is (omega arith) in
    search rules

pub peak_of_stmt-peak_of_arms-requires : goal.peak_of_stmt-peak_of_arms-requires
peak_of_stmt-peak_of_arms-requires g t c κs within =
    let less = arms_size_within c.args.stmt.now _ _ _ c.in-Parbegin.is in
    search rules
