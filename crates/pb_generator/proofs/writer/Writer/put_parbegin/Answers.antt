use Rattle.std.proofs.Common.{arith, sym, ◌∙◌}
use Rattle.std.specs.Prelude.{Some}
use Rattle.pb_names.specs.View.{arms_view}
use Rattle.pb_generator.proofs.Lists.{length-arms_view}
use Rattle.pb_generator.proofs.Statements.{adds_parbegin}
use Rattle.pb_generator.proofs.writer.Writer.put_parbegin.Goals as goal

pub overflow_cast-count : goal.overflow_cast-count
overflow_cast-count g c =
    let all = length-arms_view c.args.arms.now.items in
    omega (arith, all, c.args.arms.now.ok.0)

pub returns : goal.returns
returns g c =
    let all = length-arms_view c.args.arms.now.items in
    adds_parbegin c.args.line c.args.first c.len-count.result (arms_view c.args.arms.now.items)
    (c.len-count.ensures ∙ c.args.arms.now.ok.0 ∙ sym all) c.in_ok-put.ensures c.in_ok-put-2.ensures (Some c.args.line)
