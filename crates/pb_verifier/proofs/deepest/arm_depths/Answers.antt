use Rattle.std.proofs.Common.{◌+◌, ℕ, ◌∙◌, [], ◌∷◌, length-append, ap, arith}
use Rattle.pb_code.specs.View.{process_view}
use Rattle.pb_verifier.specs.Verified.{IsDepthOf}
use Rattle.pb_code.proofs.ListElements.{push_more}
use Rattle.pb_verifier.proofs.deepest.arm_depths.Goals as goal

pub loop-arm-preserved : goal.loop-arm-preserved
loop-arm-preserved c =
    rw c.in_ok-push.ensures.items
    record {
      all = length-append c.loop-arm.row.items (c.deepest.result ∷ []) ∙ ap (λ (n : ℕ). n + 1) c.loop-arm.invariant.all;
      greatest = push_more c.loop-arm.row.items c.deepest.result c.loop-arm.arm (IsDepthOf (process_view
          c.args.code.now)) c.loop-arm.invariant.all c.loop-arm.invariant.greatest c.deepest.ensures;
    }

pub returns-clause-greatest : goal.returns-clause-greatest
returns-clause-greatest c =
    let n = c.arm_count-arm-end.ensures in
    λ a u. c.loop-arm.invariant.greatest a (omega arith)
