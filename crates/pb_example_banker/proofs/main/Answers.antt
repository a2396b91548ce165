use Rattle.std.proofs.Common.{◌∙◌, ◌<◌, List, ℕ, ap, length, subst, sym}
use Rattle.std.specs.Prelude.{All}
use Rattle.pb_base.specs.Banker.{BankerState, processes}
use Rattle.pb_example_banker.proofs.Rounds.{order_is_within}
use Rattle.pb_example_banker.proofs.main.Goals as goal

pub loop-job-init : goal.loop-job-init
loop-job-init c =
    let s = c.serve.new.banker.state in
    subst (λ (order : List ℕ). All (λ p. p < processes s) order) (sym c.deref-job-items.ensures.value)
    (order_is_within s c.in_ok-order.field-0.items c.in_ok-order.ensures)

pub loop-job-preserved : goal.loop-job-preserved
loop-job-preserved c =
    let same = c.serve-in-loop-job.ensures.claims ∙ ap (λ (t : BankerState). t.claims) c.drop_all.ensures.state in
    subst (λ claims. All (λ p. p < length claims) c.deref-job-items.result.now) (sym same) c.loop-job.invariant
