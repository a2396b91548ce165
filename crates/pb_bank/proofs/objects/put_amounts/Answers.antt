use Rattle.std.proofs.Common.{◌<◌, ◌++◌, ltb, cond, List, ℕ, length, arith, ap, ◌∙◌}
use Rattle.pb_base.specs.Lines.{names_view}
use Rattle.pb_bank.specs.Objects.{next_json, amount_json, amounts_json}
use Rattle.pb_bank.proofs.QueueTexts.{parted_next}
use Rattle.pb_bank.proofs.objects.put_amounts.Goals as goal

pub loop-i-preserved : goal.loop-i-preserved
unfolding amounts_json
loop-i-preserved c =
    let l : c.loop-i.i < length c.args.bundle.now = omega arith in
    let names = names_view c.args.names.now in
    c.in_ok-put_amount.ensures
    ∙ (ap (λ (t : List ℕ). t ++ cond (ltb 0 c.loop-i.i) (next_json names c.get.result) (amount_json names c.get.result)) c.loop-i.invariant
    ∙ parted_next (amount_json names) (next_json names) c.args.bundle.now c.loop-i.i c.get.result c.args.out.now.items l c.get.ensures)
