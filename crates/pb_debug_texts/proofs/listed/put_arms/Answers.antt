use Rattle.std.proofs.Common.{◌+◌, ◌++◌, ℕ, List}
use Rattle.pb_base.specs.Lines.{names_view}
use Rattle.pb_debug_texts.specs.Does.{and_before, arm_text}
use Rattle.pb_debug_texts.proofs.EachNumber.{each_next}
use Rattle.pb_debug_texts.proofs.listed.put_arms.Goals as goal

pub loop-k-preserved : goal.loop-k-preserved
loop-k-preserved c =
    let names = names_view c.args.names.now in
    let said : ℕ → List ℕ = λ j. and_before j ++ arm_text names c.args.p (c.args.first + j) in
    each_next said c.loop-k.k c.args.text.now.items c.loop-k.text.items c.put_arm_at.new.text.items c.loop-k.invariant
    c.in_ok-put_arm_at.ensures
