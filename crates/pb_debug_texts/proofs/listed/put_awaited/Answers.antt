use Rattle.std.proofs.Common.{◌≡◌, ◌+◌, ◌++◌, ℕ, suc, List, Bool, not, ap, ◌∙◌, arith}
use Rattle.std.specs.Prelude.{◌||◌}
use Rattle.pb_base.specs.Lines.{names_view}
use Rattle.pb_code.specs.Code.{is_over, thread}
use Rattle.pb_debug_texts.specs.Does.{awaited_arm, awaits}
use Rattle.pb_debug_texts.proofs.EachNumber.{each_next}
use Rattle.pb_machine.specs.Views.{proc_view}
use Rattle.pb_debug_texts.proofs.listed.put_awaited.Goals as goal

pub loop-k-preserved : goal.loop-k-preserved
loop-k-preserved c =
    let names = names_view c.args.names.now in
    let threads = (proc_view c.args.process.now).threads in
    let first = c.args.first in
    let k = c.loop-k.k in
    let here = c.loop-k.text.items in
    let said : ℕ → List ℕ = λ j. awaited_arm names c.args.p threads (first + j) (awaits threads first j) in
    let others = ap (λ (b : Bool). here ++ awaited_arm names c.args.p threads (first + k) b) c.loop-k.invariant.some in
    let more = ap (λ (b : Bool). b || not (is_over (thread threads (first + k)))) c.loop-k.invariant.some in
    let next : suc k ≡ k + 1 = omega arith in
    let first_there = ap (λ (n : ℕ). here ++ awaited_arm names c.args.p threads (n + k) c.loop-k.some) c.from.ensures in
    let first_some = ap (λ (n : ℕ). c.loop-k.some || not (is_over (thread threads (n + k)))) c.from.ensures in
    record {
      text = each_next said k c.args.text.now.items here c.put_awaited_at.new.text.items c.loop-k.invariant.text
          (c.in_ok-some.ensures.text ∙ (first_there ∙ others));
      some = c.in_ok-some.ensures.some ∙ (first_some ∙ (more ∙ ap (λ (n : ℕ). awaits threads first n) next));
    }
