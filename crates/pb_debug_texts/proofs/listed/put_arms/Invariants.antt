use Rattle.std.proofs.Common.{◌≡◌, ◌+◌, ◌++◌}
use Rattle.pb_base.specs.Lines.{each_below, names_view}
use Rattle.pb_debug_texts.specs.Does.{and_before, arm_text}
use Rattle.pb_debug_texts.proofs.listed.put_arms.Given as goal

abbrev pub invariant-loop-k : goal.invariant-loop-k
invariant-loop-k l =
    l.text.items ≡ l.initial.text.items
    ++ each_below (λ k. and_before k ++ arm_text (names_view l.names) l.p (l.first + k)) l.k
