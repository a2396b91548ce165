use Rattle.std.proofs.Common.{◌≡◌, ◌+◌, ◌++◌}
use Rattle.pb_base.specs.Lines.{each_below, names_view}
use Rattle.pb_debug_texts.specs.Does.{awaited_arm, awaits}
use Rattle.pb_machine.specs.Views.{proc_view}
use Rattle.pb_debug_texts.proofs.listed.put_awaited.Given as goal

abbrev pub invariant-loop-k : goal.invariant-loop-k
invariant-loop-k l = record {
  text : l.text.items ≡ l.initial.text.items
      ++ each_below (λ k. awaited_arm (names_view l.names) l.p (proc_view l.process).threads (l.first + k)
      (awaits (proc_view l.process).threads l.first k)) l.k;
  some : l.some ≡ awaits (proc_view l.process).threads l.first l.k;
}
