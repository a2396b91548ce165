use Rattle.std.proofs.Common.{◌≡◌, ◌++◌}
use Rattle.std.specs.Prelude.{slice_get}
use Rattle.pb_base.specs.Lines.{each_below, names_view}
use Rattle.pb_debug_texts.specs.Does.{amount_text, and_before}
use Rattle.pb_debug_texts.proofs.listed.put_bundle.Given as goal

abbrev pub invariant-loop-k : goal.invariant-loop-k
invariant-loop-k l =
    l.text.items ≡ l.initial.text.items
    ++ each_below (λ k. and_before k ++ amount_text (names_view l.names) (slice_get l.bundle k)) l.k
