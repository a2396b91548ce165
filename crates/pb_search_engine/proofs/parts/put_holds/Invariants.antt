use Rattle.std.proofs.Common.{◌≡◌, ◌++◌}
use Rattle.std.specs.Prelude.{slice_index_or}
use Rattle.pb_search_engine.specs.Parts.{collected, holds_part}
use Rattle.pb_search_engine.proofs.parts.put_holds.Given as goal

abbrev pub invariant-loop-r : goal.invariant-loop-r
invariant-loop-r l =
    l.parts.items ≡ l.initial.parts.items ++ collected (λ r. holds_part l.process r (slice_index_or l.holds r 0)) l.r
