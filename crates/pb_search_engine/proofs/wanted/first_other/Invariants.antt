use Rattle.std.proofs.Common.{map, take}
use Rattle.std.specs.Prelude.{All}
use Rattle.pb_search.specs.Outcomes.{found_view}
use Rattle.pb_search_engine.specs.Expected.{IsWanted}
use Rattle.pb_search_engine.proofs.wanted.first_other.Given as goal

abbrev pub invariant-loop-i : goal.invariant-loop-i
invariant-loop-i l = All (λ f. IsWanted l.wanted.any_order l.wanted.prints.now f.outcome) (take l.i (map found_view l.found))
