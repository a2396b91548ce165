use Rattle.std.proofs.Common.{◌≡◌, false, map, take}
use Rattle.std.specs.List.{list_any}
use Rattle.pb_code.specs.View.{process_view}
use Rattle.pb_search_engine.specs.Requirements.{has_part}
use Rattle.pb_search_engine.proofs.requirements.some_has.Given as goal

abbrev pub invariant-loop-p : goal.invariant-loop-p
invariant-loop-p l = list_any (has_part l.part) (take l.p (map process_view l.code.processes.items)) ≡ false
