use Rattle.std.proofs.Common.{◌≡◌, false, map, take}
use Rattle.std.specs.List.{list_any}
use Rattle.pb_code.specs.View.{instr_view}
use Rattle.pb_search_engine.specs.Requirements.{is_of}
use Rattle.pb_search_engine.proofs.requirements.has.Given as goal

abbrev pub invariant-loop-i : goal.invariant-loop-i
invariant-loop-i l = list_any (is_of l.part) (take l.i (map (instr_view l.process.bundles.items) l.process.instrs.items)) ≡ false
