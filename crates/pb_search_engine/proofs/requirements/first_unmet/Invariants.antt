use Rattle.std.proofs.Common.{take}
use Rattle.pb_code.specs.View.{code_view}
use Rattle.pb_search_engine.specs.Requirements.{AreMet}
use Rattle.pb_search_engine.proofs.requirements.first_unmet.Given as goal

abbrev pub invariant-loop-i : goal.invariant-loop-i
invariant-loop-i l = AreMet (code_view l.code) (take l.i l.requirements)
