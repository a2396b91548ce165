use Rattle.std.proofs.Common.{◌<◌}
use Rattle.pb_code.specs.View.{code_view}
use Rattle.pb_search_engine.specs.PrintLines.{SpellsPrint}
use Rattle.pb_search_stages.specs.declared.print.Print.{Print}
use Rattle.pb_search_engine.proofs.print_lines.print_of.Given as goal

abbrev pub invariant-loop-p : goal.invariant-loop-p
invariant-loop-p l = (d : Print) → d.pick.process < l.p → SpellsPrint (code_view l.code) l.line d → ⊥
