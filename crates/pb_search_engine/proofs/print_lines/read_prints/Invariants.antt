use Rattle.std.proofs.Common.{◌≤◌, length}
use Rattle.pb_code.specs.View.{code_view}
use Rattle.pb_search_engine.specs.PrintLines.{ReadsPrints}
use Rattle.pb_search_engine.proofs.print_lines.read_prints.Given as goal

abbrev pub invariant-loop-rest : goal.invariant-loop-rest
invariant-loop-rest l = record {
  reads : ReadsPrints (code_view l.code) l.text l.prints.items l.rest;
  within : length l.rest ≤ length l.text;
}

abbrev pub decreases-loop-rest : goal.decreases-loop-rest
decreases-loop-rest l = length l.rest
