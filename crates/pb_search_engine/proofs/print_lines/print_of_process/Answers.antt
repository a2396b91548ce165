use Rattle.pb_search_engine.proofs.PrintLemmas.{process_told}
use Rattle.pb_search_engine.proofs.print_lines.print_of_process.Goals as goal

pub returns : goal.returns
returns c =
    process_told c.args.line.now c.args.name.now c.in_ok-rest.rest.now c.args.arms c.print_of_arms.result c.in_ok-rest.ensures
    c.print_of_arms.ensures
