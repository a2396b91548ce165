use Rattle.std.specs.Prelude.{option_map}
use Rattle.pb_server_claims.specs.Known.{nothing}
use Rattle.pb_server_claims.specs.Numbered.{numbered}
use Rattle.pb_server_claims.proofs.Readings.{known_alone, known_tree}
use Rattle.pb_server_claims.proofs.reading.read_text.Goals as goal
use Rattle.pb_tree.specs.View.{program_view}

pub returns-in_default : goal.returns-in_default
returns-in_default c = nothing (rw c.in_default.is at c.in_ok-tokens.ensures)

pub returns-in_default-2 : goal.returns-in_default-2
returns-in_default-2 c =
    known_alone c.args.text.now c.in-Some.tokens.items c.deref.result.now (program_view c.no_tree.result)
    c.deref.ensures.value (rw c.in-Some.is at c.in_ok-tokens.ensures) (rw c.in_default-2.is at c.in_ok-tree.ensures)
    c.no_tree.ensures

pub returns : goal.returns
returns c =
    known_tree c.args.text.now c.in-Some.tokens.items c.deref.result.now (program_view c.in-Some-2.tree)
    (option_map numbered c.in_ok-found.found) c.deref.ensures.value (rw c.in-Some.is at c.in_ok-tokens.ensures)
    (rw c.in-Some-2.is at c.in_ok-tree.ensures) c.in_ok-found.ensures
