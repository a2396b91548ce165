use Rattle.std.proofs.Common.{arith}
use Rattle.std.proofs.lemmas.List.{length-map}
use Rattle.pb_tree.specs.View.{name_view, process_view}
use Rattle.pb_names.specs.Search.{names_in}
use Rattle.pb_names.proofs.FirstCauses.{free_right}
use Rattle.pb_names.proofs.Wholes.{whole_process}
use Rattle.pb_resolver.proofs.resolver.number_process.Goals as goal

pub returns : goal.returns
returns g c =
    let done = rw c.in_ok-names.ensures at c.in_ok-body.ensures in
    whole_process (names_in c.args.resources.now) (process_view c.args.process.now) _ _ _
    c.in_ok-name.ensures
    c.in_ok-integers.ensures
    (omega (arith, length-map c.args.process.now.integers.items name_view))
    c.requires.room c.requires.free done.resolves done.numbered

pub number_list-requires-clause-ready : goal.number_list-requires-clause-ready
number_list-requires-clause-ready g c = record {
  free = rw c.in_ok-names.ensures (free_right c.requires.free);
  complete = c.requires.complete;
  narrow = c.requires.narrow;
  room = c.requires.room;
}
