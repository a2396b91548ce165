use Rattle.std.proofs.Common.{◌≡◌, false, true, subst}
use Rattle.pb_code.specs.View.{labels_view}
use Rattle.pb_history.specs.Entries.{picks_of}
use Rattle.pb_debug_positions.specs.Searches.{Does}
use Rattle.pb_debug_positions.specs.declared.search.Watch.{Watch}
use Rattle.pb_debug_positions.specs.declared.search.Watch.TheVariants as watch
use Rattle.pb_debug_positions.proofs.Searches.{shows_none}
use Rattle.pb_debug_positions.proofs.search.does.Goals as goal

pub returns-in-Did-clause-walks : goal.returns-in-Did-clause-walks
returns-in-Did-clause-walks c = (c.requires.walks.0, c.advance.ensures.walks c.requires.walks.0 c.requires.walks.1)

pub returns-in-Silent : goal.returns-in-Silent
returns-in-Silent c = record {
  walks = (c.requires.walks.0, c.advance.ensures.walks c.requires.walks.0 c.requires.walks.1);
  at = c.advance.ensures.at;
  does = (
    λ t. let w : false ≡ true = t in cc,
    λ has.
        let code = c.args.verified.now.code in
        let labels = labels_view c.args.labels.now in
        let picks = picks_of c.args.trace.now.entries in
        let at = c.args.walker.now.at in
        let found : Does code labels picks watch.Event at = subst (λ (w : Watch). Does code labels picks w at) c.in-Event.is has in
        absurd (shows_none code picks at c.advance.result c.advance.ensures.steps c.in-Silent.is found.0 found.1),
  );
}
