use Rattle.std.proofs.Common.{map, take}
use Rattle.pb_base.specs.Lines.{names_view}
use Rattle.pb_code.specs.View.{labels_view}
use Rattle.pb_search_engine.specs.Items.{given_item_view}
use Rattle.pb_search_engine.specs.Sayings.{Finds}
use Rattle.pb_voice.specs.Held.{at}
use Rattle.pb_voice.specs.Tellings.{Telling}
use Rattle.pb_search_engine.proofs.teller.tell_items.Given as goal

abbrev pub invariant-loop-i : goal.invariant-loop-i
invariant-loop-i g l =
    Telling g.T.Teller.tells (at g.O.Output.written g.O.Output.failures l.fn.teller l.fn.output)
    (map (λ item. Finds (names_view l.names) (labels_view l.labels) (given_item_view item)) (take l.i l.items))
    (at g.O.Output.written g.O.Output.failures l.teller l.output)
