use Rattle.std.proofs.Common.{◌≡◌, take, true}
use Rattle.pb_base.specs.Lines.{names_view}
use Rattle.pb_search_engine.specs.ItemObjects.{each, print_json}
use Rattle.pb_search_engine.specs.ItemObjects.{entries, still_first}
use Rattle.pb_voice.specs.Held.{at}
use Rattle.pb_voice.specs.Voices.{Adds}
use Rattle.pb_search_engine.proofs.part_objects.tell_print_entries.Given as goal

abbrev pub invariant-loop-i : goal.invariant-loop-i
invariant-loop-i g l =
    Adds (at g.O.Output.written g.O.Output.failures l.fn.voice l.fn.output) (entries (each) (print_json (names_view l.names)) true (take l.i l.prints))
    (at g.O.Output.written g.O.Output.failures l.voice l.output)
    × (l.first ≡ still_first (each) true (take l.i l.prints))
