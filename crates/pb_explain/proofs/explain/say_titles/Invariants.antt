use Rattle.std.proofs.Common.{take}
use Rattle.pb_explain.specs.Pages.{list_of_codes}
use Rattle.pb_voice.specs.Held.{at}
use Rattle.pb_voice.specs.Voices.{Adds}
use Rattle.pb_explain.proofs.explain.say_titles.Given as goal

abbrev pub invariant-loop-i : goal.invariant-loop-i
invariant-loop-i g l =
    Adds (at g.O.Output.written g.O.Output.failures l.fn.voice l.fn.output) (list_of_codes l.fn.voice.form (take l.i l.listed))
    (at g.O.Output.written g.O.Output.failures l.voice l.output)
