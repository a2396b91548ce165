use Rattle.std.proofs.Common.{take}
use Rattle.std.specs.List.{flat_map}
use Rattle.pb_voice.specs.Held.{at}
use Rattle.pb_voice.specs.Voices.{Adds}
use Rattle.std.proofs.Common.{Vec, Global, ℕ}
use Rattle.pb_plan_engine.specs.Sayings.{name_text}
use Rattle.pb_plan_engine.proofs.lines.say_names.Given as goal

abbrev pub invariant-loop-i : goal.invariant-loop-i
invariant-loop-i g l =
    Adds (at g.O.Output.written g.O.Output.failures l.fn.voice l.fn.output) (flat_map (λ (name : Vec ℕ Global). name_text name.items) (take l.i l.names))
    (at g.O.Output.written g.O.Output.failures l.voice l.output)
