use Rattle.std.proofs.Common.{◌≡◌, ◌++◌, take}
use Rattle.pb_search_engine.specs.Parts.{ask_parts}
use Rattle.pb_search_engine.proofs.parts.put_asks.Given as goal

abbrev pub invariant-loop-i : goal.invariant-loop-i
invariant-loop-i l = l.parts.items ≡ l.initial.parts.items ++ ask_parts l.process (take l.i l.asks)
