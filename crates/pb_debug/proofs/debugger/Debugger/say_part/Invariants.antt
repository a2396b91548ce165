use Rattle.std.proofs.Common.{◌≡◌, ◌++◌, ℕ, List}
use Rattle.pb_debug.specs.Arms.{InTurn, SaysOfProcess}
use Rattle.pb_debug.proofs.debugger.Debugger.say_part.Given as goal

abbrev pub invariant-loop-p : goal.invariant-loop-p
invariant-loop-p l =
    (said : List ℕ) × InTurn (SaysOfProcess l.self l.part) l.p said × (l.text.items ≡ l.initial.text.items ++ said)
