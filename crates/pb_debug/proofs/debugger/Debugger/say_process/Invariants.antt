use Rattle.std.proofs.Common.{◌≡◌, ◌++◌, ℕ, List}
use Rattle.pb_debug.specs.Arms.{InTurn, SaysOfArm}
use Rattle.pb_debug.proofs.debugger.Debugger.say_process.Given as goal

abbrev pub invariant-loop-arm : goal.invariant-loop-arm
invariant-loop-arm l =
    (said : List ℕ) × InTurn (SaysOfArm l.self l.part l.p) l.arm said × (l.text.items ≡ l.initial.text.items ++ said)
