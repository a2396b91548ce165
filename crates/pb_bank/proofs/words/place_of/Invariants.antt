use Rattle.std.proofs.Common.{◌≡◌, drop, map}
use Rattle.pb_bank.specs.Desks.{place_of, place_from}
use Rattle.pb_bank.proofs.words.place_of.Given as goal

abbrev pub invariant-loop-i : goal.invariant-loop-i
invariant-loop-i l =
    place_of (map (λ name. name.items) l.names) l.word ≡ place_from l.i (map (λ name. name.items) (drop l.i l.names)) l.word
