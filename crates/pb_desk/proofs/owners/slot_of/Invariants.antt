use Rattle.std.proofs.Common.{◌≡◌, drop, map}
use Rattle.pb_bank.specs.Desks.{place_of, place_from}
use Rattle.pb_desk.proofs.owners.slot_of.Given as goal

abbrev pub invariant-loop-p : goal.invariant-loop-p
invariant-loop-p l =
    place_of (map (λ name. name.items) l.names) l.word ≡ place_from l.p (map (λ name. name.items) (drop l.p l.names)) l.word
