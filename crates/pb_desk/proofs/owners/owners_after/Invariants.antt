use Rattle.std.proofs.Common.{◌≡◌, map}
use Rattle.pb_desk.specs.Services.{owners_below}
use Rattle.pb_desk.proofs.owners.owners_after.Given as goal

abbrev pub invariant-loop-p : goal.invariant-loop-p
invariant-loop-p l = l.all.items ≡ owners_below (map (λ name. name.items) l.names) l.owners l.id l.p
