use Rattle.std.proofs.Common.{◌≡◌, drop}
use Rattle.pb_bank.specs.Claims.{wished}
use Rattle.pb_bank.proofs.claim.wished.Given as goal

abbrev pub invariant-loop-wish : goal.invariant-loop-wish
invariant-loop-wish l = wished l.wishes l.job l.resource ≡ wished (drop l.wish-index l.wishes) l.job l.resource
