use Rattle.std.proofs.Common.{◌≡◌, take}
use Rattle.pb_bank.proofs.come.amounts_with.Given as goal

abbrev pub invariant-loop-r : goal.invariant-loop-r
invariant-loop-r l = l.amounts.items ≡ take l.r l.bank.state.capital
