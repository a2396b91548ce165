use Rattle.std.proofs.Common.{◌≡◌, ◌≤◌, drop, take, All}
use Rattle.pb_base.specs.Banker.{loan}
use Rattle.pb_bank.specs.Answers.{unheld}
use Rattle.pb_bank.proofs.ask.unheld.Given as goal

abbrev pub invariant-loop-i : goal.invariant-loop-i
invariant-loop-i l = record {
  first : unheld l.bank.state l.request.job (drop l.i l.request.bundle) ≡ unheld l.bank.state l.request.job l.request.bundle;
  none : All (λ pair. pair.amount ≤ loan l.bank.state l.request.job pair.resource) (take l.i l.request.bundle);
}
