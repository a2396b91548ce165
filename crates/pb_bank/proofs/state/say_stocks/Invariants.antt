use Rattle.std.proofs.Common.{◌≡◌, ◌++◌, ◌∷◌, []}
use Rattle.pb_bank.specs.Answers.{all_said_below, stock_said}
use Rattle.pb_bank.proofs.state.say_stocks.Given as goal

abbrev pub invariant-loop-r : goal.invariant-loop-r
invariant-loop-r l = l.out.items ≡ l.initial.out.items ++ all_said_below (λ r. stock_said l.bank.state r ∷ []) l.r
