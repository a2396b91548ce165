use Rattle.std.proofs.Common.{◌≡◌, ◌++◌, ◌∷◌, []}
use Rattle.pb_bank.specs.Answers.{all_said_below, share_said}
use Rattle.pb_bank.proofs.state.say_shares.Given as goal

abbrev pub invariant-loop-r : goal.invariant-loop-r
invariant-loop-r l = l.out.items ≡ l.initial.out.items ++ all_said_below (λ r. share_said l.bank.state l.p r ∷ []) l.r
