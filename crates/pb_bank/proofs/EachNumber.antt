-- What is said of each number below another, as a loop says it.
use Rattle.std.proofs.Common.{◌≡◌, ℕ, suc, ◌+◌, ◌++◌, List, ap, ◌∙◌}
use Rattle.std.proofs.Common.{append_assoc, arith}
use Rattle.pb_base.specs.Lines.{each_below}
use Rattle.pb_bank.specs.Answers.{all_said_below}
use Rattle.pb_bank.specs.declared.said.Said.{Said}

-- one number more
pub each_next : (said : ℕ → List ℕ) (n : ℕ) (old mid new : List ℕ)
    → mid ≡ old ++ each_below said n → new ≡ mid ++ said n → new ≡ old ++ each_below said (n + 1)
each_next said n old mid new before more =
    let next : suc n ≡ n + 1 = omega arith in
    more
    ∙ (ap (λ (t : List ℕ). t ++ said n) before
    ∙ (append_assoc old (each_below said n) (said n)
    ∙ ap (λ k. old ++ each_below said k) next))

-- so it is of things that are said
pub all_next : (said : ℕ → List Said) (n : ℕ) (old mid new : List Said)
    → mid ≡ old ++ all_said_below said n → new ≡ mid ++ said n → new ≡ old ++ all_said_below said (n + 1)
all_next said n old mid new before more =
    let next : suc n ≡ n + 1 = omega arith in
    more
    ∙ (ap (λ (t : List Said). t ++ said n) before
    ∙ (append_assoc old (all_said_below said n) (said n)
    ∙ ap (λ k. old ++ all_said_below said k) next))
