-- Texts one after another.
use Rattle.std.proofs.Common.{◌≡◌, ◌+◌, ◌++◌, ℕ, suc, List, ap, ◌∙◌, append_assoc, arith, subst}
use Rattle.pb_debug.specs.Arms.{InTurn, one_more}

-- one more text is said
pub said_next : (Says : ℕ → List ℕ → Type 0) (n : ℕ) (old mid new : List ℕ)
    → (said : List ℕ) × InTurn Says n said × (mid ≡ old ++ said) → (more : List ℕ) × Says n more × (new ≡ mid ++ more)
    → (said : List ℕ) × InTurn Says (n + 1) said × (new ≡ old ++ said)
said_next Says n old mid new (said, turn, before) (more, says, after) =
    let next : suc n ≡ n + 1 = omega arith in (
      said ++ more,
      subst (λ (k : ℕ). InTurn Says k (said ++ more)) next (one_more n said more turn says),
      after ∙ (ap (λ (t : List ℕ). t ++ more) before ∙ append_assoc old said more),
    )
