-- What is made of numbers, one more at a time.
use Rattle.std.proofs.Common.{◌≡◌, ◌∙◌, ℕ, ◌+◌, List, ◌++◌, ap, add-one}
use Rattle.std.proofs.lemmas.List.{append_assoc}
use Rattle.pb_server_claims.specs.Below.{each_below}

-- what is made so far, and that of the next number
pub each_next : {X : Type 0} (f : ℕ → List X) (n : ℕ) (old so_far new made : List X) → so_far ≡ old ++ each_below f n
    → new ≡ so_far ++ made → made ≡ f n → new ≡ old ++ each_below f (n + 1)
each_next {X} f n old so_far new made before now is =
    rw add-one (now ∙ ap (λ (t : List X). t ++ made) before ∙ append_assoc old (each_below f n) made
    ∙ ap (λ (t : List X). old ++ (each_below f n ++ t)) is)
