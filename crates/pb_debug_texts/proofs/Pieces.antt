-- What is said in several pieces.
use Rattle.std.proofs.Common.{◌≡◌, ◌++◌, ℕ, List, ap, ◌∙◌, append_assoc}

-- a piece, and another
pub two : (a b old mid new : List ℕ) → mid ≡ old ++ a → new ≡ mid ++ b → new ≡ old ++ (a ++ b)
two a b old mid new first last = last ∙ (ap (λ (t : List ℕ). t ++ b) first ∙ append_assoc old a b)

-- a piece of two parts, and another
pub three : (a b c old mid new : List ℕ) → mid ≡ old ++ (a ++ b) → new ≡ mid ++ c → new ≡ old ++ (a ++ (b ++ c))
three a b c old mid new first last =
    two (a ++ b) c old mid new first last ∙ ap (λ (t : List ℕ). old ++ t) (append_assoc a b c)
