-- Answers that are written whole or in part.
use Rattle.std.proofs.Common.{◌≡◌, ◌++◌, ℕ, List, [], Option, Some, None, refl, sym, ap, ◌∙◌, append_assoc, append-nil}
use Rattle.pb_base.specs.Device.{appended, AddsPrefix}
use Rattle.pb_base.proofs.DeviceLemmas.{appended-appended}

-- nothing more is written
pub appended_none : (old : Option (List ℕ)) → appended old [] ≡ old
appended_none None = refl
appended_none (Some held) = ap Some (append-nil held)

-- a part after what was written whole
pub prefix_more : (old mid new : Option (List ℕ)) (a b : List ℕ) → mid ≡ appended old a → AddsPrefix mid new b → AddsPrefix old new (a ++ b)
prefix_more old mid new a b e (done, left, parts, written) = (
  a ++ done,
  left,
  ap (λ (t : List ℕ). a ++ t) parts ∙ sym (append_assoc a done left),
  written ∙ (ap (λ o. appended o done) e ∙ appended-appended old a done),
)

-- what was written whole is a part of itself
pub whole_prefix : (old new : Option (List ℕ)) (a : List ℕ) → new ≡ appended old a → AddsPrefix old new a
whole_prefix old new a e = (a, [], sym (append-nil a), e)
