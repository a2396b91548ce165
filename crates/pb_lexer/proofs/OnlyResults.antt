-- A result that is right is the only right one.
use Rattle.std.proofs.Common.{◌≡◌, ℕ, ◌⊎◌, inl, inr, List, Result, Ok, Err, IfOk, IfErr, refl}
use Rattle.pb_lexer.specs.declared.fault.LexFault.{LexFault}
use Rattle.pb_lexer.specs.declared.fault.LexFault.TheVariants as fault
use Rattle.pb_lexer.specs.Tokens.{Token}
use Rattle.pb_lexer.specs.Cutting.{AreTokensOf, Refuses, ReturnsTokens, ReturnsFault}
use Rattle.pb_lexer.proofs.Cuttings.{one_cutting}
use Rattle.pb_lexer.proofs.Faults.{no_fault, one_fault}

is_memory : (e : LexFault) → (e ≡ fault.NoMemory) ⊎ (e ≡ fault.NoMemory → ⊥)
is_memory fault.NoMemory = inl refl
is_memory _ = inr (λ e. cc)

pub only_tokens : {X : Type 0} (view : X → List Token) (r : Result X LexFault) (text : List ℕ)
    → IfOk r (λ x. AreTokensOf text (view x)) → IfErr r (λ e. Refuses text e)
    → (ts : List Token) → AreTokensOf text ts → ReturnsTokens view r ts
only_tokens view (Ok x) text found failed ts is = one_cutting text (view x) ts found.cuts is.cuts
only_tokens view (Err e) text found failed ts is = elim (is_memory e) [
  | inl m ↦ m
  | inr real ↦ absurd (no_fault text ts e is real failed)
]

pub only_fault : {X : Type 0} (view : X → List Token) (r : Result X LexFault) (text : List ℕ)
    → IfOk r (λ x. AreTokensOf text (view x)) → IfErr r (λ e. Refuses text e)
    → (e : LexFault) → (e ≡ fault.NoMemory → ⊥) → Refuses text e → ReturnsFault r e
only_fault view (Ok x) text found failed e real is = no_fault text (view x) e found real is
only_fault view (Err f) text found failed e real is = elim (is_memory f) [
  | inl m ↦ inl m
  | inr other ↦ inr (one_fault text f e other real failed is)
]
