-- Results that may be none, or out of memory.
use Rattle.std.proofs.Common.{Option, Some, None, Result, Ok, Err}
use Rattle.std.specs.Prelude.{IfOk, IfSome, IfNone}

pub some_weaker : {T E : Type 0} (r : Result (Option T) E) {P Q : T → Type 0} → ((t : T) → P t → Q t) → IfOk r (λ
    answer. IfSome answer P) → IfOk r (λ answer. IfSome answer Q)
some_weaker (Ok (Some t)) h p = h t p
some_weaker (Ok None) h p = tt
some_weaker (Err e) h p = tt

pub none_weaker : {T E : Type 0} (r : Result (Option T) E) {P Q : Type 0} → (P → Q) → IfOk r (λ answer. IfNone answer P) → IfOk r (λ answer. IfNone answer Q)
none_weaker (Ok (Some t)) h p = tt
none_weaker (Ok None) h p = h p
none_weaker (Err e) h p = tt

-- two facts of what was found are one
pub ok_both : {T E : Type 0} (r : Result T E) {P Q R : T → Type 0} → ((t : T) → P t → Q t → R t) → IfOk r P → IfOk r Q → IfOk r R
ok_both (Ok t) h p q = h t p q
ok_both (Err e) h p q = tt
