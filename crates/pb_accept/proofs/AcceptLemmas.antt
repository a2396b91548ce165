-- The lines of refused texts.
use Rattle.std.proofs.Common.{◌≡◌, ℕ, List, Option, Some, Result, Ok, Err, IfOk, subst, sym}
use Rattle.pb_base.specs.declared.memory.NoMemory.{NoMemory}
use Rattle.pb_code.specs.Whole.{Code, ProcessLabels}
use Rattle.pb_codegen.specs.Compiled.{IsCompiled}
use Rattle.pb_claims.specs.Fits.{FitCapital}
use Rattle.pb_base.specs.Lines.{line}
use Rattle.pb_accept.specs.Refusals.{IsAcceptedText, RefusesEarly, RefusesWith, SaysOfRefusedText, early}
use Rattle.pb_accept.specs.Refusals.{refused as by_line}
use Rattle.pb_command_io.specs.declared.reply.Reply.{Reply}
use Rattle.pb_command_io.specs.declared.status.Status.{Status}
use Rattle.pb_command_io.specs.declared.status.Status.TheVariants.{Refused}

-- a line that is written is that of the refusal
pub refuses_by : {V : Type 0} (seen : V → List ℕ) (r : Result V NoMemory) (text : List ℕ) (given : Option (List ℕ))
    → IfOk r (λ x. given ≡ Some (seen x)) → ((l : List ℕ) → given ≡ Some l → RefusesEarly text l)
    → IfOk r (λ x. RefusesEarly text (seen x))
refuses_by seen (Ok x) text given same is = is (seen x) same
refuses_by seen (Err e) text given same is = tt

-- a refusal that comes before the claims is one
pub is_refusal : {V : Type 0} (seen : V → List ℕ) (r : Result V NoMemory) (text : List ℕ)
    → IfOk r (λ x. RefusesEarly text (seen x)) → IfOk r (λ x. RefusesWith text (seen x))
is_refusal seen (Ok x) text is = early (seen x) is
is_refusal seen (Err e) text is = tt

-- a line of claims that is written is that of the refusal
pub refuses_claims : {V : Type 0} (seen : V → List ℕ) (r : Result V NoMemory) (text l : List ℕ) → IfOk r (λ x. seen x ≡ l)
    → RefusesWith text l → IfOk r (λ x. RefusesWith text (seen x))
refuses_claims seen (Ok x) text l same is = subst (RefusesWith text) (sym same) is
refuses_claims seen (Err e) text l same is = tt

-- a compiled text is accepted
pub compiled_is_accepted : (text : List ℕ) (code : Code) (labels : List ProcessLabels) → IsCompiled text code labels
    → IsAcceptedText text
compiled_is_accepted text code labels is = record {
  program = is.program;
  claims = code.claims;
  numbered = is.numbered;
  enough = subst (λ (c : Code). FitCapital code.claims c.capital) is.generated is.enough;
}

-- the reply with this line refuses the text
pub reply_refuses : (r : Result Reply NoMemory) (text l : List ℕ) → IfOk r (λ x. (x.text.items ≡ line l) × (x.status ≡ Refused))
    → RefusesWith text l → IfOk r (λ x. SaysOfRefusedText text x.text.items x.status)
reply_refuses (Ok x) text l (same, status) is =
    subst (λ (t : List ℕ). SaysOfRefusedText text t x.status) (sym same)
    (subst (λ (s : Status). SaysOfRefusedText text (line l) s) (sym status) (by_line l is))
reply_refuses (Err e) text l same is = tt
