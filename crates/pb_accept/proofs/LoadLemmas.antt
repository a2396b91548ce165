-- From what reading and verifying return to what is said of an object.
use Rattle.std.proofs.Common.{◌≡◌, ℕ, List, Result, Ok, Err, IfOk, subst, sym}
use Rattle.pb_base.specs.declared.memory.NoMemory.{NoMemory}
use Rattle.pb_base.specs.Lines.{line}
use Rattle.pb_command_io.specs.declared.reply.Reply.{Reply}
use Rattle.pb_command_io.specs.declared.status.Status.{Status}
use Rattle.pb_command_io.specs.declared.status.Status.TheVariants.{Refused}

-- a fact of a line and of the status of a refusal holds of the reply with this line
pub of_refusal : (reply : Result Reply NoMemory) (text : List ℕ) (Says : List ℕ → Status → Type 0) → Says (line text) Refused
    → IfOk reply (λ r. (r.text.items ≡ line text) × (r.status ≡ Refused)) → IfOk reply (λ r. Says r.text.items r.status)
of_refusal (Ok r) text Says says (same, status) =
    subst (λ (t : List ℕ). Says t r.status) (sym same) (subst (λ (s : Status). Says (line text) s) (sym status) says)
of_refusal (Err e) text Says says is = tt
