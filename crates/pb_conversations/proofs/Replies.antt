-- Replies, from what the calls that make them say.
use Rattle.std.proofs.Common.{◌≡◌, List, Result, Ok, Err, IfOk, sym, subst}
use Rattle.serde_json.specs.Data.{Data}
use Rattle.pb_adapter_requests.specs.Responses.{told_by}
use Rattle.pb_adapter_requests.specs.declared.response.Reply.{Reply}

-- a reply that is known
pub told_known : {E : Type 0} (made : Result Reply E) (known : List Data) (P : List Data → Type 0)
    → IfOk made (λ reply. told_by reply ≡ known) → P known → IfOk made (λ reply. P (told_by reply))
told_known (Ok reply) known P is holds = subst P (sym is) holds
told_known (Err e) known P is holds = tt
