-- A session: a debugger and its client.
use Rattle.std.specs.Prelude.{◌≡◌, ℕ, List, Bool, true, false}
use Rattle.serde_json.specs.Data.{Data}
use Rattle.pb_adapter_requests.specs.Kinds.{kind_of}
use Rattle.pb_adapter_requests.specs.Requests.{Asked}
use Rattle.pb_adapter_requests.specs.declared.kind.Kind.{Kind}
use Rattle.pb_adapter_requests.specs.declared.kind.Kind.TheVariants as kind
use Rattle.pb_debug.specs.Value.{Debugging}
use Rattle.pb_adapter.specs.Answers.{Answers, Client}

-- a run at a position, its client, and whether the client has gone
pub record Debugged : Type 0 where
  pub debugger : Debugging
  pub client : Client
  pub over : Bool

-- whether a request is the last
abbrev pub is_last : Kind → Bool
is_last kind.Disconnect = true
is_last _ = false

-- what a request is answered, and the session after it
abbrev pub AnswersIn : Debugged → ℕ → Asked → List Data → Debugged → Type 0
AnswersIn s seq r told next =
    Answers s.debugger s.client seq r told next.debugger next.client × (next.over ≡ is_last (kind_of r.command))
