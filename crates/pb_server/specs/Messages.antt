-- The messages of a client.
use Rattle.std.specs.Prelude.{ℕ, cond, not, ◌||◌, List, Bool, false, true, Option, None, Some, codes, option_map}
use Rattle.serde_json.specs.Data.{Data, null, boolean, number, string, array, object}
use Rattle.serde_json.specs.Find.{get, is_float}
use Rattle.serde_json.specs.View.{view}
use Rattle.pb_adapter_requests.specs.Requests.{text_in}
use Rattle.pb_server.specs.declared.message.Call.{Call}
use Rattle.pb_server.specs.declared.message.Message.{Message}
use Rattle.pb_server.specs.declared.message.Message.TheVariants as messages

-- an integer or a text, which the id of a request has to be
abbrev pub is_id : Data → Bool
is_id null = false
is_id (boolean b) = false
is_id (number n) = not (is_float n)
is_id (string s) = true
is_id (array ds) = false
is_id (object ms) = false

-- a method that is called, and with what, if that is said
pub record Called : Type 0 where
  pub method : List ℕ
  pub params : Option Data

-- what contracts see of a call
abbrev pub call_view : Call → Called
call_view c = record { method = c.method.now; params = option_map (λ v. view v.now) c.params }

-- a request, to which there is one response, with its id; a notification, to which there is none; a response of the
-- client, to which nothing is said; or none of these
pub data Heard : Type 0 where
  request : (id : Data) → Called → Heard
  notification : Called → Heard
  response : Heard
  neither : Heard

-- what contracts see of a message
abbrev pub message_view : Message → Heard
message_view (messages.Request id call) = request (view id.now) (call_view call)
message_view (messages.Notification call) = notification (call_view call)
message_view messages.Response = response
message_view messages.Neither = neither

-- whether a member is there
abbrev pub is_member : Option Data → Bool
is_member None = false
is_member (Some d) = true

-- what a message without a method is: a response, if it has a result or an error
abbrev pub without_method : Data → Heard
without_method d = cond (is_member (get (codes "result") d) || is_member (get (codes "error") d)) response neither

-- what a message is, by its id, its method and its parameters
abbrev pub heard_of : Data → (id : Option Data) → (method : Option (List ℕ)) → (params : Option Data) → Heard
heard_of d id None params = without_method d
heard_of d None (Some method) params = notification (record { method = method; params = params })
heard_of d (Some id) (Some method) params = cond (is_id id) (request id (record { method = method; params = params })) neither

-- what a message is
abbrev pub heard_in : Data → Heard
heard_in d = heard_of d (get (codes "id") d) (text_in (codes "method") d) (get (codes "params") d)
