-- The messages of an adapter. Their members are in the order of their names.
use Rattle.std.specs.Prelude.{ℕ, zero, suc, List, [], ◌∷◌, ◌++◌, Option, Some, None, codes, true, false}
use Rattle.serde_json.specs.Data.{Data, boolean, number, string, array, object, unsigned, no_members, member}
use Rattle.serde_json.specs.View.{items_of, view}
use Rattle.pb_adapter_requests.specs.Requests.{Asked}
use Rattle.serde_json.specs.declared.value.Value.{Value}
use Rattle.pb_adapter_requests.specs.declared.response.Reply.{Reply}

-- a request was carried out; what it asks for is in the body
abbrev pub done_data : (seq : ℕ) → Asked → (body : Data) → Data
done_data seq r body = object (member (codes "body") body
    (member (codes "command") (string r.command)
    (member (codes "request_seq") (number (unsigned r.seq))
    (member (codes "seq") (number (unsigned seq))
    (member (codes "success") (boolean true)
    (member (codes "type") (string (codes "response")) no_members))))))

-- the request with this number was not carried out, with the reason
abbrev pub failed_data : (seq asked : ℕ) → (command message : List ℕ) → Data
failed_data seq asked command message = object (member (codes "command") (string command)
    (member (codes "message") (string message)
    (member (codes "request_seq") (number (unsigned asked))
    (member (codes "seq") (number (unsigned seq))
    (member (codes "success") (boolean false)
    (member (codes "type") (string (codes "response")) no_members))))))

-- a request was not carried out, with the reason
abbrev pub refused_data : (seq : ℕ) → Asked → (message : List ℕ) → Data
refused_data seq r message = failed_data seq r.seq r.command message

-- an event, with what it says
abbrev pub event_data : (seq : ℕ) → (name : List ℕ) → (body : Data) → Data
event_data seq name body = object (member (codes "body") body
    (member (codes "event") (string name)
    (member (codes "seq") (number (unsigned seq))
    (member (codes "type") (string (codes "event")) no_members))))

-- something of each number below n
abbrev pub list_below : (ℕ → Data) → ℕ → List Data
list_below told zero = []
list_below told (suc n) = list_below told n ++ told n ∷ []

-- a list, as the one member of an object
abbrev pub listed : (name : List ℕ) → List Data → Data
listed name items = object (member name (array (items_of items)) no_members)

-- the messages of a reply
abbrev pub event_in : Option Value → List Data
event_in None = []
event_in (Some event) = view event ∷ []

-- the response of a reply, and its event after that
abbrev pub told_by : Reply → List Data
told_by reply = view reply.response ∷ event_in reply.event
