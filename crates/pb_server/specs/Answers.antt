-- What is said to each message of a client, and what is open then.
use Rattle.std.specs.Prelude.{◌≡◌, ℕ, List, [], ◌∷◌, Bool, true, Option, None, Some, option_and_then, option_map, codes}
use Rattle.std.specs.Str.{IsUtf8}
use Rattle.serde_json.specs.Data.{Data, null, array, no_items}
use Rattle.serde_json.specs.Read.{read}
use Rattle.pb_server.specs.Documents.{Document, text_of, with_text, without}
use Rattle.pb_server.specs.Founds.{FoundData, response_data}
use Rattle.pb_server.specs.Messages.{Called, Heard, heard_in, neither, notification, request, response}
use Rattle.pb_server.specs.Methods.{method_of, notice_of}
use Rattle.pb_server.specs.Params.{changed_text, opened_text, uri_in, version_in}
use Rattle.pb_server.specs.Responses.{capabilities_data, error_data, publishing_data, result_data}
use Rattle.pb_server.specs.declared.method.Method.{Method}
use Rattle.pb_server.specs.declared.method.Method.TheVariants as methods
use Rattle.pb_server.specs.declared.method.Notice.{Notice}
use Rattle.pb_server.specs.declared.method.Notice.TheVariants as notices
use Rattle.pb_server.specs.declared.query.Query.{Query}
use Rattle.pb_server.specs.declared.response.Fault.{Fault}
use Rattle.pb_server.specs.declared.response.Fault.TheVariants as faults
use Rattle.pb_server.specs.declared.session.Phase.{Phase}
use Rattle.pb_server.specs.declared.session.Phase.TheVariants as phases

-- the documents that are open, what the client has asked for so far, and whether it has gone
pub record Serving : Type 0 where
  pub documents : List Document
  pub phase : Phase
  pub over : Bool

-- ---- a language

-- which diagnostics a document with this name and text has
abbrev pub Diagnosing : Type 1
Diagnosing = (uri text : List ℕ) → Data → Type 0

-- what is found in the text of a document for a request with these parameters, or why nothing can be
abbrev pub Finding : Type 1
Finding = Query → (uri text : List ℕ) → Option Data → FoundData → Type 0

-- ---- requests

-- the request is refused, and nothing changes
abbrev pub Refuses : Serving → (id : Data) → Fault → (message : List ℕ) → List Data → Serving → Type 0
Refuses s id fault message told after = (told ≡ error_data id fault message ∷ []) × (after ≡ s)

-- the text of the document that the parameters name
abbrev pub text_named : List Document → Option (List ℕ) → Option (List ℕ)
text_named docs uri = option_and_then (λ u. text_of u docs) uri

-- a request about the text of a document, which has to be open
abbrev pub FindsIn : Finding → Query → (id : Data) → Option Data → (uri text : Option (List ℕ)) → List Data → Type 0
FindsIn Finds query id params (Some uri) (Some text) told =
    (found : FoundData) × Finds query uri text params found × (told ≡ response_data id found ∷ [])
FindsIn Finds query id params (Some uri) None told = told ≡ error_data id faults.WrongParams (codes "no open document has this URI") ∷ []
FindsIn Finds query id params None text told = told ≡ error_data id faults.WrongParams (codes "no open document has this URI") ∷ []

-- a request, once the server is initialized
abbrev pub AnswersOpen : Finding → Method → Serving → (id : Data) → Option Data → List Data → Serving → Type 0
AnswersOpen Finds methods.Initialize s id params told after =
    Refuses s id faults.NoRequest (codes "the server is initialized already") told after
AnswersOpen Finds methods.Shutdown s id params told after =
    (told ≡ result_data id null ∷ []) × (after ≡ record s { phase = phases.ShutDown })
AnswersOpen Finds (methods.Query query) s id params told after =
    FindsIn Finds query id params (uri_in params) (text_named s.documents (uri_in params)) told × (after ≡ s)
AnswersOpen Finds methods.Unknown s id params told after =
    Refuses s id faults.UnknownMethod (codes "this method is not known") told after

-- a request before that
abbrev pub AnswersNew : Method → Serving → (id : Data) → List Data → Serving → Type 0
AnswersNew methods.Initialize s id told after =
    (told ≡ result_data id capabilities_data ∷ []) × (after ≡ record s { phase = phases.Open })
AnswersNew methods.Shutdown s id told after = Refuses s id faults.NotInitialized (codes "the server is not initialized") told after
AnswersNew (methods.Query query) s id told after = Refuses s id faults.NotInitialized (codes "the server is not initialized") told after
AnswersNew methods.Unknown s id told after = Refuses s id faults.NotInitialized (codes "the server is not initialized") told after

-- a request, by how far the client has come
abbrev pub AnswersIn : Finding → Phase → Method → Serving → (id : Data) → Option Data → List Data → Serving → Type 0
AnswersIn Finds phases.New method s id params told after = AnswersNew method s id told after
AnswersIn Finds phases.Open method s id params told after = AnswersOpen Finds method s id params told after
AnswersIn Finds phases.ShutDown method s id params told after = Refuses s id faults.NoRequest (codes "the server is shut down") told after

-- the one response to a request, with its id
abbrev pub AnswersRequest : Finding → Serving → (id : Data) → Called → List Data → Serving → Type 0
AnswersRequest Finds s id call told after = AnswersIn Finds s.phase (method_of call.method) s id call.params told after

-- ---- notifications

-- nothing is said, and nothing changes
abbrev pub StaysSilent : Serving → List Data → Serving → Type 0
StaysSilent s told after = (told ≡ []) × (after ≡ s)

-- a document has a new text, and its diagnostics are published; nothing if no document or no text is told
abbrev pub TakesText : Diagnosing → Serving → (version : Option ℕ) → (uri text : Option (List ℕ)) → List Data → Serving → Type 0
TakesText Diagnoses s version (Some uri) (Some text) told after =
    (items : Data) × Diagnoses uri text items × (told ≡ publishing_data uri version items ∷ [])
    × (after ≡ record s { documents = with_text uri text s.documents })
TakesText Diagnoses s version (Some uri) None told after = StaysSilent s told after
TakesText Diagnoses s version None text told after = StaysSilent s told after

-- the name of a document, if it is open
abbrev pub open_uri : List Document → Option (List ℕ) → Option (List ℕ)
open_uri docs uri = option_and_then (λ u. option_map (λ text. u) (text_of u docs)) uri

-- an open document is closed, and has no diagnostics any more
abbrev pub Closes : Serving → Option (List ℕ) → List Data → Serving → Type 0
Closes s (Some uri) told after =
    (told ≡ publishing_data uri None (array no_items) ∷ []) × (after ≡ record s { documents = without uri s.documents })
Closes s None told after = StaysSilent s told after

-- the client goes
abbrev pub Leaves : Serving → List Data → Serving → Type 0
Leaves s told after = (told ≡ []) × (after ≡ record s { over = true })

-- a notification, while the server is initialized and not shut down
abbrev pub HearsOpen : Diagnosing → Notice → Serving → Option Data → List Data → Serving → Type 0
HearsOpen Diagnoses notices.Opened s params told after =
    TakesText Diagnoses s (version_in params) (uri_in params) (opened_text params) told after
HearsOpen Diagnoses notices.Changed s params told after =
    TakesText Diagnoses s (version_in params) (open_uri s.documents (uri_in params)) (changed_text params) told after
HearsOpen Diagnoses notices.Closed s params told after = Closes s (open_uri s.documents (uri_in params)) told after
HearsOpen Diagnoses notices.Exit s params told after = Leaves s told after
HearsOpen Diagnoses notices.Other s params told after = StaysSilent s told after

-- the same before and after that: only that the client goes is heard
abbrev pub HearsExit : Notice → Serving → List Data → Serving → Type 0
HearsExit notices.Opened s told after = StaysSilent s told after
HearsExit notices.Changed s told after = StaysSilent s told after
HearsExit notices.Closed s told after = StaysSilent s told after
HearsExit notices.Exit s told after = Leaves s told after
HearsExit notices.Other s told after = StaysSilent s told after

-- a notification, by how far the client has come
abbrev pub HearsIn : Diagnosing → Phase → Notice → Serving → Option Data → List Data → Serving → Type 0
HearsIn Diagnoses phases.New notice s params told after = HearsExit notice s told after
HearsIn Diagnoses phases.Open notice s params told after = HearsOpen Diagnoses notice s params told after
HearsIn Diagnoses phases.ShutDown notice s params told after = HearsExit notice s told after

-- what is said to a notification, which is no response
abbrev pub Hears : Diagnosing → Serving → Called → List Data → Serving → Type 0
Hears Diagnoses s call told after = HearsIn Diagnoses s.phase (notice_of call.method) s call.params told after

-- ---- all messages

-- a message, by what it is
abbrev pub AnswersHeard : Diagnosing → Finding → Heard → Serving → List Data → Serving → Type 0
AnswersHeard Diagnoses Finds (request id call) s told after = AnswersRequest Finds s id call told after
AnswersHeard Diagnoses Finds (notification call) s told after = Hears Diagnoses s call told after
AnswersHeard Diagnoses Finds response s told after = StaysSilent s told after
AnswersHeard Diagnoses Finds neither s told after = Refuses s null faults.NoRequest (codes "this is not a request") told after

-- the messages that answer a content
pub data AnswersContent (Diagnoses : Diagnosing) (Finds : Finding) (s : Serving) (content : List ℕ) : List Data → Serving → Type 0 where
  heard : (told : List Data) (after : Serving) (said : Data) → read content ≡ Some said
      → AnswersHeard Diagnoses Finds (heard_in said) s told after → AnswersContent Diagnoses Finds s content told after
  no_json : (told : List Data) (after : Serving) → (IsUtf8 content → read content ≡ None)
      → Refuses s null faults.NoJson (codes "this is not JSON") told after → AnswersContent Diagnoses Finds s content told after
