-- What `lsp` says of an input, and with which status.
use Rattle.std.specs.Prelude.{◌≡◌, ℕ, List, codes, ◌∷◌, [], ◌++◌, length}
use Rattle.serde_json.specs.Data.{Data, null, string, object, no_members, member}
use Rattle.pb_command_io.specs.declared.status.Status.{Status}
use Rattle.pb_command_io.specs.declared.status.Status.TheVariants as status
use Rattle.pb_conversations.specs.Conversations.{IsOfBytes, texts}
use Rattle.pb_conversations.specs.declared.conversation.Stop.{Stop}
use Rattle.pb_conversations.specs.declared.conversation.Stop.TheVariants as stop
use Rattle.pb_diagnostics.specs.Actions.{AnswersActions}
use Rattle.pb_diagnostics.specs.Diagnostics as diagnostics
use Rattle.pb_frames.specs.Frames.{IsFrameFault}
use Rattle.pb_frames.specs.declared.fault.FrameFault.{FrameFault}
use Rattle.pb_server.specs.Answers.{Diagnosing, Finding, Serving}
use Rattle.pb_server.specs.Conversations.{AnswersRead, IsEnd, Talks, broken_data, fresh}
use Rattle.pb_server.specs.Founds.{FoundData, refused, result}
use Rattle.pb_server.specs.declared.query.Query.TheVariants as queries
use Rattle.pb_server.specs.declared.session.Phase.{Phase}
use Rattle.pb_server.specs.declared.session.Phase.TheVariants as phases
use Rattle.pb_server_claims.specs.Answers.{AnswersHints, AnswersHover}
use Rattle.pb_server_texts.specs.Answers.{AnswersCompletion, AnswersDefinition, AnswersReferences, AnswersRename, AnswersSymbols}

-- ---- the language

-- the diagnostics of a document are those of its text
abbrev pub Diagnoses : Diagnosing
Diagnoses uri text items = diagnostics.Diagnoses text items

-- a list of diagnostics that is whole, as the protocol has it
abbrev pub full_data : (items : Data) → Data
full_data items = object (member (codes "items") items (member (codes "kind") (string (codes "full")) no_members))

-- there is always a result, and it is one of these
abbrev pub FindsOneOf : (Data → Type 0) → FoundData → Type 0
FindsOneOf Is (result d) = Is d
FindsOneOf Is (refused message) = ⊥

-- all diagnostics of a document
abbrev pub AnswersDiagnostic : (uri text : List ℕ) → Data → Type 0
AnswersDiagnostic uri text d = (items : Data) × Diagnoses uri text items × (d ≡ full_data items)

-- the edits of a new name, or why there are none
abbrev pub renamed : Data → FoundData
renamed null = refused (codes "no name stands here, or the new name is not a valid one, or it is declared already")
renamed d = result d

-- what is found in a text
abbrev pub Finds : Finding
Finds queries.Diagnostic uri text params found = FindsOneOf (AnswersDiagnostic uri text) found
Finds queries.Definition uri text params found = FindsOneOf (AnswersDefinition uri text params) found
Finds queries.References uri text params found = FindsOneOf (AnswersReferences uri text params) found
Finds queries.Rename uri text params found = (d : Data) × AnswersRename uri text params d × (found ≡ renamed d)
Finds queries.Symbols uri text params found = FindsOneOf (AnswersSymbols text) found
Finds queries.Completion uri text params found = FindsOneOf (AnswersCompletion text params) found
Finds queries.Actions uri text params found = FindsOneOf (AnswersActions uri text) found
Finds queries.Hover uri text params found = FindsOneOf (AnswersHover text params) found
Finds queries.Hints uri text params found = FindsOneOf (AnswersHints text) found

-- ---- a conversation

-- the status when nothing more is answered: whether the client has asked that the server make an end
abbrev pub end_status : Phase → Status
end_status phases.New = status.Refused
end_status phases.Open = status.Refused
end_status phases.ShutDown = status.Done

-- the status for the end of a conversation that breaks off
abbrev pub stop_status : Stop → Status
stop_status stop.Broken = status.Refused
stop_status stop.Memory = status.Memory
stop_status stop.Device = status.Device

-- what is written if a conversation breaks off: all messages, and why no further one was read, if what comes next
-- is none; all, if out of memory; a first part, if a device failed
abbrev pub WritesText : Stop → (rest : List ℕ) → List Data → List ℕ → Type 0
WritesText stop.Broken rest messages text =
    (why : FrameFault) × IsOfBytes why × IsFrameFault why rest × (text ≡ texts messages ++ texts (broken_data why ∷ []))
WritesText stop.Memory rest messages text = text ≡ texts messages
WritesText stop.Device rest messages text =
    (why : FrameFault) × (left : List ℕ) × (texts messages ++ texts (broken_data why ∷ []) ≡ text ++ left)

-- the first messages of an input are answered
abbrev pub Talking : (bytes rest : List ℕ) → List Data → Serving → Type 0
Talking bytes rest messages after = Talks Diagnoses Finds fresh bytes rest messages after

-- what is written of an input, and the status: all messages are answered, or the conversation broke off
pub data SaysOfServer (bytes : List ℕ) : List ℕ → Status → Type 0 where
  served : (rest : List ℕ) (messages : List Data) (after : Serving) → (t : Talking bytes rest messages after)
      → IsEnd rest after (length t.contents) → SaysOfServer bytes (texts messages) (end_status after.phase)
  broke_off : (rest : List ℕ) (messages : List Data) (after : Serving) → Talking bytes rest messages after
      → (why : Stop) (text : List ℕ) → WritesText why rest messages text → SaysOfServer bytes text (stop_status why)

-- ---- a read that fails

-- the text is what is said to all messages that are whole in what was read
abbrev pub AnswersMessages : (read text : List ℕ) → Type 0
AnswersMessages read text = AnswersRead Diagnoses Finds fresh read text
