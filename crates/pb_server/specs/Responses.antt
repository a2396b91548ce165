-- The messages of the server. Their members are in the order of their names.
use Rattle.std.specs.Prelude.{ℕ, ℤ, negsuc, List, [], ◌∷◌, Option, None, Some, codes, true}
use Rattle.serde_json.specs.Data.{Data, boolean, number, string, object, unsigned, no_members, member}
use Rattle.serde_json.specs.Find.{of_integer}
use Rattle.serde_json.specs.View.{view}
use Rattle.serde_json.specs.declared.value.Value.{Value}
use Rattle.pb_server.specs.declared.response.Fault.{Fault}
use Rattle.pb_server.specs.declared.response.Fault.TheVariants as faults

-- the numbers that the protocol gives to faults; negsuc n is the negative of n + 1
abbrev pub fault_number : Fault → ℤ
fault_number faults.NoJson = negsuc 32699
fault_number faults.NoRequest = negsuc 32599
fault_number faults.UnknownMethod = negsuc 32600
fault_number faults.WrongParams = negsuc 32601
fault_number faults.NotInitialized = negsuc 32001
fault_number faults.RequestFailed = negsuc 32802

-- the response to a request that is carried out
abbrev pub result_data : (id result : Data) → Data
result_data id result = object (member (codes "id") id
    (member (codes "jsonrpc") (string (codes "2.0"))
    (member (codes "result") result no_members)))

-- the response to a request that is not, with the reason
abbrev pub reason_data : Fault → (message : List ℕ) → Data
reason_data fault message = object (member (codes "code") (number (of_integer (fault_number fault)))
    (member (codes "message") (string message) no_members))

-- a response with a fault in the place of a result
abbrev pub response_with : (id reason : Data) → Data
response_with id reason = object (member (codes "error") reason
    (member (codes "id") id
    (member (codes "jsonrpc") (string (codes "2.0")) no_members)))

-- the response to a request that is refused for this reason
abbrev pub error_data : (id : Data) → Fault → (message : List ℕ) → Data
error_data id fault message = response_with id (reason_data fault message)

-- what the diagnostics are of: a document, and the version of its text if that is told
abbrev pub of_document : (uri : List ℕ) → (items : Data) → Data
of_document uri items = object (member (codes "diagnostics") items (member (codes "uri") (string uri) no_members))

-- so it is with a version that is told
abbrev pub of_version : (uri : List ℕ) → (version : ℕ) → (items : Data) → Data
of_version uri version items = object (member (codes "diagnostics") items
    (member (codes "uri") (string uri)
    (member (codes "version") (number (unsigned version)) no_members)))

-- the parameters of a notification with diagnostics
abbrev pub published_data : (uri : List ℕ) → (version : Option ℕ) → (items : Data) → Data
published_data uri None items = of_document uri items
published_data uri (Some version) items = of_version uri version items

-- the notification with the diagnostics of a document
abbrev pub publishing_with : (params : Data) → Data
publishing_with params = object (member (codes "jsonrpc") (string (codes "2.0"))
    (member (codes "method") (string (codes "textDocument/publishDiagnostics"))
    (member (codes "params") params no_members)))

-- the notification with these diagnostics, and with the version if it is told
abbrev pub publishing_data : (uri : List ℕ) → (version : Option ℕ) → (items : Data) → Data
publishing_data uri version items = publishing_with (published_data uri version items)

-- what the server can do: it is told of documents that are opened and closed, and of each change by the whole text, and
-- it answers requests about a text
abbrev pub able_data : Data
able_data = object (member (codes "codeActionProvider") (boolean true)
    (member (codes "completionProvider") (object no_members)
    (member (codes "definitionProvider") (boolean true)
    (member (codes "documentSymbolProvider") (boolean true)
    (member (codes "hoverProvider") (boolean true)
    (member (codes "inlayHintProvider") (boolean true)
    (member (codes "positionEncoding") (string (codes "utf-16"))
    (member (codes "referencesProvider") (boolean true)
    (member (codes "renameProvider") (boolean true)
    (member (codes "textDocumentSync") (object (member (codes "change") (number (unsigned 1))
    (member (codes "openClose") (boolean true) no_members))) no_members))))))))))

-- the answer to `initialize`: what the server can do, and its name
abbrev pub capabilities_data : Data
capabilities_data = object (member (codes "capabilities") able_data
    (member (codes "serverInfo") (object (member (codes "name") (string (codes "parbegin")) no_members)) no_members))

-- the messages of a reply: one, or none
abbrev pub told_by : Option Value → List Data
told_by None = []
told_by (Some message) = view message ∷ []
