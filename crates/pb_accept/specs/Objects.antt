-- The bytes of what commands say, as objects of JSON, and in each form.
use Rattle.std.specs.Prelude.{ℕ, List, [], ◌∷◌, ◌++◌, codes, Option, Some, None}
use Rattle.std.specs.Fmt.{decimal}
use Rattle.std.specs.List.{concat}
use Rattle.pb_accept.specs.Causes.{lex_cause, lines_cause, load_cause, names_cause, parse_cause}
use Rattle.pb_accept.specs.EventObjects.{event_json}
use Rattle.pb_accept.specs.Recordings.{recorded_json}
use Rattle.pb_accept.specs.Sayings.{Saying, Accepted, Refused, Claim, NoCode, NoPicks, BeyondFirst, Text, Shows, Ended, Limit, Threads}
use Rattle.pb_accept.specs.Sayings.{Warns, Recorded, TooLong, LongOutput, NoMemory, line_of}
use Rattle.pb_accept.specs.Warned.{warning_json}
use Rattle.pb_accept.specs.declared.cause.Cause.{Cause}
use Rattle.pb_accept.specs.declared.ending.Ending.{Ending}
use Rattle.pb_accept.specs.declared.ending.Ending.TheVariants.{Over, Stuck, Open}
use Rattle.pb_codegen.specs.declared.fault.ClaimsFault.{ClaimsFault}
use Rattle.pb_codegen.specs.declared.fault.CompileFault.{CompileFault}
use Rattle.pb_codegen.specs.declared.fault.CompileFault.TheVariants as fault
use Rattle.pb_json.specs.Strings.{string_text}
use Rattle.pb_names.specs.declared.fault.Kind.{Kind}
use Rattle.pb_names.specs.declared.fault.Kind.TheVariants.{Processes, Resources, Integers, Fork, Arms}
use Rattle.pb_names.specs.declared.fault.NameFault.{NameFault}
use Rattle.pb_names.specs.declared.fault.NameFault.TheVariants as names
use Rattle.pb_options.specs.Codes.{code_name}
use Rattle.pb_voice.specs.Texts.{lines_json, memory_json}
use Rattle.pb_voice.specs.declared.form.Form.{Form}
use Rattle.pb_voice.specs.declared.form.Form.TheVariants.{Lines, Objects}

-- an offset after a code
abbrev pub offset_json : Option ℕ → List ℕ
offset_json None = []
offset_json (Some at) = codes ",\"at\":" ++ decimal at

-- what there is too much of
abbrev pub kind_json : Kind → List ℕ
kind_json Processes = codes ",\"text\":\"processes\""
kind_json Resources = codes ",\"text\":\"resources\""
kind_json Integers = codes ",\"text\":\"integers\""
kind_json Fork = codes ",\"text\":\"fork\""
kind_json Arms = codes ",\"text\":\"arms\""

-- the member after the code of a fault of names
abbrev pub limit_json : NameFault → List ℕ
limit_json (names.TooMany kind) = kind_json kind
limit_json (names.Twice at) = []
limit_json (names.Unknown at) = []
limit_json (names.Amount at) = []
limit_json (names.Repeated at) = []
limit_json names.NoMemory = []

-- the object of a cause with a member after it
abbrev pub cause_json : Option Cause → (member : List ℕ) → List ℕ
cause_json None member = memory_json
cause_json (Some cause) member = concat (
    codes "{\"kind\":\"refused\",\"code\":\"" ∷ code_name cause.code ∷ codes "\"" ∷ offset_json cause.at ∷ member ∷ codes "}\n" ∷ [])

-- the object of a claim that is over its capital
abbrev pub over_json : ClaimsFault → List ℕ
over_json f = concat (
    codes "{\"kind\":\"refused\",\"code\":\"C1\",\"process\":" ∷ string_text f.process.items ∷ codes ",\"resource\":"
    ∷ string_text f.resource.items ∷ codes ",\"claim\":" ∷ decimal f.claim ∷ codes ",\"capital\":" ∷ decimal f.capital
    ∷ codes "}\n" ∷ [])

-- the object of the fault of a text
abbrev pub fault_json : CompileFault → List ℕ
fault_json (fault.Lex f) = cause_json (lex_cause f) []
fault_json (fault.Parse f) = cause_json (parse_cause f) []
fault_json (fault.Names f) = cause_json (names_cause f) (limit_json f)
fault_json (fault.Claims f) = over_json f
fault_json fault.Memory = memory_json

-- the object of how a replay ended
abbrev pub ending_json : Ending → List ℕ
ending_json Over = codes "{\"kind\":\"done\"}\n"
ending_json Stuck = codes "{\"kind\":\"deadlocked\"}\n"
ending_json Open = codes "{\"kind\":\"open\"}\n"

-- a thing as its object; a text as one for each of its lines
abbrev pub json_of : Saying → List ℕ
json_of Accepted = codes "{\"kind\":\"ok\"}\n"
json_of (Refused f) = fault_json f
json_of (Claim process amount resource) = concat (
    codes "{\"kind\":\"claim\",\"process\":" ∷ string_text process ∷ codes ",\"claim\":" ∷ decimal amount
    ∷ codes ",\"resource\":" ∷ string_text resource ∷ codes "}\n" ∷ [])
json_of (NoCode f) = cause_json (load_cause f) []
json_of (NoPicks f) = cause_json (lines_cause f) []
json_of BeyondFirst = codes "{\"kind\":\"refused\",\"code\":\"E1\"}\n"
json_of (Text text) = lines_json (codes "line") text
json_of (Recorded text names picks) = recorded_json text names picks
json_of (Shows names shown) = event_json names shown
json_of (Ended ending) = ending_json ending
json_of (Limit steps) = concat (codes "{\"kind\":\"limit\",\"limit\":" ∷ decimal steps ∷ codes "}\n" ∷ [])
json_of (Warns warning) = warning_json warning
json_of Threads = codes "{\"kind\":\"threads\"}\n"
json_of TooLong = codes "{\"kind\":\"refused\",\"code\":\"input\"}\n"
json_of LongOutput = codes "{\"kind\":\"refused\",\"code\":\"output\"}\n"
json_of NoMemory = memory_json

-- a thing in a form
abbrev pub text_of : Form → Saying → List ℕ
text_of Lines = line_of
text_of Objects = json_of
