-- The bytes of what a plan says, as objects of JSON, and in each form.
use Rattle.std.specs.Prelude.{ℕ, List, [], ◌∷◌, ◌++◌, codes, Option, Some, None}
use Rattle.std.specs.Fmt.{decimal}
use Rattle.std.specs.List.{concat, flat_map}
use Rattle.pb_accept.specs.Causes.{text_cause}
use Rattle.pb_accept.specs.Objects.{fault_json, limit_json, offset_json}
use Rattle.pb_accept.specs.declared.cause.Cause.{Cause}
use Rattle.pb_codegen.specs.declared.fault.CompileFault.{CompileFault}
use Rattle.pb_codegen.specs.declared.fault.CompileFault.TheVariants as fault
use Rattle.pb_joint.specs.Texts.{FullName}
use Rattle.pb_json.specs.Strings.{escaped, string_text}
use Rattle.pb_names.specs.Program.{Name}
use Rattle.pb_options.specs.Codes.{code_name}
use Rattle.pb_plan.specs.declared.part.Part.{Part}
use Rattle.pb_plan_engine.specs.Sayings.{Saying, Refused, Unknown, Claim, Resource, Bottleneck, Order, Nest, NoRequestWaits, NoOrder}
use Rattle.pb_plan_engine.specs.Sayings.{TooLong, NoMemory, line_of}
use Rattle.pb_voice.specs.Texts.{memory_json}
use Rattle.pb_voice.specs.declared.form.Form.{Form}
use Rattle.pb_voice.specs.declared.form.Form.TheVariants.{Lines, Objects}

-- the member for the number of a text, if there are several
abbrev pub of_json : Option ℕ → List ℕ
of_json None = []
of_json (Some number) = concat (codes ",\"of_text\":" ∷ decimal number ∷ [])

-- an object of this kind, as far as the process that it is of
abbrev pub called_json : (kind : List ℕ) → FullName → List ℕ
called_json kind process =
    concat (codes "{\"kind\":\"" ∷ kind ∷ codes "\",\"process\":" ∷ string_text process.name ∷ []) ++ of_json process.text

-- the line of a part, after a comma
abbrev pub later_json : Part → List ℕ
later_json part = concat (codes "," ∷ decimal part.line ∷ [])

-- the key for the lines of the parts, and the first of them
abbrev pub first_json : (line : ℕ) → List ℕ
first_json line = concat (codes ",\"lines\":[" ∷ decimal line ∷ [])

-- the member for the lines of parts, of which this is the first
abbrev pub some_parts_json : (first : ℕ) → (later : List Part) → List ℕ
some_parts_json first later = first_json first ++ (flat_map later_json later ++ codes "]")

-- the member for the lines of parts; none if there is no part
abbrev pub parts_json : List Part → List ℕ
parts_json [] = []
parts_json (first ∷ later) = some_parts_json first.line later

-- a claim on a resource, without its lines
abbrev pub claim_json : (amount : ℕ) → Name → List ℕ
claim_json amount resource =
    concat (codes ",\"claim\":" ∷ decimal amount ∷ codes ",\"resource\":" ∷ string_text resource ∷ [])

-- the resource of a nest and the line of each of the two holds
abbrev pub nest_json : (outer : Name) (outer_line : ℕ) (inner : Name) (inner_line : ℕ) → List ℕ
nest_json outer outer_line inner inner_line = concat (
    codes ",\"outer\":" ∷ string_text outer ∷ codes ",\"outer_line\":" ∷ decimal outer_line ∷ codes ",\"inner\":"
    ∷ string_text inner ∷ codes ",\"inner_line\":" ∷ decimal inner_line ∷ codes "}\n" ∷ [])

-- the name of a resource inside a string, after a blank
abbrev pub later_name : Name → List ℕ
later_name name = codes " " ++ flat_map escaped name

-- the names of resources inside a string, with blanks between them
abbrev pub names_json : List Name → List ℕ
names_json [] = []
names_json (first ∷ names) = flat_map escaped first ++ flat_map later_name names

-- the member after the code of a fault of a text
abbrev pub member_of : CompileFault → List ℕ
member_of (fault.Lex f) = []
member_of (fault.Parse f) = []
member_of (fault.Names f) = limit_json f
member_of (fault.Claims f) = []
member_of fault.Memory = []

-- the code of a cause with a member after it, and the end of its object
abbrev pub code_json : Option Cause → (member : List ℕ) → List ℕ
code_json None member = codes "}\n"
code_json (Some cause) member =
    concat (codes ",\"code\":\"" ∷ code_name cause.code ∷ codes "\"" ∷ offset_json cause.at ∷ member ∷ codes "}\n" ∷ [])

-- the front of the object of the refusal of a text that has this number
abbrev pub front_json : (number : ℕ) → List ℕ
front_json number = concat (codes "{\"kind\":\"refused\",\"of_text\":" ∷ decimal number ∷ [])

-- the object of the fault of a text that has this number
abbrev pub numbered_json : (number : ℕ) → CompileFault → List ℕ
numbered_json number f = front_json number ++ code_json (text_cause f) (member_of f)

-- the object of the fault of a text, with the number of the text, if there are several
abbrev pub refusal_json : Option ℕ → CompileFault → List ℕ
refusal_json None f = fault_json f
refusal_json (Some number) f = numbered_json number f

-- a thing as its object
abbrev pub json_of : Saying → List ℕ
json_of (Refused text f) = refusal_json text f
json_of (Unknown resource) = concat (codes "{\"kind\":\"refused\",\"code\":\"N3\",\"text\":" ∷ string_text resource ∷ codes "}\n" ∷ [])
json_of (Claim process amount resource parts) =
    called_json (codes "claim") process ++ (claim_json amount resource ++ (parts_json parts ++ codes "}\n"))
json_of (Resource name capital least free) = concat (
    codes "{\"kind\":\"resource\",\"resource\":" ∷ string_text name ∷ codes ",\"capital\":" ∷ decimal capital ∷ codes ",\"least\":"
    ∷ decimal least ∷ codes ",\"free\":" ∷ decimal free ∷ codes "}\n" ∷ [])
json_of (Bottleneck resource) = concat (codes "{\"kind\":\"bottleneck\",\"resource\":" ∷ string_text resource ∷ codes "}\n" ∷ [])
json_of (Order resources) = codes "{\"kind\":\"order\",\"text\":\"" ++ (names_json resources ++ codes "\"}\n")
json_of (Nest process outer outer_line inner inner_line) =
    called_json (codes "nest") process ++ nest_json outer outer_line inner inner_line
json_of NoRequestWaits = codes "{\"kind\":\"no request waits\"}\n"
json_of NoOrder = codes "{\"kind\":\"no order\"}\n"
json_of TooLong = codes "{\"kind\":\"refused\",\"code\":\"input\"}\n"
json_of NoMemory = memory_json

-- a thing in a form
abbrev pub text_of : Form → Saying → List ℕ
text_of Lines = line_of
text_of Objects = json_of
