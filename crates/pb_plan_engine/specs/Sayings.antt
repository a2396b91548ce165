-- What a plan says, as plain data, and the line of each thing.
use Rattle.std.specs.Prelude.{ℕ, cond, ◌==◌, List, [], ◌∷◌, ◌++◌, length, codes, Option, Some, None}
use Rattle.std.specs.Fmt.{decimal}
use Rattle.std.specs.List.{concat, flat_map}
use Rattle.pb_accept.specs.Sayings.{fault_said}
use Rattle.pb_base.specs.Lines.{line}
use Rattle.pb_codegen.specs.declared.fault.CompileFault.{CompileFault}
use Rattle.pb_command_io.specs.Answers.{memory_line}
use Rattle.pb_joint.specs.Texts.{FullName}
use Rattle.pb_names.specs.Program.{Name}
use Rattle.pb_plan.specs.declared.part.Part.{Part}

-- one thing that is said
pub data Saying : Type 0 where
  Refused : (text : Option ℕ) → CompileFault → Saying
  Unknown : (resource : Name) → Saying
  Claim : (process : FullName) (amount : ℕ) (resource : Name) (parts : List Part) → Saying
  Resource : (name : Name) (capital least free : ℕ) → Saying
  Bottleneck : (resource : Name) → Saying
  Order : (resources : List Name) → Saying
  Nest : (process : FullName) (outer : Name) (outer_line : ℕ) (inner : Name) (inner_line : ℕ) → Saying
  NoRequestWaits NoOrder TooLong NoMemory : Saying

-- before the refusal of a text: its number, if there are several
abbrev pub text_words : Option ℕ → List ℕ
text_words None = []
text_words (Some number) = concat (codes "text " ∷ decimal number ∷ codes " " ∷ [])

-- after the name of a process: the number of its text, if there are several
abbrev pub of_words : Option ℕ → List ℕ
of_words None = []
of_words (Some number) = concat (codes " of text " ∷ decimal number ∷ [])

-- what a process is called
abbrev pub called_text : FullName → List ℕ
called_text process = process.name ++ of_words process.text

-- the source line of a part, after a blank
abbrev pub line_text : Part → List ℕ
line_text part = concat (codes " " ∷ decimal part.line ∷ [])

-- the word `lines` and the line of each part
abbrev pub some_lines_text : List Part → List ℕ
some_lines_text parts = codes " lines" ++ flat_map line_text parts

-- the same; nothing if there is no part
abbrev pub lines_text : List Part → List ℕ
lines_text parts = cond (length parts == 0) [] (some_lines_text parts)

-- the claim of a process on a resource, without the lines that it comes from
abbrev pub claimed_words : (amount : ℕ) → Name → List ℕ
claimed_words amount resource = concat (codes " claim " ∷ decimal amount ∷ codes " " ∷ resource ∷ [])

-- the resource of a nest and the line of each of the two holds
abbrev pub nest_words : (outer : Name) (outer_line : ℕ) (inner : Name) (inner_line : ℕ) → List ℕ
nest_words outer outer_line inner inner_line = concat (
    codes " holds " ∷ outer ∷ codes " line " ∷ decimal outer_line ∷ codes " around " ∷ inner ∷ codes " line "
    ∷ decimal inner_line ∷ codes "\n" ∷ [])

-- the name of a resource, after a blank
abbrev pub name_text : Name → List ℕ
name_text name = concat (codes " " ∷ name ∷ [])

-- a thing as its line
abbrev pub line_of : Saying → List ℕ
line_of (Refused text f) = text_words text ++ fault_said f
line_of (Unknown resource) = concat (codes "refused N3 " ∷ resource ∷ codes "\n" ∷ [])
line_of (Claim process amount resource parts) =
    called_text process ++ (claimed_words amount resource ++ (lines_text parts ++ codes "\n"))
line_of (Resource name capital least free) = concat (
    name ∷ codes " capital " ∷ decimal capital ∷ codes " least " ∷ decimal least ∷ codes " free " ∷ decimal free ∷ codes "\n" ∷ [])
line_of (Bottleneck resource) = concat (codes "bottleneck " ∷ resource ∷ codes "\n" ∷ [])
line_of (Order resources) = codes "order" ++ (flat_map name_text resources ++ codes "\n")
line_of (Nest process outer outer_line inner inner_line) = called_text process ++ nest_words outer outer_line inner inner_line
line_of NoRequestWaits = line (codes "no request waits")
line_of NoOrder = line (codes "no order")
line_of TooLong = line (codes "refused input")
line_of NoMemory = memory_line
