-- What `outcomes` says, as plain data, and the bytes of each thing in a form.
use Rattle.std.specs.Prelude.{ℕ, List}
use Rattle.pb_accept.specs.Objects as base
use Rattle.pb_accept.specs.Sayings.{NoMemory, Saying as BaseSaying, TooLong}
use Rattle.pb_accept.specs.View as base_view
use Rattle.pb_base.specs.Lines.{NameTable, names_view}
use Rattle.pb_code.specs.View.{labels_view}
use Rattle.pb_code.specs.Whole.{ProcessLabels}
use Rattle.pb_command_io.specs.declared.status.Status.{Status}
use Rattle.pb_search_engine.specs.ItemLines.{item_lines}
use Rattle.pb_search_engine.specs.ItemObjects.{item_json}
use Rattle.pb_search_engine.specs.Items.{Item, given_item_view}
use Rattle.pb_search_engine.specs.OtherTexts.{bad_json, bad_line, lacks_json, other_line}
use Rattle.pb_search_engine.specs.Requirements.{requirement_text}
use Rattle.pb_search_engine.specs.declared.requirements.Requirement.{Requirement}
use Rattle.pb_search_engine.specs.declared.said.Said.{Said}
use Rattle.pb_search_engine.specs.declared.said.Said.TheVariants as given
use Rattle.pb_voice.specs.Inputs as inputs
use Rattle.pb_voice.specs.declared.form.Form.{Form}
use Rattle.pb_voice.specs.declared.form.Form.TheVariants.{Lines, Objects}

-- one thing that is said: what any command over texts may say; that the line of what is asked of a text that begins at this
-- place asks for nothing; that the text has not what is required of it; or what is found of code with these names
pub data Saying : Type 0 where
  Plain : BaseSaying → Saying
  BadLine : (at : ℕ) → Saying
  Lacks : Requirement → Saying
  Finds : NameTable → List ProcessLabels → Item → Saying

-- one thing that is said, as it is held, seen as plain data
abbrev pub said_view : Said → Saying
said_view (given.Plain said) = Plain (base_view.said_view said)
said_view (given.BadLine at) = BadLine at
said_view (given.Lacks requirement) = Lacks requirement
said_view (given.Finds shown) = Finds (names_view shown.names.now) (labels_view shown.labels.now) (given_item_view shown.item.now)

-- a thing as its lines
abbrev pub line_of : Saying → List ℕ
line_of (Plain said) = base.text_of Lines said
line_of (BadLine at) = bad_line at
line_of (Lacks requirement) = other_line (requirement_text requirement)
line_of (Finds names labels item) = item_lines names labels item

-- a thing as its object
abbrev pub json_of : Saying → List ℕ
json_of (Plain said) = base.text_of Objects said
json_of (BadLine at) = bad_json at
json_of (Lacks requirement) = lacks_json requirement
json_of (Finds names labels item) = item_json names labels item

-- a thing in a form
abbrev pub text_of : Form → Saying → List ℕ
text_of Lines = line_of
text_of Objects = json_of

-- what may be said of any input of which this is said if it is read
abbrev pub SaysOfAnyInput : (List ℕ → List Saying → Status → Type 0) → List ℕ → List Saying → Status → Type 0
SaysOfAnyInput = inputs.SaysOfWhole (Plain TooLong) (Plain NoMemory)
