-- What is written of things that a bank says, in a form.
use Rattle.std.specs.Prelude.{ℕ, List, []}
use Rattle.std.specs.List.{flat_map}
use Rattle.pb_bank.specs.Objects.{json_of}
use Rattle.pb_bank.specs.Sayings.{Saying}
use Rattle.pb_bank.specs.Tables.{line_of}
use Rattle.pb_bank.specs.declared.said.Said.TheVariants.{NoMemory}
use Rattle.pb_voice.specs.declared.form.Form.{Form}
use Rattle.pb_voice.specs.declared.form.Form.TheVariants.{Lines, Objects}

-- a thing in a form
abbrev pub text_of : Form → Saying → List ℕ
text_of Lines = line_of
text_of Objects = json_of

-- things one after another, each in the same form
abbrev pub spoken : Form → List Saying → List ℕ
spoken form said = flat_map (text_of form) said

-- out of memory, which speaks of no names
abbrev pub memory_said : Saying
memory_said = record { names = record { processes = []; resources = [] }; about = []; said = NoMemory }
