-- What `explain` writes: the page of a code, or a line for each code.
use Rattle.std.specs.Prelude.{◌++◌, ◌∷◌, ℕ, List, [], Option, Some, None, codes}
use Rattle.std.specs.Fmt.{decimal}
use Rattle.std.specs.List.{concat, flat_map}
use Rattle.pb_base.specs.Lines.{line}
use Rattle.pb_command_io.specs.declared.status.Status.{Status}
use Rattle.pb_command_io.specs.declared.status.Status.TheVariants.{Done, Memory}
use Rattle.pb_json.specs.Strings.{string_text}
use Rattle.pb_options.specs.Codes.{all_codes, code_name}
use Rattle.pb_options.specs.declared.code.Code.{Code}
use Rattle.pb_voice.specs.Texts.{memory_in, text_as}
use Rattle.pb_voice.specs.declared.form.Form.{Form}
use Rattle.pb_voice.specs.declared.form.Form.TheVariants.{Lines, Objects}
use Rattle.pb_explain.specs.Entries.{entry_of}
use Rattle.pb_explain.specs.Explanation.{Explanation, PlainExample, PlainInput, Text, Repeated}

-- the first line of a page, and the line of a code on the list: the code and the meaning in a few words
abbrev pub title_line : Code → Explanation → List ℕ
title_line code entry = concat (code_name code ∷ codes ": " ∷ entry.summary ∷ codes "\n" ∷ [])

-- what makes the first line of an input and a line that is repeated
abbrev pub repetition_text : List ℕ → ℕ → List ℕ
repetition_text repeated times =
    codes "(echo process p begin; yes '" ++ repeated ++ codes "' | head -n " ++ decimal times

-- a call as a shell takes it: the words of the command, and how its input is made
abbrev pub shell_text : List ℕ → PlainInput → List ℕ
shell_text command (Text text) =
    codes "parbegin " ++ command ++ codes " <<END\n" ++ text ++ codes "END\n"
shell_text command (Repeated repeated times) =
    repetition_text repeated times ++ codes "; echo print 1 end) | parbegin " ++ line command

-- a call that is refused or warned of, and what it writes
abbrev pub example_text : PlainExample → List ℕ
example_text example =
    codes "\nFor example:\n\n" ++ shell_text example.command example.input
    ++ codes "\nshows\n\n" ++ line example.answer

-- the same, if there is an example
abbrev pub examples_text : Option PlainExample → List ℕ
examples_text (Some example) = example_text example
examples_text None = []

-- what a page has after its first line: the meaning, the example, and what to do
abbrev pub body_text : Explanation → List ℕ
body_text entry =
    line [] ++ (line entry.meaning ++ (examples_text entry.example ++ (line [] ++ line entry.mend)))

-- ---- in a form

-- the first line as an object
abbrev pub title_json : Code → Explanation → List ℕ
title_json code entry = concat (
    codes "{\"kind\":\"code\",\"code\":\"" ∷ code_name code ∷ codes "\",\"text\":" ∷ string_text entry.summary ∷ codes "}\n" ∷ [])

-- the first line
abbrev pub title_in : Form → Code → Explanation → List ℕ
title_in Lines = title_line
title_in Objects = title_json

-- the page of a code: its first line, and what is after it
abbrev pub page_of_entry : Form → Code → Explanation → List ℕ
page_of_entry form code entry = title_in form code entry ++ text_as form (body_text entry)

-- the page of this code
abbrev pub page_of : Form → Code → List ℕ
page_of form code = page_of_entry form code (entry_of code)

-- the first line of the page of each code
abbrev pub list_of_codes : Form → List Code → List ℕ
list_of_codes form listed = flat_map (λ code. title_in form code (entry_of code)) listed

-- the page of the code that is asked for, or the list of all codes
abbrev pub explanation_of : Form → Option Code → List ℕ
explanation_of form (Some code) = page_of form code
explanation_of form None = list_of_codes form all_codes

-- what `explain` says in a form: that, or it is out of memory for it
pub data SaysOfExplain (form : Form) (asked : Option Code) : List ℕ → Status → Type 0 where
  explained : SaysOfExplain form asked (explanation_of form asked) Done
  no_memory : SaysOfExplain form asked (memory_in form) Memory
