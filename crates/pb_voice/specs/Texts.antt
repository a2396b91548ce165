-- Texts in a form: as they are, or each of their lines as an object of JSON.
use Rattle.std.specs.Prelude.{ℕ, cond, ◌==◌, List, [], ◌∷◌, codes}
use Rattle.std.specs.List.{concat, flat_map}
use Rattle.pb_command_io.specs.Answers.{memory_line}
use Rattle.pb_json.specs.Strings.{string_text}
use Rattle.pb_voice.specs.declared.form.Form.{Form}
use Rattle.pb_voice.specs.declared.form.Form.TheVariants.{Lines, Objects}

-- a byte at the front of the first line
abbrev pub onto : ℕ → List (List ℕ) → List (List ℕ)
onto b [] = (b ∷ []) ∷ []
onto b (first ∷ lines) = (b ∷ first) ∷ lines

-- the lines of a text, without their line feeds; that of the last may be missing
abbrev pub lines_of : List ℕ → List (List ℕ)
lines_of [] = []
lines_of (b ∷ bytes) = cond (b == 10) ([] ∷ lines_of bytes) (onto b (lines_of bytes))

-- the object of a line, of this kind
abbrev pub line_json : (kind : List ℕ) → List ℕ → List ℕ
line_json kind text = concat (codes "{\"kind\":\"" ∷ kind ∷ codes "\",\"text\":" ∷ string_text text ∷ codes "}\n" ∷ [])

-- the objects of the lines of a text, in order
abbrev pub lines_json : (kind : List ℕ) → List ℕ → List ℕ
lines_json kind text = flat_map (line_json kind) (lines_of text)

-- a text in a form
abbrev pub text_as : Form → List ℕ → List ℕ
text_as Lines text = text
text_as Objects text = lines_json (codes "line") text

-- the object of a call that is out of memory
abbrev pub memory_json : List ℕ
memory_json = codes "{\"kind\":\"memory\"}\n"

-- out of memory, in a form
abbrev pub memory_in : Form → List ℕ
memory_in Lines = memory_line
memory_in Objects = memory_json
