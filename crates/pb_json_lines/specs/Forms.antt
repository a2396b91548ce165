-- The form of a line, and what its object says.
use Rattle.std.specs.Prelude.{ℕ, Bool, cond, List, ◌++◌, codes, Option, Some, None}
use Rattle.std.specs.List.{find}
use Rattle.pb_json_lines.specs.Patterns.{fits, members}
use Rattle.pb_json_lines.specs.PlainForms.{PlainForm, form}
use Rattle.pb_json_lines.specs.ProgramForms.{parts, program_forms}
use Rattle.pb_json_lines.specs.SessionForms.{bank_forms, debug_forms}
use Rattle.pb_json_lines.specs.TextForms.{explain_forms, record_forms}
use Rattle.pb_json_lines.specs.declared.form.Dialect.{Dialect}
use Rattle.pb_json_lines.specs.declared.form.Dialect.TheVariants.{Program, Record, Debug, Bank, Explain}
use Rattle.pb_json_lines.specs.declared.form.Section.{Section}
use Rattle.pb_json_lines.specs.declared.form.Section.TheVariants.{Alone}

-- a line that is of no other form, and one of a text
abbrev pub other : PlainForm
other = form Alone (codes "line") (codes "W")

abbrev pub source : PlainForm
source = form Alone (codes "source") (codes "W")

-- the forms of the lines of a command, and of any other line
abbrev pub forms_of : Dialect → List PlainForm
forms_of Program = program_forms
forms_of Record = record_forms
forms_of Debug = debug_forms
forms_of Bank = bank_forms
forms_of Explain = explain_forms

abbrev pub other_of : Dialect → PlainForm
other_of Program = other
other_of Record = source
other_of Debug = other
other_of Bank = other
other_of Explain = other

-- the first of these forms that a line fits, or another one
abbrev pub or_else : PlainForm → Option PlainForm → PlainForm
or_else otherwise None = otherwise
or_else otherwise (Some f) = f

-- the first of these forms that the line fits; if there is none, the other
abbrev pub first_of : List PlainForm → (otherwise : PlainForm) → List ℕ → PlainForm
first_of fs otherwise line = or_else otherwise (find (λ f. fits f.pattern line) fs)

-- the form of a line, apart from those of the parts of an outcome or a deadlock
abbrev pub alone_form : Dialect → List ℕ → PlainForm
alone_form dialect line = first_of (forms_of dialect) (other_of dialect) line

-- the form of a line. Behind the line of an outcome or a deadlock the forms of its parts come first, and elsewhere
-- no line is of one of them
unfoldable pub form_of : Dialect → (is_open : Bool) → List ℕ → PlainForm
form_of dialect is_open line = cond is_open (first_of parts (alone_form dialect line) line) (alone_form dialect line)

-- what the object of a line says
unfoldable pub said_by : PlainForm → List ℕ → List ℕ
said_by f line = f.first ++ members f.pattern line

-- what a line is: alone, or which part of an outcome or a deadlock
abbrev pub section_of : Dialect → (is_open : Bool) → List ℕ → Section
section_of dialect is_open line = (form_of dialect is_open line).section
