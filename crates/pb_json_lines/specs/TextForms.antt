-- The forms of the lines of `record` and `explain`.
use Rattle.std.specs.Prelude.{List, [], ◌∷◌, codes}
use Rattle.pb_json_lines.specs.PlainForms.{PlainForm, form}
use Rattle.pb_json_lines.specs.declared.form.Section.TheVariants.{Alone}

-- a recorded run: after the text, a line that parts it from the picks, and pick lines
unfoldable pub record_forms : List PlainForm
record_forms =
    form Alone (codes "picks follow") (codes "%%")
    ∷ form Alone (codes "picks") (codes "P.A Q")
    ∷ []

-- a code with a few words; any other line is one of a page
unfoldable pub explain_forms : List PlainForm
explain_forms =
    form Alone (codes "code") (codes "8: W")
    ∷ []
