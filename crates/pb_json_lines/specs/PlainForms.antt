-- A form of lines: what the line is of an outcome or a deadlock, the first members of its object, and its pattern.
use Rattle.std.specs.Prelude.{ℕ, List, ◌++◌, codes}
use Rattle.pb_json_lines.specs.declared.form.Form.{Form}
use Rattle.pb_json_lines.specs.declared.form.Section.{Section}
use Rattle.pb_json_lines.specs.declared.form.Section.TheVariants.{Alone}

-- a form as plain texts
pub record PlainForm : Type 0 where
  pub section : Section
  pub first : List ℕ
  pub pattern : List ℕ

-- what contracts see of a form
abbrev pub plain_form : Form → PlainForm
plain_form form = record { section = form.section; first = form.first.now; pattern = form.pattern.now }

-- a form whose object says no more at first than its kind
abbrev pub form : Section → List ℕ → List ℕ → PlainForm
form section kind pattern =
    record { section = section; first = codes "\"kind\":\"" ++ kind ++ codes "\""; pattern = pattern }

-- a form with more first members
abbrev pub form_with : List ℕ → List ℕ → List ℕ → PlainForm
form_with kind more pattern =
    record { section = Alone; first = codes "\"kind\":\"" ++ kind ++ codes "\"," ++ more; pattern = pattern }
