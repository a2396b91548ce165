-- What an accepted text is warned of, and the line of each warning.
use Rattle.std.specs.Prelude.{◌≡◌, ℕ, Bool, true, false, List, [], ◌∷◌, codes}
use Rattle.std.specs.Fmt.{decimal}
use Rattle.std.specs.List.{concat}
use Rattle.pb_base.specs.Steppers.{Table}
use Rattle.pb_codegen.specs.Numbered.{IsReadAs}
use Rattle.pb_json.specs.Strings.{string_text}
use Rattle.pb_names.specs.Program.{Program}
use Rattle.pb_warnings.specs.Warnings.{Warning, OneArm, NeverRead, NotUsed, program_warnings}

-- these are the warnings of the program that the text spells
pub record AreWarningsOf (text : List ℕ) (found : List Warning) : Type 0 where
  pub program : Program
  pub claims : Table
  pub read : IsReadAs text program claims
  pub all : found ≡ program_warnings text read.tree claims

-- what an accepted text is told to be warned of: nothing, if that is not asked for
abbrev pub AreToldFor : (warn : Bool) → List ℕ → List Warning → Type 0
AreToldFor false text found = found ≡ []
AreToldFor true text found = AreWarningsOf text found

-- the line of a warning: its code, a line of the text, and what there it is about
abbrev pub warning_line : Warning → List ℕ
warning_line (OneArm at) = concat (codes "warning W1 line " ∷ decimal at ∷ codes "\n" ∷ [])
warning_line (NeverRead at process integer) = concat (
    codes "warning W2 line " ∷ decimal at ∷ codes " " ∷ process ∷ codes " " ∷ integer ∷ codes "\n" ∷ [])
warning_line (NotUsed at resource claims capital) = concat (
    codes "warning W3 line " ∷ decimal at ∷ codes " " ∷ resource ∷ codes " claims " ∷ decimal claims
    ∷ codes " capital " ∷ decimal capital ∷ codes "\n" ∷ [])

-- the object of a warning
abbrev pub warning_json : Warning → List ℕ
warning_json (OneArm at) = concat (
    codes "{\"kind\":\"warning\",\"code\":\"W1\",\"line\":" ∷ decimal at ∷ codes "}\n" ∷ [])
warning_json (NeverRead at process integer) = concat (
    codes "{\"kind\":\"warning\",\"code\":\"W2\",\"line\":" ∷ decimal at ∷ codes ",\"process\":" ∷ string_text process
    ∷ codes ",\"integer\":" ∷ string_text integer ∷ codes "}\n" ∷ [])
warning_json (NotUsed at resource claims capital) = concat (
    codes "{\"kind\":\"warning\",\"code\":\"W3\",\"line\":" ∷ decimal at ∷ codes ",\"resource\":" ∷ string_text resource
    ∷ codes ",\"claims\":" ∷ decimal claims ∷ codes ",\"capital\":" ∷ decimal capital ∷ codes "}\n" ∷ [])
