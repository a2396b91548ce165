-- The diagnostics of a text.
use Rattle.std.specs.Prelude.{◌≡◌, ℕ, min, List, length, codes, IfSome}
use Rattle.serde_json.specs.Data.{Data, number, string, array, object, unsigned, item, no_items, no_members, member}
use Rattle.pb_accept.specs.Causes.{text_cause}
use Rattle.pb_accept.specs.declared.cause.Cause.{Cause}
use Rattle.pb_code.specs.Whole.{Code, ProcessLabels}
use Rattle.pb_codegen.specs.Compiled.{IsCompiled, IsRefused}
use Rattle.pb_codegen.specs.declared.fault.CompileFault.{CompileFault}
use Rattle.pb_diagnostics.specs.Ranges.{IsRange}
use Rattle.pb_options.specs.Codes.{code_name}
use Rattle.std.specs.Prelude.{Some}

-- a diagnostic: the code of a refusal, what is wrong, where, and what is related to it
abbrev pub diagnostic_data : (code message : List ℕ) → (range related : Data) → Data
diagnostic_data code message range related = object (member (codes "code") (string code)
    (member (codes "message") (string message)
    (member (codes "range") range
    (member (codes "relatedInformation") related
    (member (codes "severity") (number (unsigned 1))
    (member (codes "source") (string (codes "parbegin")) no_members))))))

-- the diagnostic has the code of the refusal that the text has, and begins at its offset if the refusal tells one; no
-- definition says which words it has, nor which other places it names
pub record DiagnosesFault (text : List ℕ) (d : Data) : Type 0 where
  pub fault : CompileFault
  pub refused : IsRefused text fault
  pub cause : Cause
  pub of : text_cause fault ≡ Some cause
  pub at : ℕ
  pub there : IfSome cause.at (λ told. at ≡ min told (length text))
  pub range : Data
  pub from : IsRange text at range
  pub message : List ℕ
  pub related : Data
  pub is : d ≡ diagnostic_data (code_name cause.code) message range related

-- an accepted text has no diagnostic, and a refused one has one
pub data Diagnoses (text : List ℕ) : Data → Type 0 where
  accepted : (code : Code) (labels : List ProcessLabels) → IsCompiled text code labels → Diagnoses text (array no_items)
  refused : (d : Data) → DiagnosesFault text d → Diagnoses text (array (item d no_items))
