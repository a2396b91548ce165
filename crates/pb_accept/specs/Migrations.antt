-- What `migrate` says of an input, as data, and with which status.
use Rattle.std.specs.Prelude.{◌≡◌, ℕ, List, [], ◌∷◌, Some}
use Rattle.pb_object.specs.Answers.{SpellsCode}
use Rattle.pb_code.specs.Whole.{Code, ProcessLabels}
use Rattle.pb_code.specs.declared.format.Format.TheVariants.{Two}
use Rattle.pb_accept.specs.Causes.{load_cause}
use Rattle.pb_accept.specs.Loading.{IsLoaded, IsLoadFault}
use Rattle.pb_accept.specs.Sayings.{Saying, NoCode, Text}
use Rattle.pb_accept.specs.declared.cause.Cause.{Cause}
use Rattle.pb_accept.specs.declared.load.LoadFault.{LoadFault}
use Rattle.pb_command_io.specs.declared.status.Status.{Status}
use Rattle.pb_command_io.specs.declared.status.Status.TheVariants.{Done, Refused}

-- the bytes give no safe code; or they give some, whose text in the second format, with the same labels, is
-- said
pub data SaysOfMigration (bytes : List ℕ) : List Saying → Status → Type 0 where
  no_code : (fault : LoadFault) (cause : Cause) → IsLoadFault bytes fault → load_cause fault ≡ Some cause
      → SaysOfMigration bytes (NoCode fault ∷ []) Refused
  migrated : (code : Code) (labels : List ProcessLabels) → IsLoaded bytes code labels
      → (text : List ℕ) → SpellsCode Two code labels text → SaysOfMigration bytes (Text text ∷ []) Done
