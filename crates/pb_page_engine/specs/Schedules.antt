-- What `outcomes --graph` says of a text, as data, and with which status.
use Rattle.std.specs.Prelude.{◌≢◌, ℕ, false, List, [], ◌∷◌}
use Rattle.pb_accept.specs.Sayings.{Saying, Refused, Text}
use Rattle.pb_base.specs.declared.lending.Lending.{Lending}
use Rattle.pb_code.specs.Whole.{Code, ProcessLabels}
use Rattle.pb_codegen.specs.Compiled.{IsCompiled, IsRefused}
use Rattle.pb_codegen.specs.declared.fault.CompileFault.{CompileFault}
use Rattle.pb_codegen.specs.declared.fault.CompileFault.TheVariants as fault
use Rattle.pb_command_io.specs.declared.status.Status.{Status}
use Rattle.pb_command_io.specs.declared.status.Status.TheVariants as status
use Rattle.pb_object.specs.Answers.{SpellsCode}
use Rattle.pb_code.specs.declared.format.Format.TheVariants.{Two}
use Rattle.pb_page_graph.specs.Documents.{IsDocumentUpTo, excess_text}
use Rattle.pb_search.specs.Outcomes.{IsExcess}

-- the document of all schedules of code with these labels under this lending, of at most this number of configurations;
-- or that more are reached, which is so
pub data AreSchedules (lending : Lending) (states : ℕ) (source object : List ℕ) (code : Code) (labels : List ProcessLabels)
    : List ℕ → Status → Type 0 where
  all : (document : List ℕ) → IsDocumentUpTo states (record { lending = lending; prints = false }) code labels source object document
      → AreSchedules lending states source object code labels document status.Done
  too_many : IsExcess (record { lending = lending; prints = false }) code states
      → AreSchedules lending states source object code labels (excess_text source object lending states) status.Limit

-- a document of the code of an accepted text: that, with the object of the code
pub record AreSchedulesOf (lending : Lending) (states : ℕ) (source : List ℕ) (code : Code) (labels : List ProcessLabels)
    (document : List ℕ) (given : Status) : Type 0 where
  pub object : List ℕ
  pub spelled : SpellsCode Two code labels object
  pub are : AreSchedules lending states source object code labels document given

-- what is said of a text: it is refused; or it is accepted, and the document of its code is told
pub data SaysOfSchedules (lending : Lending) (states : ℕ) (bytes : List ℕ) : List Saying → Status → Type 0 where
  refused : (f : CompileFault) → f ≢ fault.Memory → IsRefused bytes f
      → SaysOfSchedules lending states bytes (Refused f ∷ []) status.Refused
  accepted : (code : Code) (labels : List ProcessLabels) → IsCompiled bytes code labels
      → (document : List ℕ) (given : Status) → AreSchedulesOf lending states bytes code labels document given
      → SaysOfSchedules lending states bytes (Text document ∷ []) given
