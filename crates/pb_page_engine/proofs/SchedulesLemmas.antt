-- What is told of all schedules, and if more configurations are reached than are allowed.
use Rattle.std.proofs.Common.{Result, Ok, Err, IfOk, OnErr, ◌≡◌, ◌≤◌, ℕ, List, [], ◌∷◌, length, sym, subst}
use Rattle.std.specs.Prelude.{false}
use Rattle.pb_accept.specs.Claims.{SaysOfAny}
use Rattle.pb_accept.specs.Sayings.{Saying, NoMemory as OutOfMemory, Text}
use Rattle.pb_base.specs.declared.lending.Lending.{Lending}
use Rattle.pb_base.specs.declared.limits.TheConstants.{MAX_INPUT}
use Rattle.pb_base.specs.declared.memory.NoMemory.{NoMemory}
use Rattle.pb_code.specs.Whole.{Code, ProcessLabels}
use Rattle.pb_codegen.specs.Compiled.{IsCompiled}
use Rattle.pb_command_io.specs.declared.reply.Reply.{Reply}
use Rattle.pb_command_io.specs.declared.status.Status.{Status}
use Rattle.pb_command_io.specs.declared.status.Status.TheVariants.{Limit, Memory}
use Rattle.pb_page_engine.specs.Schedules.{AreSchedules, AreSchedulesOf, SaysOfSchedules, accepted, too_many}
use Rattle.pb_page_graph.specs.Documents.{excess_text}
use Rattle.pb_search.specs.Outcomes.{IsExcess}
use Rattle.pb_voice.specs.Inputs.{no_memory, read}
use Rattle.pb_voice.specs.Tellings.{Ends, Speaks}

pub excess_told : (lending : Lending) (states : ℕ) (source object : List ℕ) (code : Code) (labels : List ProcessLabels) (reply : Result Reply NoMemory)
    → IsExcess (record { lending = lending; prints = false }) code states
    → IfOk reply (λ r. r.text.items ≡ excess_text source object lending states) → IfOk reply (λ r. r.status ≡ Limit)
    → IfOk reply (λ r. AreSchedules lending states source object code labels r.text.items r.status)
excess_told lending states source object code labels (Ok r) excess text status =
    subst (λ (s : Status). AreSchedules lending states source object code labels r.text.items s) (sym status)
    (subst (λ (t : List ℕ). AreSchedules lending states source object code labels t Limit) (sym text) (too_many excess))
excess_told lending states source object code labels (Err e) excess text status = tt

-- the document of an accepted text is told, or out of memory for it
module _ {T : Type 0} (tells breaks : T → Saying → T → Type 0) (old new : T) (answered : Status) (lending : Lending) (states : ℕ) where
  pub schedules_told : (bytes : List ℕ) (code : Code) (labels : List ProcessLabels) → length bytes ≤ MAX_INPUT → IsCompiled bytes code labels
      → (made : Result Reply NoMemory) → IfOk made (λ r. AreSchedulesOf lending states bytes code labels r.text.items r.status)
      → IfOk made (λ r. Ends tells breaks old (Text r.text.items ∷ []) r.status new answered)
      → OnErr made (Ends tells breaks old (OutOfMemory ∷ []) Memory new answered)
      → Speaks tells breaks (SaysOfAny (SaysOfSchedules lending states) bytes) old new answered
  schedules_told bytes code labels short compiled (Ok r) are ends memory =
      (Text r.text.items ∷ [], r.status, read _ _ short (accepted code labels compiled r.text.items r.status are), ends)
  schedules_told bytes code labels short compiled (Err e) are ends memory = (OutOfMemory ∷ [], Memory, no_memory, memory)
