-- What a call told of its devices, when it wrote to memory.
use Rattle.std.proofs.Common.{ℕ, List, [], Option, Some, inl, inr}
use Rattle.std.specs.Borrow.{Bor}
use Rattle.clap.specs.Words.{Text}
use Rattle.pb_call.specs.Calls.{AfterRead, CallTellsFaults}
use Rattle.pb_command_io.specs.declared.status.Status.{Status}
use Rattle.pb_json_lines.proofs.ReplyLemmas.{TellsGathered}
use Rattle.pb_words.specs.declared.tool.Tool.{Tool}

-- of an output in memory that no write had failed of, whichever command it was
pub gathered_faults : (tool : Tool) (Leaves : AfterRead) (words : List (Bor Text)) (rest left : Option (List ℕ))
    (old_reads new_reads failures : ℕ) (bytes : List ℕ) (given : Status)
    → CallTellsFaults tool Leaves words rest left (record { reads = old_reads; writes = 0; written = Some [] })
    (record { reads = new_reads; writes = failures; written = Some bytes }) given
    → TellsGathered old_reads new_reads failures given
gathered_faults tool Leaves words rest left old_reads new_reads failures bytes given (inl tells) = (
  λ other. tells.0 other,
  λ device. elim (tells.1 device) [
    | inl read ↦ inl (read.0, read.1)
    | inr write ↦ inr (write.0, write.1)
  ],
)
gathered_faults tool Leaves words rest left old_reads new_reads failures bytes given (inr (o, says, mine, told)) = (
  λ other. told.0.0 other,
  λ device. elim (told.0.1 device) [
    | inl read ↦ inl (read.0, read.1)
    | inr write ↦ inr (write.0, write.1)
  ],
)
