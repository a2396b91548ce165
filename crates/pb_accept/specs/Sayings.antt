-- What commands say, as plain data, and the line of each thing.
use Rattle.std.specs.Prelude.{ℕ, List, [], ◌∷◌, ◌++◌, codes, Option, Some, None}
use Rattle.std.specs.Fmt.{decimal}
use Rattle.std.specs.List.{concat}
use Rattle.pb_accept.specs.Causes.{cause_line, lex_cause, lines_cause, load_cause, names_cause, parse_cause}
use Rattle.pb_accept.specs.Refusals.{claims_line, limit_words}
use Rattle.pb_accept.specs.RunTexts.{with_picks}
use Rattle.pb_accept.specs.Warned.{warning_line}
use Rattle.pb_accept.specs.declared.cause.Cause.{Cause}
use Rattle.pb_accept.specs.declared.ending.Ending.{Ending}
use Rattle.pb_accept.specs.declared.ending.Ending.TheVariants.{Over, Stuck, Open}
use Rattle.pb_accept.specs.declared.load.LoadFault.{LoadFault}
use Rattle.pb_accept.specs.declared.replay.LinesFault.{LinesFault}
use Rattle.pb_base.specs.Lines as event
use Rattle.pb_base.specs.Lines.{NameTable, line}
use Rattle.pb_base.specs.declared.event.Event.{Event}
use Rattle.pb_codegen.specs.declared.fault.CompileFault.{CompileFault}
use Rattle.pb_codegen.specs.declared.fault.CompileFault.TheVariants as fault
use Rattle.pb_command_io.specs.Answers.{memory_line}
use Rattle.pb_history.specs.declared.counted.CountedPick.{CountedPick}
use Rattle.pb_names.specs.Program.{Name}
use Rattle.pb_warnings.specs.Warnings.{Warning}

-- one thing that is said
pub data Saying : Type 0 where
  Accepted : Saying
  Refused : CompileFault → Saying
  Claim : (process : Name) (amount : ℕ) (resource : Name) → Saying
  NoCode : LoadFault → Saying
  NoPicks : LinesFault → Saying
  BeyondFirst : Saying
  Text : List ℕ → Saying
  Recorded : (text : List ℕ) → NameTable → List CountedPick → Saying
  Shows : NameTable → Event → Saying
  Ended : Ending → Saying
  Limit : (steps : ℕ) → Saying
  Warns : Warning → Saying
  Threads TooLong LongOutput NoMemory : Saying

-- the line of a cause with words after it; there is no cause if out of memory
abbrev pub cause_said : Option Cause → (words : List ℕ) → List ℕ
cause_said None words = memory_line
cause_said (Some cause) words = line (cause_line cause ++ words)

-- the line of the fault of a text
abbrev pub fault_said : CompileFault → List ℕ
fault_said (fault.Lex f) = cause_said (lex_cause f) []
fault_said (fault.Parse f) = cause_said (parse_cause f) []
fault_said (fault.Names f) = cause_said (names_cause f) (limit_words f)
fault_said (fault.Claims f) = line (claims_line f)
fault_said fault.Memory = memory_line

-- the line of one claim: the process, the word `claim`, the amount, the resource
abbrev pub claim_line : Name → ℕ → Name → List ℕ
claim_line process amount resource =
    concat (process ∷ codes " claim " ∷ decimal amount ∷ codes " " ∷ resource ∷ codes "\n" ∷ [])

-- the line of how a replay has ended
abbrev pub last_line : Ending → List ℕ
last_line Over = codes "done"
last_line Stuck = codes "deadlock"
last_line Open = codes "open"

-- a thing as its line; a text as it is
abbrev pub line_of : Saying → List ℕ
line_of Accepted = line (codes "ok")
line_of (Refused f) = fault_said f
line_of (Claim process amount resource) = claim_line process amount resource
line_of (NoCode f) = cause_said (load_cause f) []
line_of (NoPicks f) = cause_said (lines_cause f) []
line_of BeyondFirst = line (codes "refused E1")
line_of (Text text) = text
line_of (Recorded text names picks) = with_picks text names picks
line_of (Shows names shown) = line (event.line_of names shown)
line_of (Ended ending) = line (last_line ending)
line_of (Limit steps) = line (codes "limit " ++ decimal steps)
line_of (Warns warning) = warning_line warning
line_of Threads = line (codes "threads")
line_of TooLong = line (codes "refused input")
line_of LongOutput = line (codes "refused output")
line_of NoMemory = memory_line
