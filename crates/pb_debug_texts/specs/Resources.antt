-- What a session says of a resource: who holds it, who asks for it, and the cash of it.
use Rattle.std.specs.Prelude.{ℕ, ◌==◌, cond, List, [], ◌++◌, length, codes, Option, Some, None, slice_get}
use Rattle.std.specs.Fmt.{decimal}
use Rattle.pb_base.specs.Banker.{BankerState, processes, loan, cash}
use Rattle.pb_base.specs.Bundle.{amount_in}
use Rattle.pb_base.specs.declared.pick.Pick.{Pick}
use Rattle.pb_base.specs.Lines.{NameTable, name_of, pick_text, line, each_below}
use Rattle.pb_base.specs.Steppers.{State}
use Rattle.pb_code.specs.Code.{Instr, Take, ProcessCode, Thread, Idle, Live, Ended, CodeProcess, thread}
use Rattle.pb_code.specs.Whole.{Code}
use Rattle.pb_debug_texts.specs.Texts.{loan_text, cash_text}

-- the amount of a resource for which an instruction asks: that in its bundle, if it is a request
abbrev pub amount_wanted : Option Instr → ℕ → ℕ
amount_wanted (Some (Take bundle)) r = amount_in bundle r
amount_wanted (Some instr) r = 0
amount_wanted None r = 0

-- the amount for which an arm asks: that of its next instruction, if it is live
abbrev pub amount_asked : ProcessCode → Thread → ℕ → ℕ
amount_asked code Idle r = 0
amount_asked code (Live place stack) r = amount_wanted (slice_get code.instrs place) r
amount_asked code Ended r = 0

-- `P holds K R claim C`, if the process holds some of it
abbrev pub holder_text : NameTable → BankerState → (r p : ℕ) → List ℕ
holder_text names s r p = cond (loan s p r == 0) [] (loan_text names s p r)

-- `P.a asks K R`, if the arm asks for some of it
abbrev pub asker_text : NameTable → (r : ℕ) → Pick → (amount : ℕ) → List ℕ
asker_text names r arm amount =
    cond (amount == 0) []
    (line (pick_text names arm ++ codes " asks " ++ decimal amount ++ codes " " ++ name_of names.resources r))

-- that of each arm of a process
abbrev pub askers_in : NameTable → (r p : ℕ) → ProcessCode → CodeProcess → List ℕ
askers_in names r p code process =
    each_below (λ a. asker_text names r (record { process = p; arm = a }) (amount_asked code (thread process.threads a) r))
    (length process.threads)

-- the same, if there is such a process
abbrev pub askers_of : NameTable → (r p : ℕ) → Option ProcessCode → Option CodeProcess → List ℕ
askers_of names r p None process = []
askers_of names r p (Some code) None = []
askers_of names r p (Some code) (Some process) = askers_in names r p code process

-- the lines of all arms of process p that ask for it
abbrev pub askers_at : Code → State CodeProcess → (r p : ℕ) → List ℕ
askers_at code s r p = askers_of code.names r p (slice_get code.processes p) (slice_get s.processes p)

-- the lines of all who hold it, of all who ask for it, and of the cash of it
abbrev pub who_text : Code → State CodeProcess → BankerState → ℕ → List ℕ
who_text code s bank r =
    each_below (holder_text code.names bank r) (processes bank)
    ++ each_below (askers_at code s r) (length s.processes) ++ cash_text code.names (cash bank r) r
