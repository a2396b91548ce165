-- Sessions of the command `bank`: the lines of an input, and what is answered to them in turn.
use Rattle.std.specs.Prelude.{◌≡◌, ◌⊎◌, ℕ, cond, List, [], ◌∷◌, ◌++◌, take, Option, Some}
use Rattle.pb_base.specs.Device.{appended, one_more_failure, AddsPrefix}
use Rattle.pb_bank.specs.Answers.{AnswersLine}
use Rattle.pb_bank.specs.Desks.{DeskValue, IsFirstDesk}
use Rattle.pb_bank.specs.Sayings.{Saying}
use Rattle.pb_bank.specs.Words.{is_blank, trimmed}
use Rattle.pb_bank_engine.specs.Forms.{memory_said, spoken}
use Rattle.pb_bank_engine.specs.declared.session.Stop.{Stop}
use Rattle.pb_bank_engine.specs.declared.session.Stop.TheVariants.{Memory, Device}
use Rattle.pb_command_io.specs.declared.status.Status.{Status}
use Rattle.pb_command_io.specs.declared.status.Status.TheVariants as status
use Rattle.pb_debug_commands.specs.Lines.{cut, lines_of}
use Rattle.pb_voice.specs.declared.form.Form.{Form}

-- as much of a line as is kept: after the blanks that it begins with, one byte more than a command may have
abbrev pub kept : List ℕ → List ℕ
kept line = take 4097 (trimmed line)

-- what is kept of a line with one byte more
abbrev pub kept_with : List ℕ → ℕ → List ℕ
kept_with [] b = cond (is_blank b) [] (b ∷ [])
kept_with (first ∷ line) b = take 4097 ((first ∷ line) ++ b ∷ [])

-- the lines are answered in turn by these things, and lead from one desk to another
pub data Session (d : DeskValue) : List (List ℕ) → List Saying → DeskValue → Type 0 where
  nothing : Session d [] [] d
  one_more : (lines : List (List ℕ)) (all : List Saying) (mid : DeskValue) (line : List ℕ) (said : List Saying) (next : DeskValue)
      → Session d lines all mid → AnswersLine mid line said next → Session d (lines ++ line ∷ []) (all ++ said) next

-- the bytes that a session takes from an input: all, or as many as there can be
abbrev pub session_bytes : List ℕ → List ℕ
session_bytes bytes = take 18446744073709551615 bytes

-- ---- what is said

-- what a session says: the answer to each line; if it is out of memory, the answers to the first lines and
-- then that; if a device fails, the answers to the first lines
pub data SaysOfBank (bytes : List ℕ) : List Saying → Status → Type 0 where
  answered : (start : DeskValue) → IsFirstDesk start → (said : List Saying) (end : DeskValue)
      → Session start (lines_of (session_bytes bytes)) said end → SaysOfBank bytes said status.Done
  out_of_memory : (start : DeskValue) → IsFirstDesk start → (lines later : List (List ℕ)) → lines_of (session_bytes bytes) ≡ lines ++ later
      → (said : List Saying) (end : DeskValue) → Session start lines said end → SaysOfBank bytes (said ++ memory_said ∷ []) status.Memory
  no_memory : SaysOfBank bytes (memory_said ∷ []) status.Memory
  broken_off : (start : DeskValue) → IsFirstDesk start → (lines later : List (List ℕ)) → lines_of (session_bytes bytes) ≡ lines ++ later
      → (said : List Saying) (end : DeskValue) → Session start lines said end → SaysOfBank bytes said status.Device

-- the text is that of the answers to these lines, in a form
abbrev pub WritesLines : Form → DeskValue → List (List ℕ) → (text : List ℕ) → DeskValue → Type 0
WritesLines form d lines text next = (said : List Saying) × Session d lines said next × (text ≡ spoken form said)

-- the text consists of the answers to the complete lines of these bytes, in order and in a form
abbrev pub AnswersLines : Form → (read text : List ℕ) → Type 0
AnswersLines form read text =
    (start : DeskValue) × (end : DeskValue) × IsFirstDesk start × WritesLines form start (cut [] read).lines text end

-- the first of the bytes are read, and the others are still to come
abbrev pub IsReadTo : (bytes read : List ℕ) (left : Option (List ℕ)) → Type 0
IsReadTo bytes read left = (rest : List ℕ) × (bytes ≡ read ++ rest) × (left ≡ Some rest)

-- a read failed: what is written is the text that follows from the bytes read before it, all of it and no
-- more
abbrev pub SaysBefore : (Follows : List ℕ → List ℕ → Type 0) → (bytes : List ℕ) → (left old new : Option (List ℕ)) → Type 0
SaysBefore Follows bytes left old new =
    (read : List ℕ) × (text : List ℕ) × IsReadTo bytes read left × Follows read text × (new ≡ appended old text)

-- ---- faults

-- how many writes have failed, before and after a session ended early
abbrev pub CountsWrites : Stop → ℕ → ℕ → Type 0
CountsWrites Memory before after = after ≡ before
CountsWrites Device before after = after ≡ one_more_failure before

-- how many reads and writes have failed: one more of them, or none if out of memory
abbrev pub CountsBoth : Stop → (reads reads' writes writes' : ℕ) → Type 0
CountsBoth Memory reads reads' writes writes' = (reads' ≡ reads) × (writes' ≡ writes)
CountsBoth Device reads reads' writes writes' =
    ((reads' ≡ one_more_failure reads) × (writes' ≡ writes)) ⊎ ((reads' ≡ reads) × (writes' ≡ one_more_failure writes))

-- ---- parts of a session

-- how much of its text is written if a session ends early: all if out of memory, a first part if a device
-- failed
abbrev pub WritesBefore : Stop → Option (List ℕ) → Option (List ℕ) → List ℕ → Type 0
WritesBefore Memory old new text = new ≡ appended old text
WritesBefore Device old new text = AddsPrefix old new text

-- all lines are answered and the answers are written
pub record SaysAll (form : Form) (d : DeskValue) (bytes : List ℕ) (old new : Option (List ℕ)) (end : DeskValue) : Type 0 where
  pub said : List Saying
  pub session : Session d (lines_of (session_bytes bytes)) said end
  pub written : new ≡ appended old (spoken form said)

-- the answers to the first lines are written, all or a first part of them
pub record SaysSome (form : Form) (stop : Stop) (d : DeskValue) (bytes : List ℕ) (old new : Option (List ℕ)) : Type 0 where
  pub lines : List (List ℕ)
  pub later : List (List ℕ)
  pub said : List Saying
  pub end : DeskValue
  pub of : lines_of (session_bytes bytes) ≡ lines ++ later
  pub session : Session d lines said end
  pub written : WritesBefore stop old new (spoken form said)

-- a line is answered and the answer is written
abbrev pub IsTold : Form → DeskValue → List ℕ → Option (List ℕ) → Option (List ℕ) → DeskValue → Type 0
IsTold form d line old new next =
    (said : List Saying) × AnswersLine d line said next × (new ≡ appended old (spoken form said))

-- a line is answered, and some first part of the answer is written
abbrev pub IsToldInPart : Form → DeskValue → List ℕ → Option (List ℕ) → Option (List ℕ) → DeskValue → Type 0
IsToldInPart form d line old new next =
    (said : List Saying) × AnswersLine d line said next × AddsPrefix old new (spoken form said)

-- why the last answer was not written, or not whole
abbrev pub StopsAt : Form → Stop → DeskValue → List ℕ → Option (List ℕ) → Option (List ℕ) → Type 0
StopsAt form Memory d line old new = new ≡ old
StopsAt form Device d line old new = (next : DeskValue) × IsToldInPart form d line old new next

-- after the first part of a line come some bytes: the lines that end in them are answered, and the first
-- bytes of the last one are kept
pub record Fed (form : Form) (d : DeskValue) (part bytes : List ℕ) (old new : Option (List ℕ)) (line : List ℕ) (next : DeskValue) : Type 0 where
  pub said : List Saying
  pub session : Session d (cut part bytes).lines said next
  pub written : new ≡ appended old (spoken form said)
  pub last : line ≡ kept (cut part bytes).rest

-- the answers to the first lines that end in the bytes are written, all or a first part of them
pub record FedSome (form : Form) (stop : Stop) (d : DeskValue) (part bytes : List ℕ) (old new : Option (List ℕ)) : Type 0 where
  pub lines : List (List ℕ)
  pub later : List (List ℕ)
  pub said : List Saying
  pub end : DeskValue
  pub of : (cut part bytes).lines ≡ lines ++ later
  pub session : Session d lines said end
  pub written : WritesBefore stop old new (spoken form said)
