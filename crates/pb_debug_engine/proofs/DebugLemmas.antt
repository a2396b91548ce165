-- From what is said of each part of an input to what is said of it all.
use Rattle.std.proofs.Common.{◌≡◌, ◌≤◌, ℕ, List, [], length, Option, Some, Result, Ok, Err, IfOk, OnErr, refl, subst}
use Rattle.std.proofs.Common.{inl, inr, arith}
use Rattle.pb_base.specs.declared.memory.NoMemory.{NoMemory}
use Rattle.pb_base.specs.declared.lending.Lending.{Lending}
use Rattle.pb_code.specs.Whole.{ProcessLabels}
use Rattle.pb_codegen.specs.Compiled.{IsCompiled}
use Rattle.pb_debug.specs.Value.{Debugging}
use Rattle.pb_debug_engine.specs.Debugs.{IsOpened, SaysOfDebugging, SaysOfDebug, SaysOfParts}
use Rattle.pb_debug_engine.specs.Debugs.{SaysOfSession, debugged, no_memory, no_picks, no_room, no_source, with_code}
use Rattle.pb_command_io.specs.Faults.{TellsAnyFault}
use Rattle.pb_debug_engine.specs.Live.{AnswersOfCode, AnswersOfParts}
use Rattle.pb_command_io.proofs.PageLemmas.{AddsPrefix-longer}
use Rattle.pb_command_io.specs.Answers.{Says, Tells, memory_line}
use Rattle.pb_command_io.specs.Faults.{TellsWriteFaults}
use Rattle.pb_command_io.specs.Inputs.{SaysOfInput, too_long, nothing, not_read, read}
use Rattle.pb_command_io.specs.Inputs as input
use Rattle.pb_accept.specs.Loading.{SaysOfNoCode}
use Rattle.pb_command_io.specs.Parts.{AreTwoParts}
use Rattle.pb_accept.specs.Refusals.{SaysOfRefusedText}
use Rattle.pb_accept.specs.ReplayLines.{SaysOfNoPicksBy}
use Rattle.pb_command_io.specs.declared.reply.Reply.{Reply}
use Rattle.pb_command_io.specs.declared.status.Status.{Status}
use Rattle.pb_command_io.specs.declared.status.Status.TheVariants.{Device, Memory}
use Rattle.pb_sources.specs.Sources.{GivesCode, IsObjectPart}
use Rattle.pb_verifier.specs.Verified.{VerifiedCode}

-- ---- the code of the first part

-- a reply to lines that say no picks, or out of memory for it
pub no_picks_told : {lending : Lending} (verified : VerifiedCode) (labels : List ProcessLabels) (shown : Option (List ℕ)) (lines commands : List ℕ) (reply : Result Reply NoMemory)
    (old new : Option (List ℕ)) (given : Status) → IfOk reply (λ r. SaysOfNoPicksBy lending verified.code lines r.text.items r.status)
    → IfOk reply (λ r. Says old new r.text.items r.status given) → OnErr reply (Says old new memory_line Memory given)
    → Tells (SaysOfDebugging lending verified labels shown lines commands) old new given
no_picks_told verified labels shown lines commands (Ok r) old new given is says memory =
    (r.text.items, r.status, no_picks r.text.items r.status is, says)
no_picks_told verified labels shown lines commands (Err e) old new given is says memory = (memory_line, Memory, no_memory, memory)

-- the commands are answered
pub session_told : {lending : Lending} (verified : VerifiedCode) (labels : List ProcessLabels) (shown : Option (List ℕ)) (lines commands : List ℕ) (d : Debugging)
    (old new : Option (List ℕ)) (given : Status) → IsOpened lending verified labels shown lines d → Tells (SaysOfSession d commands) old new given
    → Tells (SaysOfDebugging lending verified labels shown lines commands) old new given
session_told verified labels shown lines commands d old new given opened (text, status, is, says) =
    (text, status, debugged d opened text status is, says)

-- ---- the three parts

pub code_told : {lending : Lending} (source lines commands : List ℕ) (verified : VerifiedCode) (labels : List ProcessLabels) (shown : Option (List ℕ)) (old new : Option (List ℕ))
    (given : Status) → GivesCode source verified.code labels shown → Tells (SaysOfDebugging lending verified labels shown lines commands) old new given
    → Tells (SaysOfParts lending source lines commands) old new given
code_told source lines commands verified labels shown old new given gives (text, status, is, says) =
    (text, status, with_code verified labels shown gives text status is, says)

-- the same, of code and labels that are seen so
pub code_of_text_told : {lending : Lending} (source lines commands : List ℕ) (seen verified : VerifiedCode) (seen_labels labels : List ProcessLabels)
    (old new : Option (List ℕ)) (given : Status) → ¬ IsObjectPart source → IsCompiled source verified.code labels → seen ≡ verified
    → seen_labels ≡ labels → Tells (SaysOfDebugging lending seen seen_labels (Some source) lines commands) old new given
    → Tells (SaysOfParts lending source lines commands) old new given
code_of_text_told {lending = lending} source lines commands seen verified seen_labels labels old new given none compiled same same_labels tells =
    code_told source lines commands verified labels (Some source) old new given (inr (none, compiled, refl))
    (subst (λ (v : VerifiedCode). Tells (SaysOfDebugging lending v labels (Some source) lines commands) old new given) same
    (subst (λ (l : List ProcessLabels). Tells (SaysOfDebugging lending seen l (Some source) lines commands) old new given) same_labels tells))

-- what is answered by a debugger of that code
pub text_answers : {lending : Lending} (source lines : List ℕ) (seen verified : VerifiedCode) (seen_labels labels : List ProcessLabels) → ¬ IsObjectPart source
    → IsCompiled source verified.code labels → seen ≡ verified → seen_labels ≡ labels → (taken text : List ℕ)
    → AnswersOfCode lending seen seen_labels (Some source) lines taken text → AnswersOfParts lending source lines taken text
text_answers {lending = lending} source lines seen verified seen_labels labels none compiled same same_labels taken text answers = (
  verified,
  labels,
  Some source,
  inr (none, compiled, refl),
  subst (λ (v : VerifiedCode). AnswersOfCode lending v labels (Some source) lines taken text) same
      (subst (λ (l : List ProcessLabels). AnswersOfCode lending seen l (Some source) lines taken text) same_labels answers),
)

-- a reply to an object that gives no code, or out of memory for it
pub no_code_told : {lending : Lending} (source lines commands : List ℕ) (reply : Result Reply NoMemory) (old new : Option (List ℕ)) (given : Status)
    → IsObjectPart source → IfOk reply (λ r. SaysOfNoCode source r.text.items r.status)
    → IfOk reply (λ r. Says old new r.text.items r.status given) → OnErr reply (Says old new memory_line Memory given)
    → Tells (SaysOfParts lending source lines commands) old new given
no_code_told source lines commands (Ok r) old new given object is says memory =
    (r.text.items, r.status, no_source r.text.items r.status (inl (object, is)), says)
no_code_told source lines commands (Err e) old new given object is says memory = (memory_line, Memory, no_room, memory)

-- nothing is said since a write failed
part_of_line : (old new : Option (List ℕ)) (given : Status) → Says old new [] Device given → Says old new memory_line Memory given
part_of_line old new given (inl (is, device)) = inr (([], memory_line, refl, is), device)
part_of_line old new given (inr (part, device)) = inr (AddsPrefix-longer old new [] memory_line part, device)

-- a refused text
pub text_refused : {lending : Lending} (source lines commands : List ℕ) (old new : Option (List ℕ)) (given : Status) → length source ≤ 4194304
    → ¬ IsObjectPart source → Tells (SaysOfInput SaysOfRefusedText source) old new given → Tells (SaysOfParts lending source lines commands) old new given
text_refused {lending = lending} source lines commands old new given short none (said, status, is, says) = go said status is says
  where
    go : (said : List ℕ) (status : Status) → SaysOfInput SaysOfRefusedText source said status → Says old new said status given
        → Tells (SaysOfParts lending source lines commands) old new given
    go _ _ (not_read (too_long long)) says = absurd (omega (arith, long, short))
    go _ _ (not_read input.no_memory) says = (memory_line, Memory, no_room, says)
    go _ _ (not_read nothing) says = (memory_line, Memory, no_room, part_of_line old new given says)
    go said status (read within of_text) says = (said, status, no_source said status (inr (none, of_text)), says)

-- ---- a whole input

pub bytes_told : {lending : Lending} (bytes source rest lines commands : List ℕ) (old new : Option (List ℕ)) (given : Status) → length bytes ≤ 4194304
    → AreTwoParts bytes source rest → AreTwoParts rest lines commands → Tells (SaysOfParts lending source lines commands) old new given
    → Tells (SaysOfInput (SaysOfDebug lending) bytes) old new given
bytes_told bytes source rest lines commands old new given short first second (text, status, is, says) =
    (text, status, read short (source, lines, commands, (rest, first, second), is), says)

-- if no read can fail, a fault is one of a write
pub only_writes_fail : (old new : ℕ) (written written' : Option (List ℕ)) (status : Status)
    → TellsAnyFault (record { reads = 0; writes = old; written = written }) (record { reads = 0; writes = new; written = written' }) status
    → TellsWriteFaults old new status
only_writes_fail old new written written' status (none, one) = (
  λ no_device. (none no_device).1,
  λ device. elim (one device) [
    | inl failed ↦ (let more : 0 ≡ 1 = failed.0 in absurd (omega (arith, more)))
    | inr failed ↦ failed.1
  ],
)
