-- Picks that are made again, and their events, told one after another.
use Rattle.std.proofs.Common.{◌≡◌, ℕ, zero, suc, ◌≤◌, List, [], ◌∷◌, ◌++◌, length, take, Option, Some, None, MatchOption}
use Rattle.std.proofs.Common.{refl, sym, ap, subst, inl, inr, arith}
use Rattle.std.proofs.lemmas.List.{length-map}
use Rattle.pb_base.specs.declared.event.Event.{Event}
use Rattle.pb_base.specs.Lines.{NameTable}
use Rattle.pb_base.specs.Steppers.{State}
use Rattle.pb_code.specs.Code.{CodeProcess}
use Rattle.pb_code.specs.Whole.{Code, CodeCanBy, ProcessLabels, code_opening}
use Rattle.pb_codegen.specs.Compiled.{IsCompiled}
use Rattle.pb_history.specs.Entries.{Entry, events_of, picks_of}
use Rattle.pb_history.proofs.TraceSteps.{traces_make}
use Rattle.pb_command_io.specs.Parts.{AreTwoParts}
use Rattle.pb_voice.specs.Inputs as any
use Rattle.pb_accept.specs.Claims.{SaysOfAny}
use Rattle.pb_accept.specs.ReplayLines.{AreReplayedBy, IsEnding, IsEndStatus, IsLinesFaultBy}
use Rattle.pb_accept.specs.Causes.{lines_cause}
use Rattle.pb_accept.specs.Replays.{SaysOfEvents, SaysOfLines, SaysOfNoLines, SaysOfReplay, all_told, not_made, no_memory, refused_for, replayed, no_picks, made_again}
use Rattle.pb_accept.specs.ToldEvents.{shown}
use Rattle.pb_accept.specs.Sayings.{Saying, Ended, NoMemory, NoPicks}
use Rattle.pb_accept.specs.declared.cause.Cause.{Cause}
use Rattle.pb_accept.specs.declared.ending.Ending.{Ending}
use Rattle.pb_accept.specs.declared.replay.LinesFault.{LinesFault}
use Rattle.pb_command_io.specs.declared.status.Status.{Status}
use Rattle.pb_command_io.specs.declared.status.Status.TheVariants.{Memory, Refused}
use Rattle.pb_base.specs.declared.lending.Lending.{Lending}
use Rattle.pb_voice.specs.Tellings.{Ends, Speaks}

-- ---- the parts of an input

take_is_short : {X : Type 0} (n : ℕ) (xs : List X) → length (take n xs) ≤ length xs
take_is_short zero xs = omega arith
take_is_short (suc n) [] = omega arith
take_is_short (suc n) (x ∷ xs) = let le = take_is_short n xs in omega (arith, le)

-- the text of an input is no longer than that
pub text_is_short : (bytes text lines : List ℕ) → AreTwoParts bytes text lines → length bytes ≤ 4194304 → length text ≤ 4194304
text_is_short bytes text lines (inl (at, mark, first, part, rest)) short =
    let le = take_is_short at bytes in let same = ap (λ (t : List ℕ). length t) part in omega (arith, le, same, short)
text_is_short bytes text lines (inr (same, none, no_mark)) short = subst (λ (t : List ℕ). length t ≤ 4194304) (sym same) short

-- the code can make the events of a replay
can_make_again : (lending : Lending) (code : Code) (lines : List ℕ) (entries : List Entry) (end : State CodeProcess)
    → AreReplayedBy lending code lines entries end → CodeCanBy lending code (events_of entries) (length entries)
can_make_again lending code lines entries end are =
    let many = length-map entries (λ (e : Entry). e.pick) in
    (picks_of entries, end, omega (arith, many), traces_make lending code (code_opening code) end entries are.replay.leads)

module _ {T : Type 0} (tells breaks : T → Saying → T → Type 0) (old new : T) (given : Status) where
  -- an accepted text, and what is told of the lines after it
  pub text_is_replayed : (lending : Lending) (bytes text lines : List ℕ) (code known : Code) (labels : List ProcessLabels) → length bytes ≤ 4194304
      → AreTwoParts bytes text lines → IsCompiled text code labels → known ≡ code → Speaks tells breaks (SaysOfLines lending known lines) old new given
      → Speaks tells breaks (SaysOfAny (SaysOfReplay lending) bytes) old new given
  text_is_replayed lending bytes text lines code known labels short cut compiled same told =
      go (subst (λ (c : Code). Speaks tells breaks (SaysOfLines lending c lines) old new given) same told)
    where
      of_lines : (said : List Saying) (status : Status) → SaysOfLines lending code lines said status
          → SaysOfAny (SaysOfReplay lending) bytes said status
      of_lines _ _ (not_made _ _ (refused_for fault cause is its_cause)) =
          any.read _ _ short (no_picks text lines cut code labels compiled fault cause is its_cause)
      of_lines _ _ (not_made _ _ no_memory) = any.no_memory
      of_lines _ _ (replayed entries end are said status says) =
          any.read said status short (made_again text lines cut code labels compiled entries end are said status says
          ((compiled.same lending).no_more (events_of entries) (length entries) (can_make_again lending code lines entries end are)))

      go : Speaks tells breaks (SaysOfLines lending code lines) old new given → Speaks tells breaks (SaysOfAny (SaysOfReplay lending) bytes) old new given
      go (said, status, says, ends) = (said, status, of_lines said status says, ends)

  -- what is told of the events is told of the lines
  pub events_are_told : (lending : Lending) (code : Code) (lines : List ℕ) (entries : List Entry) (end : State CodeProcess)
      → AreReplayedBy lending code lines entries end → Speaks tells breaks (SaysOfEvents lending code (events_of entries) end) old new given
      → Speaks tells breaks (SaysOfLines lending code lines) old new given
  events_are_told lending code lines entries end are (said, status, says, ends) =
      (said, status, replayed entries end are said status says, ends)

  -- lines that are refused, or out of memory
  pub lines_are_refused : (lending : Lending) (code : Code) (lines : List ℕ) (fault : LinesFault) (cause : Option Cause) → cause ≡ lines_cause fault
      → IsLinesFaultBy lending code lines fault
      → MatchOption cause (Ends tells breaks old (NoMemory ∷ []) Memory new given) (λ c. Ends tells breaks old (NoPicks fault ∷ []) Refused new given)
      → Speaks tells breaks (SaysOfNoLines lending code lines) old new given
  lines_are_refused lending code lines fault None same is ends = (NoMemory ∷ [], Memory, no_memory, ends)
  lines_are_refused lending code lines fault (Some c) same is ends = (NoPicks fault ∷ [], Refused, refused_for fault c is (sym same), ends)

  -- and so the lines are told
  pub refusal_is_told : (lending : Lending) (code : Code) (lines : List ℕ) → Speaks tells breaks (SaysOfNoLines lending code lines) old new given
      → Speaks tells breaks (SaysOfLines lending code lines) old new given
  refusal_is_told lending code lines (said, status, says, ends) = (said, status, not_made said status says, ends)

-- ---- the events, and how they ended

pub says_of_events : (lending : Lending) (code : Code) (names : NameTable) (events : List Event) (end : State CodeProcess) (ending : Ending)
    (status : Status) → names ≡ code.names → IsEnding lending code end ending → IsEndStatus end ending status
    → SaysOfEvents lending code events end (shown names events ++ Ended ending ∷ []) status
says_of_events lending code names events end ending status same is its_status =
    subst (λ (n : NameTable). SaysOfEvents lending code events end (shown n events ++ Ended ending ∷ []) status) (sym same)
    (all_told ending is status its_status)
