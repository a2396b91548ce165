-- What is said of an input, from the message that was made.
use Rattle.std.proofs.Common.{◌≡◌, ℕ, List, [], codes, Some, Result, Ok, Err, IfOk, OnOk, ap, ◌∙◌, min, take}
use Rattle.std.proofs.Common.{◌+◌, ◌<◌, ◌≤◌, Bool, true, false, not, IsTrue, arith, length, drop, refl, subst, sym, inl, inr}
use Rattle.std.proofs.Math.Nat.{min-eq_left, min-le_right}
use Rattle.std.proofs.lemmas.List.{length-drop, length-take}
use Rattle.pb_base.specs.declared.lending.Lending.{Lending}
use Rattle.pb_code.specs.Whole.{Code, ProcessLabels}
use Rattle.pb_codegen.specs.Compiled.{IsCompiled}
use Rattle.pb_accept.specs.Causes.{picks_cause}
use Rattle.pb_accept.specs.Loading.{IsLoadFault}
use Rattle.pb_accept.specs.Causes.{load_cause}
use Rattle.pb_command_io.specs.Parts.{AreTwoParts, IsCutAt, IsMark}
use Rattle.pb_accept.specs.declared.load.LoadFault.{LoadFault}
use Rattle.pb_history.specs.Replays.{IsStoppedBy, spread}
use Rattle.pb_history.specs.declared.counted.CountedPick.{CountedPick}
use Rattle.pb_history.specs.declared.fault.ReplayFault.TheVariants.{NotEnabled}
use Rattle.pb_picks.specs.PickLines.{IsFaulty, SpellsPicks}
use Rattle.pb_picks.specs.declared.fault.PickFault.{PickFault}
use Rattle.pb_lexer.specs.Cutting.{line_at}
use Rattle.pb_message_stops.specs.Stops.{HoldsPick}
use Rattle.pb_message_stops.specs.Told.{TellsFault, TellsStop}
use Rattle.pb_message_stops.specs.declared.stops.Stop.{Stop}
use Rattle.pb_mistakes.specs.declared.wording.Wording.{Wording}
use Rattle.pb_messages.specs.Details.{ShowsWording}
use Rattle.pb_messages.specs.Messages.{IsMessage}
use Rattle.pb_messages.specs.Said.{AreSaid, HasNoMark, IsLastLabel, SaysMore, SaysByReading, SaysOfFirstFormat, SaysWhetherFirst, lines_before, stop_at}
use Rattle.pb_messages.specs.Said.{SaysOfPickLines, SaysOfPickedObject, SaysOfPickedSource, SaysOfPickedText, SaysOfTexts, TellsObject}
use Rattle.pb_messages.specs.Said.{all, stopped, unread}
use Rattle.pb_accept.specs.declared.cause.Cause.{Cause}
use Rattle.pb_messages.specs.declared.message.Reading.TheVariants.{Debugged, Replayed, Shown}
use Rattle.pb_sources.specs.Sources.{IsObjectPart}

-- the first part of an input is within it
part_within : (bytes part rest : List ℕ) → AreTwoParts bytes part rest → length part ≤ length bytes
part_within bytes part rest (inl (at, mark, earlier, is, left)) =
    let long = min-le_right at (length bytes) in
    let taken = length-take at bytes in
    subst (λ (p : List ℕ). length p ≤ length bytes) (sym is) (omega (arith, long, taken))
part_within bytes part rest (inr (is, left, none)) = subst (λ (p : List ℕ). length p ≤ length bytes) (sym is) (omega arith)

-- how many lines are before the second part
pub are_before : (bytes part rest : List ℕ) (before : ℕ) → AreTwoParts bytes part rest
    → before ≡ line_at bytes (min (length part) (length bytes)) → before ≡ lines_before bytes part
are_before bytes part rest before parts are =
    are ∙ ap (λ (n : ℕ). line_at bytes n) (min-eq_left (part_within bytes part rest parts))

module _ {W E : Type 0} (seen : W → List ℕ) where
  -- the message of a fault of an object
  pub object_told : (bytes : List ℕ) (fault : LoadFault) (cause : Cause) (made : Result W E)
      → IsLoadFault bytes fault → load_cause fault ≡ Some cause
      → IfOk made (λ told. IsMessage [] bytes cause (seen told)) → IfOk made (λ told. TellsObject bytes (seen told))
  object_told bytes fault cause (Ok told) is caused message = (fault, cause, is, caused, message)
  object_told bytes fault cause (Err e) is caused message = message

  -- the message of lines that say no picks
  pub lines_told : (lending : Lending) (code : Code) (before : ℕ) (lines : List ℕ) (fault : PickFault) (cause : Cause) (wording : Wording)
      (made : Result W E) → IsFaulty code lines fault → picks_cause fault ≡ Some cause
      → (IsTrue wording.is_whole → TellsFault before lines fault wording)
      → IfOk made (λ told. IsMessage (codes "pick ") lines cause (seen told))
      → IfOk made (λ told. ShowsWording (codes "pick ") lines cause wording (seen told))
      → OnOk made (IsTrue wording.is_whole) → IfOk made (λ told. SaysOfPickLines lending code before lines (seen told))
  lines_told lending code before lines fault cause wording (Ok told) is caused tells message shows whole =
      unread fault cause wording (seen told) is caused (tells whole) message shows
  lines_told lending code before lines fault cause wording (Err e) is caused tells message shows whole = message

  -- the message of a pick that is not enabled
  pub stop_told : (lending : Lending) (code : Code) (before : ℕ) (lines : List ℕ) (picks : List CountedPick) (number : ℕ) (stop : Stop)
      (wording : Wording) (made : Result W E)
      → SpellsPicks code lines picks → IsStoppedBy lending code (spread picks) (NotEnabled number) → HoldsPick code lines picks number stop
      → (IsTrue wording.is_whole → TellsStop before lines stop wording)
      → IfOk made (λ told. IsMessage (codes "pick ") lines (stop_at stop.line) (seen told))
      → IfOk made (λ told. ShowsWording (codes "pick ") lines (stop_at stop.line) wording (seen told))
      → OnOk made (IsTrue wording.is_whole) → IfOk made (λ told. SaysOfPickLines lending code before lines (seen told))
  stop_told lending code before lines picks number stop wording (Ok told) spelled is holds tells message shows whole =
      stopped picks number stop wording (seen told) spelled is holds (tells whole) message shows
  stop_told lending code before lines picks number stop wording (Err e) spelled is holds tells message shows whole = message

  -- what is said of an accepted text, of which the first format can say the code or not
  pub format_told : (text : List ℕ) (code : Code) (labels : List ProcessLabels) (shown : Code) (made : Result W E)
      → IsCompiled text code labels → shown ≡ code → IfOk made (λ told. SaysWhetherFirst text shown (seen told))
      → IfOk made (λ told. SaysOfFirstFormat text (seen told))
  format_told text code labels shown (Ok told) compiled same says =
      inl (code, labels, compiled, subst (λ (c : Code). SaysWhetherFirst text c (seen told)) same says)
  format_told text code labels shown (Err e) compiled same says = says

  -- what is said of a text and pick lines
  pub text_replayed : (lending : Lending) (before : ℕ) (bytes text lines : List ℕ) (made : Result W E) → AreTwoParts bytes text lines
      → before ≡ line_at bytes (min (length text) (length bytes))
      → IfOk made (λ told. SaysOfPickedText lending before text lines (seen told))
      → IfOk made (λ told. SaysByReading (Replayed lending) bytes (seen told))
  text_replayed lending before bytes text lines (Ok told) parts are says =
      (text, lines, parts, subst (λ (n : ℕ). SaysOfPickedText lending n text lines (seen told)) (are_before bytes text lines before parts are) says)
  text_replayed lending before bytes text lines (Err e) parts are says = says

  -- what is said of an object and pick lines, and of a text and pick lines
  pub object_picked : (lending : Lending) (before : ℕ) (source lines : List ℕ) (made : Result W E) → IsObjectPart source
      → IfOk made (λ told. SaysOfPickedObject lending before source lines (seen told))
      → IfOk made (λ told. SaysOfPickedSource lending before source lines (seen told))
  object_picked lending before source lines (Ok told) object says = inl (object, says)
  object_picked lending before source lines (Err e) object says = says

  pub text_picked : (lending : Lending) (before : ℕ) (source lines : List ℕ) (made : Result W E) → ¬ IsObjectPart source
      → IfOk made (λ told. SaysOfPickedText lending before source lines (seen told))
      → IfOk made (λ told. SaysOfPickedSource lending before source lines (seen told))
  text_picked lending before source lines (Ok told) none says = inr (none, says)
  text_picked lending before source lines (Err e) none says = says

  -- what is said of either, with no commands after the pick lines, and with commands
  pub source_shown : (lending : Lending) (before : ℕ) (bytes source lines : List ℕ) (made : Result W E) → AreTwoParts bytes source lines
      → before ≡ line_at bytes (min (length source) (length bytes))
      → IfOk made (λ told. SaysOfPickedSource lending before source lines (seen told))
      → IfOk made (λ told. SaysByReading (Shown lending) bytes (seen told))
  source_shown lending before bytes source lines (Ok told) parts are says =
      (source, lines, parts, subst (λ (n : ℕ). SaysOfPickedSource lending n source lines (seen told)) (are_before bytes source lines before parts are) says)
  source_shown lending before bytes source lines (Err e) parts are says = says

  pub source_debugged : (lending : Lending) (before : ℕ) (bytes source rest lines commands : List ℕ) (made : Result W E)
      → AreTwoParts bytes source rest → AreTwoParts rest lines commands → before ≡ line_at bytes (min (length source) (length bytes))
      → IfOk made (λ told. SaysOfPickedSource lending before source lines (seen told))
      → IfOk made (λ told. SaysByReading (Debugged lending) bytes (seen told))
  source_debugged lending before bytes source rest lines commands (Ok told) parts more are says = (
    source,
    rest,
    lines,
    commands,
    parts,
    more,
    subst (λ (n : ℕ). SaysOfPickedSource lending n source lines (seen told)) (are_before bytes source rest before parts are) says,
  )
  source_debugged lending before bytes source rest lines commands (Err e) parts more are says = says

-- what is said of all texts
pub said_all : (bytes : List ℕ) (number : ℕ) (label rest part before told : List ℕ) → AreSaid bytes number rest before
    → part ≡ rest → HasNoMark rest → IsLastLabel number label → SaysMore label part before told → SaysOfTexts bytes told
said_all bytes number label rest part before told are same no_mark labels says =
    all number label rest before told are no_mark labels (subst (λ (text : List ℕ). SaysMore label text before told) same says)

-- there is something where a line `%%` is
pub mark_not_empty : (text : List ℕ) → IsMark text → 0 < length text
mark_not_empty text (inl two) = subst (λ (t : List ℕ). 0 < length t) (sym two) (omega arith)
mark_not_empty text (inr (after, more)) = subst (λ (t : List ℕ). 0 < length t) (sym more) (omega arith)

-- what follows a line `%%` is shorter than what the line is in
pub cut_shorter : (rest part left : List ℕ) → IsCutAt rest part left → length left < length rest
cut_shorter rest part left (at, mark, earlier, is_part, is_left) =
    let some = mark_not_empty (drop at rest) mark.marks in
    let from = length-drop at rest in
    let behind = length-drop (at + 3) rest in
    subst (λ (l : List ℕ). length l < length rest) (sym is_left) (omega (arith, some, from, behind))

-- whether there is nothing, as it is said by whether there is something
pub none_told : (b : Bool) → false ≡ not b → IsTrue b
none_told true same = grind arith
none_told false same = absurd cc

pub some_told : (b : Bool) → true ≡ not b → b ≡ false
some_told true same = absurd cc
some_told false same = refl
