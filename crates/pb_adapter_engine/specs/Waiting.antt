-- Requests before a text is launched, and the launch.
use Rattle.std.specs.Prelude.{◌≡◌, ◌+◌, ℕ, List, [], ◌∷◌, ◌++◌, Option, Some, None, Bool, true, false, codes, cond, unwrap_or}
use Rattle.std.specs.Str.{bytes_eq}
use Rattle.std.specs.Str.Lossy.{utf8_lossy}
use Rattle.serde_json.specs.Data.{Data, null}
use Rattle.pb_base.specs.Lines.{line}
use Rattle.pb_base.specs.Steppers.{State}
use Rattle.pb_base.specs.declared.lending.Lending.{Lending}
use Rattle.pb_base.specs.declared.lending.Lending.TheVariants.{ByBanker, ByCash}
use Rattle.pb_code.specs.Code.{CodeProcess}
use Rattle.pb_code.specs.Whole.{Code, ProcessLabels}
use Rattle.pb_codegen.specs.Compiled.{IsCompiled}
use Rattle.pb_history.specs.Entries.{Entry}
use Rattle.pb_history.specs.Replays.{IsReplayBy, spread}
use Rattle.pb_history.specs.declared.counted.CountedPick.{CountedPick}
use Rattle.pb_picks.specs.PickLines.{SpellsPicks}
use Rattle.pb_record.specs.Recorded.{IsRecorded, IsTooLong}
use Rattle.pb_verifier.specs.Verified.{VerifiedCode}
use Rattle.pb_command_io.specs.Parts.{AreTwoParts}
use Rattle.pb_accept.specs.Refusals.{RefusesWith}
use Rattle.pb_accept.specs.ReplayLines.{SaysOfNoPicksBy}
use Rattle.pb_messages.specs.Said.{SaysToPerson}
use Rattle.pb_messages.specs.declared.message.Reading.{Reading}
use Rattle.pb_messages.specs.declared.message.Reading.TheVariants.{Replayed, Text}
use Rattle.pb_adapter.specs.Answers.{without_feed}
use Rattle.pb_command_io.specs.declared.status.Status.{Status}
use Rattle.pb_adapter_values.specs.Values.{capabilities_data}
use Rattle.pb_adapter_requests.specs.Kinds.{kind_of}
use Rattle.pb_adapter_requests.specs.Counting.{counting_of, from_1}
use Rattle.pb_adapter_requests.specs.declared.counting.Counting.{Counting}
use Rattle.pb_adapter_requests.specs.Requests.{Asked, is_given, number_of, text_of}
use Rattle.pb_adapter_requests.specs.Responses.{done_data, event_data, refused_data}
use Rattle.pb_adapter_requests.specs.declared.kind.Kind.{Kind}
use Rattle.pb_adapter_requests.specs.declared.kind.Kind.TheVariants as kind
use Rattle.pb_adapter_engine.specs.declared.launched.Launch.{Launch}
use Rattle.pb_adapter_engine.specs.declared.launched.Launch.TheVariants as launch
use Rattle.pb_adapter_engine.specs.declared.launched.Launched.{Launched}
use Rattle.pb_adapter_engine.specs.declared.launch.TheConstants.{MAX_DRAWN}

-- what a launch gives: who lends, code and its labels, picks, the text, the path under which it is shown, and how the
-- client counts
pub record LaunchedText : Type 0 where
  pub lending : Lending
  pub verified : VerifiedCode
  pub labels : List ProcessLabels
  pub counted : List CountedPick
  pub source : List ℕ
  pub path : List ℕ
  pub counting : Counting

-- what a contract sees of a launch
abbrev pub launched_view : Launched → LaunchedText
launched_view l = record {
  lending = l.lending;
  verified = l.compiled.verified;
  labels = l.compiled.labels;
  counted = l.picks.items;
  source = l.source.items;
  path = l.path.bytes.items;
  counting = l.counting;
}

-- ---- what is launched

-- without a seed pick lines are after the text; with one the text is all
abbrev pub ArePartsFor : (seed : Option ℕ) → (words source lines : List ℕ) → Type 0
ArePartsFor None words source lines = AreTwoParts words source lines
ArePartsFor (Some seed) words source lines = (source ≡ words) × (lines ≡ [])

-- the lines say these picks, each enabled in turn under this lending
pub record ArePicksOf (lending : Lending) (code : Code) (lines : List ℕ) (counted : List CountedPick) : Type 0 where
  pub spelled : SpellsPicks code lines counted
  pub entries : List Entry
  pub end : State CodeProcess
  pub replay : IsReplayBy lending code (spread counted) entries end

-- the picks: without a seed those of the lines; with one those that its generator draws, up to 1,000,000
abbrev pub ArePicksFor : (seed : Option ℕ) → Lending → Code → (lines : List ℕ) → List CountedPick → Type 0
ArePicksFor None lending code lines counted = ArePicksOf lending code lines counted
ArePicksFor (Some seed) lending code lines counted =
    (end : State CodeProcess) × IsRecorded lending code MAX_DRAWN (Some seed) counted end

-- a text compiles, and there are picks for it
pub record IsLaunched (words : List ℕ) (seed : Option ℕ) (lending : Lending) (path : List ℕ) (counting : Counting)
    (l : LaunchedText) : Type 0 where
  pub lines : List ℕ
  pub parts : ArePartsFor seed words l.source lines
  pub lends : l.lending ≡ lending
  pub compiled : IsCompiled l.source l.verified.code l.labels
  pub picks : ArePicksFor seed lending l.verified.code lines l.counted
  pub path_is : l.path ≡ path
  pub counting_is : l.counting ≡ counting

-- there are none: the lines say none that are enabled in turn; or those that are drawn are too many
abbrev pub RefusesPicks : (seed : Option ℕ) → Lending → Code → (lines refusal : List ℕ) → Type 0
RefusesPicks None lending code lines refusal = (status : Status) × SaysOfNoPicksBy lending code lines (line refusal) status
RefusesPicks (Some seed) lending code lines refusal =
    IsTooLong lending code MAX_DRAWN (Some seed) × (refusal ≡ codes "refused output: more than 1000000 picks are drawn")

-- the refusal of a text, or of its picks
pub data IsUnfit (words : List ℕ) (seed : Option ℕ) (lending : Lending) : (refusal : List ℕ) → Type 0 where
  no_text : (source lines refusal : List ℕ) → ArePartsFor seed words source lines → RefusesWith source refusal
      → IsUnfit words seed lending refusal
  no_picks : (source lines refusal : List ℕ) → ArePartsFor seed words source lines
      → (code : Code) (labels : List ProcessLabels) → IsCompiled source code labels
      → RefusesPicks seed lending code lines refusal → IsUnfit words seed lending refusal

-- what a launch comes to
abbrev pub ComesTo : (words : List ℕ) (seed : Option ℕ) (lending : Lending) (path : List ℕ) → Counting → Launch → Type 0
ComesTo words seed lending path counting (launch.Fit l) = IsLaunched words seed lending path counting (launched_view l)
ComesTo words seed lending path counting (launch.Unfit line) = IsUnfit words seed lending line.items

-- ---- why a launch is refused, in words

-- how a launch reads its text
abbrev pub reading_of : (seed : Option ℕ) → Lending → Reading
reading_of None lending = Replayed lending
reading_of (Some seed) lending = Text

-- a line that refuses a launch, and after it what a person is told of the text, if anything is
abbrev pub in_words : (refusal message : List ℕ) → List ℕ
in_words refusal message = without_feed (line refusal ++ message)

-- a launch is refused by a line, and in words
abbrev pub TellsUnfit : ℕ → Asked → (words : List ℕ) → Lending → (seed : Option ℕ) → (refusal : List ℕ) → List Data → Type 0
TellsUnfit seq r words lending seed refusal told =
    (message : List ℕ) × SaysToPerson (reading_of seed lending) words message
    × (told ≡ refused_data seq r (utf8_lossy (in_words refusal message)) ∷ [])

-- ---- requests

-- who lends: the banker, if nobody is named; nobody, if another word is given
abbrev pub lending_named : List ℕ → Option Lending
lending_named word =
    cond (bytes_eq word (codes "banker")) (Some ByBanker) (cond (bytes_eq word (codes "cash")) (Some ByCash) None)

-- who lends, by the word of a launch; the banker, if it has none
abbrev pub lending_said : (given : Bool) → Option (List ℕ) → Option Lending
lending_said given (Some word) = lending_named word
lending_said true None = None
lending_said false None = Some ByBanker

abbrev pub lending_of : Asked → Option Lending
lending_of r = lending_said (is_given (codes "lend") r) (text_of (codes "lend") r)

-- the seed of a launch: `Some None` if it gives none, `None` if what it gives is not a number in its range
abbrev pub seed_said : (given : Bool) → Option ℕ → Option (Option ℕ)
seed_said given (Some n) = Some (Some n)
seed_said true None = None
seed_said false None = Some None

abbrev pub seed_of : Asked → Option (Option ℕ)
seed_of r = seed_said (is_given (codes "seed") r) (number_of (codes "seed") r)

-- what was launched, if something was, whether nothing more is answered here, and how the client counts
pub record WaitingValue : Type 0 where
  pub launched : Option LaunchedText
  pub over : Bool
  pub counting : Counting

-- nothing is launched yet
abbrev pub nobody : WaitingValue
nobody = record { launched = None; over = false; counting = from_1 }

-- the path that a request names; none if it names none
abbrev pub path_of : Asked → List ℕ
path_of r = unwrap_or (text_of (codes "program") r) []

-- it is refused, with the reason, and nothing changes
abbrev pub RefusesLaunch : WaitingValue → ℕ → Asked → (message : List ℕ) → List Data → WaitingValue → Type 0
RefusesLaunch s seq r message told next = (told ≡ refused_data seq r message ∷ []) × (next ≡ s)

-- a launch of a text: what it launches, and that breakpoints can be set; or why it launches nothing, and nothing
-- changes
pub data LaunchesText (s : WaitingValue) (seq : ℕ) (r : Asked) (words : List ℕ) (lending : Lending) (seed : Option ℕ)
    : List Data → WaitingValue → Type 0 where
  launched : (l : LaunchedText) → IsLaunched words seed lending (path_of r) s.counting l
      → LaunchesText s seq r words lending seed
      (done_data seq r null ∷ event_data (seq + 1) (codes "initialized") null ∷ []) (record s { launched = Some l; over = true })
  unfit : (refusal : List ℕ) → IsUnfit words seed lending refusal
      → (told : List Data) → TellsUnfit seq r words lending seed refusal told → LaunchesText s seq r words lending seed told s

-- by a seed that is right
abbrev pub LaunchesBy : WaitingValue → ℕ → Asked → (words : List ℕ) → Lending → Option (Option ℕ) → List Data → WaitingValue → Type 0
LaunchesBy s seq r words lending None told next =
    RefusesLaunch s seq r (codes "seed is not in 0..=18446744073709551615") told next
LaunchesBy s seq r words lending (Some seed) told next = LaunchesText s seq r words lending seed told next

-- under somebody who lends
abbrev pub LaunchesLent : WaitingValue → ℕ → Asked → (words : List ℕ) → Option Lending → List Data → WaitingValue → Type 0
LaunchesLent s seq r words None told next = RefusesLaunch s seq r (codes "lend is banker or cash") told next
LaunchesLent s seq r words (Some lending) told next = LaunchesBy s seq r words lending (seed_of r) told next

-- with a path under which it is shown
abbrev pub LaunchesNamed : WaitingValue → ℕ → Asked → (words path : List ℕ) → List Data → WaitingValue → Type 0
LaunchesNamed s seq r words [] told next =
    RefusesLaunch s seq r (codes "there is no program: the path of the text") told next
LaunchesNamed s seq r words (b ∷ bs) told next = LaunchesLent s seq r words (lending_of r) told next

-- a launch: of its text
abbrev pub Launches : WaitingValue → ℕ → Asked → Option (List ℕ) → List Data → WaitingValue → Type 0
Launches s seq r None told next = RefusesLaunch s seq r (codes "there is no text") told next
Launches s seq r (Some words) told next = LaunchesNamed s seq r words (path_of r) told next

-- the messages that answer a request of a kind
abbrev pub AnswersWaitingKind : Kind → WaitingValue → ℕ → Asked → List Data → WaitingValue → Type 0
AnswersWaitingKind kind.Initialize s seq r told next =
    (told ≡ done_data seq r capabilities_data ∷ []) × (next ≡ record s { counting = counting_of r })
AnswersWaitingKind kind.Launch s seq r told next = Launches s seq r (text_of (codes "text") r) told next
AnswersWaitingKind kind.Disconnect s seq r told next =
    (told ≡ done_data seq r null ∷ []) × (next ≡ record s { launched = None; over = true })
AnswersWaitingKind _ s seq r told next = RefusesLaunch s seq r (codes "no text is launched") told next

-- the messages that answer a request
abbrev pub AnswersWaiting : WaitingValue → ℕ → Asked → List Data → WaitingValue → Type 0
AnswersWaiting s seq r told next = AnswersWaitingKind (kind_of r.command) s seq r told next
