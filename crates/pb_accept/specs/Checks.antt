-- What `check` says of an input, as data, and with which status.
use Rattle.std.specs.Prelude.{◌≡◌, ◌≢◌, ◌++◌, ◌||◌, ◌⊎◌, ℕ, Bool, true, false, List, [], ◌∷◌, map}
use Rattle.pb_accept.specs.Refusals.{IsAcceptedText}
use Rattle.pb_codegen.specs.Compiled.{IsRefused}
use Rattle.pb_codegen.specs.declared.fault.CompileFault.{CompileFault}
use Rattle.pb_codegen.specs.declared.fault.CompileFault.TheVariants as fault
use Rattle.pb_command_io.specs.Parts.{AreParts}
use Rattle.pb_command_io.specs.declared.status.Status.{Status}
use Rattle.pb_command_io.specs.declared.status.Status.TheVariants as status
use Rattle.pb_accept.specs.Sayings.{Saying, Accepted, NoMemory, Refused, Warns}
use Rattle.pb_accept.specs.Warned.{AreToldFor}
use Rattle.pb_voice.specs.Tellings.{Breaking, Telling}
use Rattle.pb_warnings.specs.Warnings.{Warning}
use Rattle.pb_accept.specs.declared.check.Told.{Told}
use Rattle.pb_accept.specs.declared.check.Told.TheVariants as told

-- what is told of an accepted text with these warnings
abbrev pub acceptance : List Warning → List Saying
acceptance found = Accepted ∷ map Warns found

-- the answer to one text, and whether it is a refusal: if it is accepted with its warnings, where these are asked for
pub data AnswerTo (warn : Bool) (text : List ℕ) : List Saying → Bool → Type 0 where
  well : (found : List Warning) → IsAcceptedText text → AreToldFor warn text found → AnswerTo warn text (acceptance found) false
  ill : (f : CompileFault) → f ≢ fault.Memory → IsRefused text f → AnswerTo warn text (Refused f ∷ []) true

-- the answers to some texts, one after another, and whether one of them is a refusal
pub data AnswersTo (warn : Bool) : List (List ℕ) → List Saying → Bool → Type 0 where
  none : AnswersTo warn [] [] false
  more : (texts : List (List ℕ)) (said : List Saying) (refused : Bool) (text : List ℕ) (one : List Saying) (is : Bool)
      → AnswersTo warn texts said refused → AnswerTo warn text one is
      → AnswersTo warn (texts ++ text ∷ []) (said ++ one) (refused || is)

-- the parts of the rest of an input follow these parts of it
abbrev pub IsLeft : List ℕ → List (List ℕ) → List ℕ → Type 0
IsLeft bytes done rest = (parts : List (List ℕ)) → AreParts rest parts → AreParts bytes (done ++ parts)

-- the first parts of an input: all of them, or those before what is left
abbrev pub AreFirstParts : List ℕ → List (List ℕ) → Type 0
AreFirstParts bytes done = AreParts bytes done ⊎ ((rest : List ℕ) × IsLeft bytes done rest)

-- the status of `check`, by whether an answer is a refusal
abbrev pub check_status : Bool → Status
check_status true = status.Refused
check_status false = status.Done

-- what is said of an input: each of its parts is answered; or the first ones, until it is out of memory or a write fails
pub data SaysOfChecks (warn : Bool) (bytes : List ℕ) : List Saying → Status → Type 0 where
  answered : (parts : List (List ℕ)) (said : List Saying) (refused : Bool) → AreParts bytes parts
      → AnswersTo warn parts said refused → SaysOfChecks warn bytes said (check_status refused)
  out_of_memory : (done : List (List ℕ)) (said : List Saying) (refused : Bool) → AreFirstParts bytes done
      → AnswersTo warn done said refused → SaysOfChecks warn bytes (said ++ NoMemory ∷ []) status.Memory
  cut_off : (done : List (List ℕ)) (said : List Saying) (refused : Bool) → AreFirstParts bytes done
      → AnswersTo warn done said refused → SaysOfChecks warn bytes said status.Device

-- what came of telling the answer to one text
abbrev pub TellsAnswer : {T : Type 0} (tells breaks : T → Saying → T → Type 0) → Bool → List ℕ → (old new : T) → Told → Type 0
TellsAnswer tells breaks warn text old new (told.Answered refused) =
    (said : List Saying) × AnswerTo warn text said refused × Telling tells old said new
TellsAnswer tells breaks warn text old new told.OutOfMemory = new ≡ old
TellsAnswer tells breaks warn text old new told.Broken =
    (said : List Saying) × (refused : Bool) × AnswerTo warn text said refused × Breaking tells breaks old said new

-- the parts that have been checked so far, with what was told of each
pub record AreTold {T : Type 0} (tells : T → Saying → T → Type 0) (warn : Bool) (bytes rest : List ℕ) (start : T) (refused : Bool) (now : T) : Type 0 where
  pub done : List (List ℕ)
  pub said : List Saying
  pub left : IsLeft bytes done rest
  pub answers : AnswersTo warn done said refused
  pub told : Telling tells start said now
