-- What a call from C comes to.
use Rattle.std.specs.Prelude.{◌≡◌, ◌⊎◌, ℕ, List, [], Option, Some, None, codes, ◌∷◌, take, min, length, map, Any}
use Rattle.std.specs.Borrow.{Bor}
use Rattle.std.specs.Str.{IsUtf8}
use Rattle.clap.specs.Walk.{Text, texts}
use Rattle.pb_answer.specs.Calls.{CallWrites}
use Rattle.pb_command_io.specs.Answers.{Tells}
use Rattle.pb_command_io.specs.declared.status.Status.{Status}
use Rattle.pb_command_io.specs.declared.status.Status.TheVariants.{Device, Memory, Threads}
use Rattle.pb_command_io.specs.Statuses.{status_number}
use Rattle.pb_options.specs.declared.options.RecordOptions.{RecordOptions}
use Rattle.pb_options.specs.declared.options.RunOptions.{RunOptions}
use Rattle.pb_words.specs.declared.words.Options.TheVariants.{Exec, Record, Run}
use Rattle.pb_words.specs.Read.{WordsSay}
use Rattle.pb_c_call.specs.declared.word.Word.{Word}

-- the bytes that an output in memory was given, for how many it has memory, and how many writes of it have failed
pub record KeptBytes : Type 0 where
  pub bytes : List ℕ
  pub room : ℕ
  pub failures : ℕ

-- the words say a command that starts threads: `run`, `exec`, or `record` without a seed
abbrev pub SayThreads : List (Bor Text) → Type 0
SayThreads words =
    ((o : RunOptions) × WordsSay words (Run o))
    ⊎ (((o : RunOptions) × WordsSay words (Exec o)) ⊎ ((o : RecordOptions) × (o.seed ≡ None) × WordsSay words (Record o)))

-- so nothing is written
abbrev pub RefusesThreads : List (Bor Text) → Option (List ℕ) → Option (List ℕ) → Status → Type 0
RefusesThreads words old new status = SayThreads words × (new ≡ old) × (status ≡ Threads)

-- the words after the name of the program do what the program does with them, with this reply and this status;
-- or they would start threads
abbrev pub Replies : (words : List Text) (input reply : List ℕ) (status : Status) → Type 0
Replies words input reply status =
    (read : List (Bor Text)) × (texts read ≡ codes "parbegin" ∷ words)
    × (CallWrites read (Some input) (Some []) (Some reply) status
    ⊎ RefusesThreads read (Some []) (Some reply) status)

-- what an engine may tell of these bytes
abbrev pub Tellings : (List ℕ → List ℕ → Status → Type 0) → (input reply : List ℕ) (status : Status) → Type 0
Tellings says input reply status = Tells (says input) (Some []) (Some reply) status

-- the number that a call returns for a status: that of the program, but that of out of memory if a write failed, since the
-- output is in memory and there is no device
abbrev pub number_said : Status → ℕ
number_said Device = status_number Memory
number_said status = status_number status

-- there is such a reply, needed bytes long, and as much of it as there is room for is at the front of the output
pub record IsGiven (IsReply : List ℕ → Status → Type 0) (output : List ℕ) (said needed : ℕ) : Type 0 where
  pub reply : List ℕ
  pub status : Status
  pub replies : IsReply reply status
  pub number : said ≡ number_said status
  pub whole : needed ≡ length reply
  pub front : take (min (length output) (length reply)) output ≡ take (length output) reply

-- the words are not read: one is not UTF-8, or out of memory
pub record IsNotRead (words : List Word) (said needed : ℕ) : Type 0 where
  pub nothing : needed ≡ 0
  pub number : (said ≡ 2) ⊎ (said ≡ 5)
  pub not_utf8 : said ≡ 2 → Any (λ word. ¬ IsUtf8 word.text.now) words
