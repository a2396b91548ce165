-- What a call from C is given.
use Rattle.std.proofs.Common.{◌≡◌, ◌∷◌, ◌⊎◌, ℕ, List, [], Some, length, take, min, ap, subst, sym}
use Rattle.std.specs.Prelude.{codes}
use Rattle.std.specs.Borrow.{Bor}
use Rattle.clap.specs.Walk.{Text, texts}
use Rattle.pb_answer.specs.Calls.{CallWrites}
use Rattle.pb_command_io.specs.Answers.{Tells}
use Rattle.pb_command_io.specs.declared.status.Status.{Status}
use Rattle.pb_c_call.specs.Replies.{IsGiven, KeptBytes, number_said, RefusesThreads, Replies, Tellings}

-- what a command writes of some words, for these bytes, after those that were written before
abbrev pub Writes : List (Bor Text) → (input old new : List ℕ) → Status → Type 0
Writes read input old new status =
    CallWrites read (Some input) (Some old) (Some new) status ⊎ RefusesThreads read (Some old) (Some new) status

pub replied : (words : List Text) (input : List ℕ) (read : List (Bor Text)) (source old new : List ℕ) (status : Status)
    → texts read ≡ codes "parbegin" ∷ words → source ≡ input → old ≡ [] → Writes read source old new status
    → Replies words input new status
replied words input read source old new status is from nothing writes = (
  read,
  is,
  subst (λ (o : List ℕ). Writes read input o new status) nothing
      (subst (λ (i : List ℕ). Writes read i old new status) from writes),
)

pub told : (says : List ℕ → List ℕ → Status → Type 0) (input source old new : List ℕ) (status : Status)
    → source ≡ input → old ≡ [] → Tells (says source) (Some old) (Some new) status → Tellings says input new status
told says input source old new status from nothing tells =
    subst (λ (o : List ℕ). Tells (says input) (Some o) (Some new) status) nothing
    (subst (λ (i : List ℕ). Tells (says i) (Some old) (Some new) status) from tells)

pub given : (IsReply : List ℕ → Status → Type 0) (output room new bytes : List ℕ) (status : Status) (said : ℕ) → IsReply new status
    → said ≡ number_said status → bytes ≡ new → length output ≡ length room
    → take (min (length room) (length bytes)) output ≡ take (length room) bytes
    → IsGiven IsReply output said (length bytes)
given IsReply output room new bytes status said replies number all long front =
    record {
      reply = new;
      status = status;
      replies = replies;
      number = number;
      whole = ap (λ (l : List ℕ). length l) all;
      front = rw long (subst (λ (l : List ℕ). take (min (length room) (length l)) output ≡ take (length room) l) all front);
    }
