-- Texts that are looked at one after another, and what is told of them.
use Rattle.std.proofs.Common.{◌≡◌, ◌≢◌, ◌+◌, ◌++◌, ◌||◌, ℕ, Bool, true, false, List, [], ◌∷◌, drop, Option, Some, None, IfSome, IfNone}
use Rattle.std.proofs.Common.{sym, subst, inl, inr, append_assoc}
use Rattle.pb_command_io.specs.Parts.{IsMarkAt, IsCutAt, AreParts, last, more}
use Rattle.pb_command_io.specs.declared.status.Status.{Status}
use Rattle.pb_command_io.specs.declared.status.Status.TheVariants.{Memory, Device}
use Rattle.pb_accept.specs.Checks as checks
use Rattle.pb_accept.specs.Checks.{AreFirstParts, AreTold, IsLeft, SaysOfChecks, check_status, TellsAnswer, answered, out_of_memory, cut_off}
use Rattle.pb_accept.specs.Sayings.{Saying, NoMemory}
use Rattle.pb_voice.specs.Tellings.{Ends, Speaks, whole, broken}
use Rattle.pb_accept.specs.declared.check.Told.TheVariants as told
use Rattle.pb_voice.proofs.TellingLemmas.{telling_more, breaking_later, ends_later}

-- the parts of what is left, of which one more is done
one_more_done : (bytes rest part more_rest : List ℕ) (done : List (List ℕ)) → IsLeft bytes done rest → IsCutAt rest part more_rest
    → IsLeft bytes (done ++ part ∷ []) more_rest
one_more_done bytes rest part more_rest done left (at, mark, first, part_is, rest_is) parts are =
    let behind : AreParts (drop (at + 3) rest) parts = subst (λ (r : List ℕ). AreParts r parts) rest_is are in
    let all : AreParts rest (part ∷ parts) = subst (λ (p : List ℕ). AreParts rest (p ∷ parts)) (sym part_is) (more rest at parts mark first behind) in
    subst (λ (ps : List (List ℕ)). AreParts bytes ps) (sym (append_assoc done (part ∷ []) parts)) (left (part ∷ parts) all)

-- the parts of what is left, which is the last
last_done : (bytes rest part : List ℕ) (done : List (List ℕ)) → IsLeft bytes done rest → part ≡ rest → ((at : ℕ) → ¬ IsMarkAt rest at)
    → AreParts bytes (done ++ part ∷ [])
last_done bytes rest part done left same no_mark =
    subst (λ (p : List ℕ). AreParts bytes (done ++ p ∷ [])) (sym same) (left (rest ∷ []) (last rest no_mark))

-- no status of `check` is that of a device
no_device : (refused : Bool) → check_status refused ≢ Device
no_device true e = cc
no_device false e = cc

module _ {T : Type 0} (tells breaks : T → Saying → T → Type 0) (warn : Bool) (bytes rest : List ℕ) (start : T) (refused : Bool)
    (old : T) (are : AreTold tells warn bytes rest start refused old) where
  pub told_one_more : (part more_rest : List ℕ) (is : Bool) (new : T) → IsCutAt rest part more_rest
      → TellsAnswer tells breaks warn part old new (told.Answered is) → AreTold tells warn bytes more_rest start (refused || is) new
  told_one_more part more_rest is new cut (one, answer, step) = record {
    done = are.done ++ part ∷ [];
    said = are.said ++ one;
    left = one_more_done bytes rest part more_rest are.done are.left cut;
    answers = checks.more are.done are.said refused part one is are.answers answer;
    told = telling_more tells start old new are.said one are.told step;
  }

  -- all parts are answered
  pub told_all : (part : List ℕ) (is : Bool) (new : T) (given : Status) → part ≡ rest → ((at : ℕ) → ¬ IsMarkAt rest at)
      → TellsAnswer tells breaks warn part old new (told.Answered is) → given ≡ check_status (refused || is)
      → Speaks tells breaks (SaysOfChecks warn bytes) start new given
  told_all part is new given same no_mark (one, answer, step) given_is = (
    are.said ++ one,
    check_status (refused || is),
    answered (are.done ++ part ∷ []) (are.said ++ one) (refused || is) (last_done bytes rest part are.done are.left same no_mark)
        (checks.more are.done are.said refused part one is are.answers answer),
    subst (λ (s : Status). Ends tells breaks start (are.said ++ one) (check_status (refused || is)) new s) (sym given_is)
        (whole (no_device (refused || is)) (telling_more tells start old new are.said one are.told step)),
  )

  -- out of memory for the next text
  pub told_until_memory : (mid new : T) (given : Status) → mid ≡ old → Ends tells breaks mid (NoMemory ∷ []) Memory new given
      → Speaks tells breaks (SaysOfChecks warn bytes) start new given
  told_until_memory mid new given same ends =
      let ends' = subst (λ (m : T). Ends tells breaks m (NoMemory ∷ []) Memory new given) same ends in (
        are.said ++ NoMemory ∷ [],
        Memory,
        out_of_memory are.done are.said refused (inr (rest, are.left)) are.answers,
        ends_later tells breaks start old new are.said (NoMemory ∷ []) Memory given are.told ends',
      )

  -- a write failed
  broken_in : (part : List ℕ) (new : T) → AreFirstParts bytes (are.done ++ part ∷ []) → TellsAnswer tells breaks warn part old new told.Broken
      → Speaks tells breaks (SaysOfChecks warn bytes) start new Device
  broken_in part new first (one, is, answer, step) = (
    are.said ++ one,
    Device,
    cut_off (are.done ++ part ∷ []) (are.said ++ one) (refused || is) first
        (checks.more are.done are.said refused part one is are.answers answer),
    broken (breaking_later tells breaks start old new are.said one are.told step),
  )

  pub told_broken : {R : Type 0} (seen : R → List ℕ) (part : List ℕ) (more_rest : Option R) (new : T)
      → IfSome more_rest (λ r. IsCutAt rest part (seen r)) → IfNone more_rest ((part ≡ rest) × ((at : ℕ) → ¬ IsMarkAt rest at))
      → TellsAnswer tells breaks warn part old new told.Broken → Speaks tells breaks (SaysOfChecks warn bytes) start new Device
  told_broken seen part None new cut all step = broken_in part new (inl (last_done bytes rest part are.done are.left all.0 all.1)) step
  told_broken seen part (Some r) new cut all step =
      broken_in part new (inr (seen r, one_more_done bytes rest part (seen r) are.done are.left cut)) step
