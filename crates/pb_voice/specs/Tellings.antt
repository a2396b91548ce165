-- Things that are told one after another, to any teller.
use Rattle.std.specs.Prelude.{◌≡◌, ◌≢◌, ◌⊎◌, ◌++◌, ℕ, List, [], ◌∷◌, ⊤, Option, IfSome}
use Rattle.pb_base.specs.Device.{one_more_failure}
use Rattle.pb_command_io.specs.declared.status.Status.{Status}
use Rattle.pb_command_io.specs.declared.status.Status.TheVariants.{Device}

-- these are told one after another, each by one step of the teller
abbrev pub Telling : {T S : Type 0} (tells : T → S → T → Type 0) → T → List S → T → Type 0
Telling {T} tells start [] end = start ≡ end
Telling {T} tells start (one ∷ later) end = (mid : T) × tells start one mid × Telling tells mid later end

-- the first of these are told, and a write failed at the next
pub record Breaking {T S : Type 0} (tells breaks : T → S → T → Type 0) (start : T) (said : List S) (end : T) : Type 0 where
  pub first : List S
  pub one : S
  pub later : List S
  pub mid : T
  pub split : said ≡ first ++ one ∷ later
  pub told : Telling tells start first mid
  pub broken : breaks mid one end

-- these are told, and the status is that of the call; or a write failed, and the status says so
pub data Ends {T S : Type 0} (tells breaks : T → S → T → Type 0) (old : T) (said : List S) (status : Status) (new : T) : Status → Type 0 where
  whole : status ≢ Device → Telling tells old said new → Ends tells breaks old said status new status
  broken : Breaking tells breaks old said new → Ends tells breaks old said status new Device

-- something that may be said is told so
abbrev pub Speaks : {T S : Type 0} (tells breaks : T → S → T → Type 0) → (List S → Status → Type 0) → (old new : T) → Status → Type 0
Speaks {T} {S} tells breaks MaySay old new answered =
    (said : List S) × (status : Status) × MaySay said status × Ends tells breaks old said status new answered

-- a read failed, and nothing is told; or none failed, and something is told, which may be said of the input if that is known
abbrev pub Answers : {T S : Type 0} (tells breaks : T → S → T → Type 0) → (SaysOf : List ℕ → List S → Status → Type 0)
    → (rest : Option (List ℕ)) → (reads reads' : ℕ) → (old new : T) → Status → Type 0
Answers {T} {S} tells breaks SaysOf rest reads reads' old new answered =
    ((reads' ≡ one_more_failure reads) × (new ≡ old) × (answered ≡ Device))
    ⊎ ((reads' ≡ reads) × Speaks tells breaks (λ (said : List S) status. ⊤) old new answered
    × IfSome rest (λ bytes. Speaks tells breaks (SaysOf bytes) old new answered))
