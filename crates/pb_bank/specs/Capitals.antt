-- What `capital R K` changes, and the answer to it.
use Rattle.std.specs.Prelude.{◌≡◌, ℕ, List, [], ◌∷◌, Option, Some, None}
use Rattle.pb_base.specs.Banker.{cash}
use Rattle.pb_banker.specs.declared.reason.CapitalSaid.{CapitalSaid}
use Rattle.pb_banker.specs.declared.reason.CapitalSaid.TheVariants as capital
use Rattle.pb_banker.specs.Changes.{SaysOfCapital, with_capital}
use Rattle.pb_bank.specs.declared.refusal.Refusal.TheVariants as refused
use Rattle.pb_bank.specs.declared.said.Said.{Said}
use Rattle.pb_bank.specs.declared.said.Said.TheVariants as told
use Rattle.pb_bank.specs.Desks.{DeskValue, place_of}
use Rattle.pb_bank.specs.Queues.{ServesQueue}
use Rattle.pb_bank.specs.Refusals.{Refuses, with_state, jobs_of}
use Rattle.pb_bank.specs.Words.{amount_of}

-- the capital is changed, and the queue is served; or it is said which jobs claim more, how much cash there is, or which
-- jobs could not finish, and nothing changes
abbrev pub ChangesCapital : CapitalSaid → DeskValue → (r amount : ℕ) → List Said → DeskValue → Type 0
ChangesCapital capital.Changed d r amount said next = ServesQueue (with_state d (with_capital d.bank.state r amount)) said next
ChangesCapital (capital.Claimed slots) d r amount said next =
    (said ≡ told.Claimed (jobs_of d.bank.state slots) ∷ []) × (next ≡ d)
ChangesCapital capital.OverCash d r amount said next = (said ≡ told.WaitCash r (cash d.bank.state r) ∷ []) × (next ≡ d)
ChangesCapital (capital.Rest slots) d r amount said next = (said ≡ told.WaitRest (jobs_of d.bank.state slots) ∷ []) × (next ≡ d)

-- another capital of a resource
abbrev pub SetsCapital : DeskValue → (r amount : ℕ) → List Said → DeskValue → Type 0
SetsCapital d r amount said next =
    (of : CapitalSaid) × SaysOfCapital d.bank.state r amount of × ChangesCapital of d r amount said next

-- so it is if the words are the name of a resource and an amount
abbrev pub AnswersSetting : DeskValue → Option ℕ → Option ℕ → List Said → DeskValue → Type 0
AnswersSetting d None amount said next = Refuses (refused.NoResource 0) d said next
AnswersSetting d (Some r) None said next = Refuses (refused.Amount 1) d said next
AnswersSetting d (Some r) (Some amount) said next = SetsCapital d r amount said next

-- `capital`: a resource, and how many there are now
abbrev pub AnswersCapital : DeskValue → List (List ℕ) → List Said → DeskValue → Type 0
AnswersCapital d [] said next = Refuses refused.Command d said next
AnswersCapital d (name ∷ []) said next = Refuses refused.Command d said next
AnswersCapital d (name ∷ amount ∷ []) said next =
    AnswersSetting d (place_of d.names.resources name) (amount_of amount) said next
AnswersCapital d (name ∷ amount ∷ other ∷ words) said next = Refuses refused.Command d said next
