-- Desks whose bank keeps the capital that it has.
use Rattle.std.proofs.Common.{◌≡◌, ◌<◌, ◌++◌, ◌∷◌, ℕ, Bool, List, [], length, get_or, All, sym, ap, ◌∙◌, subst, refl}
use Rattle.pb_base.specs.Banker.{BankerState, resources}
use Rattle.pb_base.specs.Lines.{NameTable}
use Rattle.pb_banker.specs.Changes.{SaysOfCapital, with_capital}
use Rattle.pb_banker.specs.Jobs.{BankValue}
use Rattle.pb_banker.specs.declared.reason.CapitalSaid.TheVariants as capital
use Rattle.pb_bank.specs.declared.request.Request.{Request}
use Rattle.pb_bank.specs.declared.said.Said.{Said}
use Rattle.pb_bank.specs.declared.said.Said.TheVariants.{WaitRest}
use Rattle.pb_bank.specs.Capitals.{SetsCapital}
use Rattle.pb_bank.specs.Desks.{DeskValue, IsDesk, IsQueueOf, IsRequestOf}
use Rattle.pb_bank.specs.Refusals.{jobs_of}
use Rattle.pb_banker.proofs.Capitals.{resources-with}
use Rattle.pb_bank.proofs.QueuedWishes.{waiting_same}
use Rattle.pb_bank.proofs.Waiting.{same_bank}

pub desk_same : (b next : BankValue) (names : NameTable) (wishes : List Request) → next.state ≡ b.state → next.used ≡ b.used
    → IsDesk (record { bank = b; names = names; wishes = wishes }) → IsDesk (record { bank = next; names = names; wishes = wishes })
desk_same b next names wishes same used =
    subst (λ (c : BankValue). IsDesk (record { bank = c; names = names; wishes = wishes })) (sym (same_bank b next same used))

-- the queue of a bank is one of the same bank with another capital
pub queue_changed : (b next : BankValue) (r amount : ℕ) (wishes : List Request) → next.state ≡ with_capital b.state r amount
    → next.used ≡ b.used → IsQueueOf b wishes → IsQueueOf next wishes
queue_changed b next r amount wishes state used queue =
    let money : resources next.state ≡ resources b.state = ap (λ (s : BankerState). resources s) state ∙ resources-with b.state r amount in
    let claims : next.state.claims ≡ b.state.claims = ap (λ (s : BankerState). s.claims) state in
    record {
      requests = λ k d u.
          let is : IsRequestOf b (get_or wishes k d) = queue.requests k d u in
          record {
            job = subst (λ (t : List (List ℕ)). (get_or wishes k d).job < length t) (sym claims) is.job;
            below = subst (λ (n : ℕ). All (λ pair. pair.resource < n) (get_or wishes k d).bundle) (sym money) is.below;
            distinct = is.distinct;
          };
      waiting = waiting_same b next wishes claims (ap (λ (s : BankerState). s.loans) state) used queue.waiting;
      one_each = queue.one_each;
    }

-- the jobs that could not finish are told
pub told_rest : (d : DeskValue) (b next : BankValue) (names : NameTable) (wishes : List Request) (r amount : ℕ) (slots : List Bool)
    (out after : List Said) → record { bank = b; names = names; wishes = wishes } ≡ d → SaysOfCapital b.state r amount (capital.Rest slots)
    → next.state ≡ b.state → next.used ≡ b.used → after ≡ out ++ WaitRest (jobs_of next.state slots) ∷ []
    → (said : List Said) × SetsCapital d r amount said (record { bank = next; names = names; wishes = wishes }) × (after ≡ out ++ said)
told_rest d b next names wishes r amount slots out after view says state used is =
    let there : DeskValue = record { bank = next; names = names; wishes = wishes } in
    subst (λ (e : DeskValue). (said : List Said) × SetsCapital e r amount said there × (after ≡ out ++ said)) view (
      WaitRest (jobs_of b.state slots) ∷ [],
      (
        capital.Rest slots,
        says,
        (refl, ap (λ (c : BankValue). record { bank = c; names = names; wishes = wishes }) (same_bank b next state used)),
      ),
      is ∙ ap (λ (s : BankerState). out ++ WaitRest (jobs_of s slots) ∷ []) state,
    )
