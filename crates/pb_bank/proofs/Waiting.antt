-- What is refused waits on.
use Rattle.std.proofs.Common.{◌≡◌, ◌≢◌, ◌++◌, ℕ, ◌<◌, Bool, false, List, [], ◌∷◌, length, get_or, Some, All, subst, sym, refl, ap, ◌∙◌, arith}
use Rattle.std.specs.Prelude.{filter}
use Rattle.std.proofs.lemmas.List.Elements.{All-nil, All-push, All-pop, All-filter}
use Rattle.pb_base.specs.declared.pair.Pair.{Pair}
use Rattle.pb_base.specs.Banker.{BankerState, loan, resources, with_loan, IsAllowed, IsWellFormed}
use Rattle.pb_base.specs.Lines.{NameTable}
use Rattle.pb_banker.specs.Jobs.{BankValue, SaysWhy, state_held}
use Rattle.pb_banker.specs.declared.reason.Reason.{Reason}
use Rattle.pb_banker.specs.declared.reason.Reason.TheVariants.{Allowed, OverClaim, OverCash, Rest}
use Rattle.pb_bank.specs.declared.request.Request.{Request}
use Rattle.pb_bank.specs.declared.said.Said.{Said}
use Rattle.pb_base.proofs.BankerLaws.{loan-with_loan_other}
use Rattle.pb_bank.specs.Desks.{AreUsableNames, AreSlots, IsDesk, IsQueueOf, IsRequestOf, IsWaitingOf, NoneIsAllowed}
use Rattle.pb_bank.specs.Queues.{has_wish, Serves, nothing, grants, waits}
use Rattle.pb_bank.proofs.MoreLoans.{well_lent, less_allowed, fewer_before}
use Rattle.pb_bank.proofs.QueuedWishes.{others_wish, queue_before, queue_filtered, queue_nothing, queue_pushed, waiting_in, waiting_lent}
use Rattle.pb_bank.proofs.SlotNames.{slots_same}

-- a request of a bank is one of a bank with other loans
pub request_in : (b c : BankValue) (w : Request) → c.state.claims ≡ b.state.claims → c.state.capital ≡ b.state.capital
    → IsRequestOf b w → IsRequestOf c w
request_in b c w claims money is = record {
  job = subst (λ (t : List (List ℕ)). w.job < length t) (sym claims) is.job;
  below = subst (λ (t : List ℕ). All (λ pair. pair.resource < length t) w.bundle) (sym money) is.below;
  distinct = is.distinct;
}

pub requests_in : (b c : BankValue) (wishes : List Request) → c.state.claims ≡ b.state.claims → c.state.capital ≡ b.state.capital
    → All (IsRequestOf b) wishes → All (IsRequestOf c) wishes
requests_in b c wishes claims money all = λ k d u. request_in b c (get_or wishes k d) claims money (all k d u)

-- after a loan no more is allowed
pub none_more : (b : BankValue) → IsWellFormed b.state → (w : Request) → IsRequestOf b w → IsAllowed b.state w.job w.bundle
    → (wishes : List Request) → All (IsRequestOf b) wishes → NoneIsAllowed b.state wishes → NoneIsAllowed (with_loan b.state w.job w.bundle) wishes
none_more b good w is allowed wishes of none =
    let next : BankerState = with_loan b.state w.job w.bundle in
    let well : IsWellFormed next = well_lent b.state good w.job is.job w.bundle is.distinct is.below allowed.within_claim allowed.within_cash in
    let fewer = fewer_before b.state good w.job is.job w.bundle is.below in
    λ k d u more.
    let v : Request = get_or wishes k d in
    let one : IsRequestOf b v = of k d u in
    none k d u (less_allowed b.state next well good fewer v.job one.job v.bundle one.distinct one.below more)

-- ---- a queue that was served

-- what holds of each wish of the queue holds of those that wait on
still : (P : Request → Type 0) (s : BankerState) (queue : List Request) (said : List Said) (waiting : List Request) (next : BankerState)
    → Serves s queue said waiting next → All P queue → All P waiting
still P s queue said waiting next nothing all = all
still P s whole said' waiting' next (grants queue said waiting mid w before allowed) all =
    let parts = All-pop P (queue ++ w ∷ []) queue (Some w) refl all in
    still P s queue said waiting mid before parts.0
still P s whole said' waiting' next (waits queue said waiting mid w before refused) all =
    let parts = All-pop P (queue ++ w ∷ []) queue (Some w) refl all in
    All-push P waiting w (still P s queue said waiting mid before parts.0) parts.1

-- a job that has no wish in the queue holds what it held
still_holds : (s : BankerState) (queue : List Request) (said : List Said) (waiting : List Request) (next : BankerState) (p r : ℕ)
    → Serves s queue said waiting next → All (λ v. v.job ≢ p) queue → loan next p r ≡ loan s p r
still_holds s queue said waiting next p r nothing others = refl
still_holds s whole said' waiting' next p r (grants queue said waiting mid w before allowed) others =
    let parts = All-pop (λ (v : Request). v.job ≢ p) (queue ++ w ∷ []) queue (Some w) refl others in
    loan-with_loan_other mid w.job w.bundle p r (λ e. parts.1 (sym e)) ∙ still_holds s queue said waiting mid p r before parts.0
still_holds s whole said' waiting' next p r (waits queue said waiting mid w before refused) others =
    let parts = All-pop (λ (v : Request). v.job ≢ p) (queue ++ w ∷ []) queue (Some w) refl others in
    still_holds s queue said waiting mid p r before parts.0

pub record IsServed (b : BankValue) (waiting : List Request) (next : BankerState) : Type 0 where
  pub well : IsWellFormed next
  pub claims : next.claims ≡ b.state.claims
  pub capital : next.capital ≡ b.state.capital
  pub queue : IsQueueOf (record { state = next; used = b.used }) waiting
  pub waits : NoneIsAllowed next waiting

-- no wish that waits on is allowed
pub served : (b : BankValue) → IsWellFormed b.state
    → (queue : List Request) (said : List Said) (waiting : List Request) (next : BankerState) → IsQueueOf b queue
    → Serves b.state queue said waiting next → IsServed b waiting next
served b good queue said waiting next of nothing = record {
  well = good;
  claims = refl;
  capital = refl;
  queue = queue_nothing b;
  waits = All-nil (λ (v : Request). ¬ IsAllowed b.state v.job v.bundle);
}
served b good whole said' waiting' next of (grants queue said waiting mid w before allowed) =
    let parts = queue_before b queue w of in
    let h = served b good queue said waiting mid parts.0 before in
    let here : BankValue = record { state = mid; used = b.used } in
    let there : BankValue = record { state = with_loan mid w.job w.bundle; used = b.used } in
    let is : IsRequestOf here w = request_in b here w h.claims h.capital parts.1 in
    let others : All (λ v. v.job ≢ w.job) waiting = still (λ v. v.job ≢ w.job) b.state queue said waiting mid before parts.3 in
    record {
      well = well_lent mid h.well w.job is.job w.bundle is.distinct is.below allowed.within_claim allowed.within_cash;
      claims = h.claims;
      capital = h.capital;
      queue = record {
        requests = requests_in here there waiting refl refl h.queue.requests;
        waiting = waiting_lent here there w.job w.bundle waiting refl refl others h.queue.waiting;
        one_each = h.queue.one_each;
      };
      waits = none_more here h.well w is allowed waiting h.queue.requests h.waits;
    }
served b good whole said' waiting' next of (waits queue said waiting mid w before refused) =
    let parts = queue_before b queue w of in
    let h = served b good queue said waiting mid parts.0 before in
    let here : BankValue = record { state = mid; used = b.used } in
    let others : All (λ v. v.job ≢ w.job) waiting = still (λ v. v.job ≢ w.job) b.state queue said waiting mid before parts.3 in
    let waits_on : IsWaitingOf here w =
    waiting_in b here w (λ has. has) (λ r. ap (λ (t : List (List ℕ)). get_or (get_or t w.job []) r 0) h.claims)
    (λ r. let e = still_holds b.state queue said waiting mid w.job r before parts.3 in omega (arith, e)) parts.2 in
    record {
      well = h.well;
      claims = h.claims;
      capital = h.capital;
      queue = queue_pushed here waiting w (request_in b here w h.claims h.capital parts.1) waits_on others h.queue;
      waits = All-push (λ (v : Request). ¬ IsAllowed mid v.job v.bundle) waiting w h.waits refused;
    }

-- ---- desks whose bank has lent

held_claims : (s : BankerState) (p : ℕ) (pairs : List Pair) (reason : Reason) → (state_held s p pairs reason).claims ≡ s.claims
held_claims s p pairs Allowed = refl
held_claims s p pairs (OverClaim r) = refl
held_claims s p pairs (OverCash r) = refl
held_claims s p pairs (Rest slots) = refl

held_capital : (s : BankerState) (p : ℕ) (pairs : List Pair) (reason : Reason) → (state_held s p pairs reason).capital ≡ s.capital
held_capital s p pairs Allowed = refl
held_capital s p pairs (OverClaim r) = refl
held_capital s p pairs (OverCash r) = refl
held_capital s p pairs (Rest slots) = refl

held_none : (b : BankValue) → IsWellFormed b.state → (w : Request) → IsRequestOf b w → (reason : Reason) → SaysWhy b.state w.job w.bundle reason
    → (wishes : List Request) → All (IsRequestOf b) wishes → NoneIsAllowed b.state wishes
    → NoneIsAllowed (state_held b.state w.job w.bundle reason) wishes
held_none b good w is Allowed why wishes of none = none_more b good w is why wishes of none
held_none b good w is (OverClaim r) why wishes of none = none
held_none b good w is (OverCash r) why wishes of none = none
held_none b good w is (Rest slots) why wishes of none = none

held_queue : (b : BankValue) (w : Request) (reason : Reason) (wishes : List Request) → has_wish wishes w.job ≡ false → IsQueueOf b wishes
    → IsQueueOf (record { state = state_held b.state w.job w.bundle reason; used = b.used }) wishes
held_queue b w Allowed wishes none queue =
    let there : BankValue = record { state = with_loan b.state w.job w.bundle; used = b.used } in
    record {
      requests = requests_in b there wishes refl refl queue.requests;
      waiting = waiting_lent b there w.job w.bundle wishes refl refl (others_wish wishes w.job none) queue.waiting;
      one_each = queue.one_each;
    }
held_queue b w (OverClaim r) wishes none queue = queue
held_queue b w (OverCash r) wishes none queue = queue
held_queue b w (Rest slots) wishes none queue = queue

-- a request is one of the bank that has lent, too
pub request_held : (b next : BankValue) (w : Request) (reason : Reason) → next.state ≡ state_held b.state w.job w.bundle reason
    → IsRequestOf b w → IsRequestOf next w
request_held b next w reason same is =
    request_in b next w
    (ap (λ (s : BankerState). s.claims) same ∙ held_claims b.state w.job w.bundle reason)
    (ap (λ (s : BankerState). s.capital) same ∙ held_capital b.state w.job w.bundle reason)
    is

-- a bank with this state and these slots
pub same_bank : (b next : BankValue) → next.state ≡ b.state → next.used ≡ b.used → next ≡ b
same_bank b next state used =
    ap (λ (s : BankerState). record { state = s; used = next.used }) state
    ∙ ap (λ (u : List Bool). record { state = b.state; used = u }) used

-- a desk of another bank with the same slots, claims and capital
pub desk_kept : (b next : BankValue) (names : NameTable) (wishes waiting : List Request) → next.state.claims ≡ b.state.claims
    → next.state.capital ≡ b.state.capital → next.used ≡ b.used → IsQueueOf next waiting → NoneIsAllowed next.state waiting
    → IsDesk (record { bank = b; names = names; wishes = wishes }) → IsDesk (record { bank = next; names = names; wishes = waiting })
desk_kept b next names wishes waiting claims money used queue none desk = record {
  jobs = desk.jobs;
  resources = desk.resources ∙ sym (ap (λ (t : List ℕ). length t) money);
  called = desk.called;
  slots = slots_same b next names.processes claims (ap (λ (t : List ℕ). length t) money) used desk.slots;
  wishes = queue;
  waits = none;
}

-- a desk of a bank with other slots, whose queue is still to be served
pub desk_opened : (b next : BankValue) (names names' : NameTable) (wishes waiting : List Request) → waiting ≡ []
    → length names'.processes ≡ length names.processes → names'.resources ≡ names.resources → resources next.state ≡ resources b.state
    → AreSlots next names'.processes → IsDesk (record { bank = b; names = names; wishes = wishes })
    → IsDesk (record { bank = next; names = names'; wishes = waiting })
desk_opened b next names names' wishes waiting none jobs same money slots desk = record {
  jobs = jobs ∙ desk.jobs;
  resources = ap (λ (ns : List (List ℕ)). length ns) same ∙ (desk.resources ∙ sym money);
  called = subst AreUsableNames (sym same) desk.called;
  slots = slots;
  wishes = subst (IsQueueOf next) (sym none) (queue_nothing next);
  waits = subst (NoneIsAllowed next.state) (sym none) (All-nil (λ (v : Request). ¬ IsAllowed next.state v.job v.bundle));
}

pub desk_held : (b next : BankValue) (names : NameTable) (wishes : List Request) (w : Request) (reason : Reason) → IsWellFormed b.state
    → IsRequestOf b w → has_wish wishes w.job ≡ false → SaysWhy b.state w.job w.bundle reason
    → next.state ≡ state_held b.state w.job w.bundle reason → next.used ≡ b.used
    → IsDesk (record { bank = b; names = names; wishes = wishes }) → IsDesk (record { bank = next; names = names; wishes = wishes })
desk_held b next names wishes w reason good is none why same used desk =
    let there : BankValue = record { state = state_held b.state w.job w.bundle reason; used = b.used } in
    desk_kept b next names wishes wishes
    (ap (λ (s : BankerState). s.claims) same ∙ held_claims b.state w.job w.bundle reason)
    (ap (λ (s : BankerState). s.capital) same ∙ held_capital b.state w.job w.bundle reason)
    used
    (subst (λ (c : BankValue). IsQueueOf c wishes) (sym (same_bank there next same used)) (held_queue b w reason wishes none desk.wishes))
    (subst (λ (s : BankerState). NoneIsAllowed s wishes) (sym same) (held_none b good w is reason why wishes desk.wishes.requests desk.waits))
    desk

-- one wish more that is not allowed
pub desk_queued : (b : BankValue) (names : NameTable) (wishes : List Request) (w : Request) → IsRequestOf b w → IsWaitingOf b w
    → has_wish wishes w.job ≡ false → ¬ IsAllowed b.state w.job w.bundle
    → IsDesk (record { bank = b; names = names; wishes = wishes }) → IsDesk (record { bank = b; names = names; wishes = wishes ++ w ∷ [] })
desk_queued b names wishes w is waiting none refused desk = record {
  jobs = desk.jobs;
  resources = desk.resources;
  called = desk.called;
  slots = desk.slots;
  wishes = queue_pushed b wishes w is waiting (others_wish wishes w.job none) desk.wishes;
  waits = All-push (λ (v : Request). ¬ IsAllowed b.state v.job v.bundle) wishes w desk.waits refused;
}

-- fewer wishes
pub desk_without : (b : BankValue) (names : NameTable) (wishes : List Request) (f : Request → Bool)
    → IsDesk (record { bank = b; names = names; wishes = wishes }) → IsDesk (record { bank = b; names = names; wishes = filter f wishes })
desk_without b names wishes f desk = record {
  jobs = desk.jobs;
  resources = desk.resources;
  called = desk.called;
  slots = desk.slots;
  wishes = queue_filtered b f wishes desk.wishes;
  waits = All-filter f (λ (v : Request). ¬ IsAllowed b.state v.job v.bundle) wishes desk.waits;
}
