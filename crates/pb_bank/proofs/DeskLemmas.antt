-- Names that change, and jobs that come and go.
use Rattle.std.proofs.Common.{Vec, Global, ◌≡◌, ℕ, zero, suc, ◌<◌, false, List, [], ◌∷◌, length, get_or, map, set, take, replicate, All}
use Rattle.std.proofs.Common.{None, true, refl, sym, ap, ◌∙◌, subst, arith}
use Rattle.std.proofs.lemmas.List.{get_or-set_other, length-set, map-set}
use Rattle.pb_base.specs.declared.limits.TheConstants.{MAX_RESOURCES}
use Rattle.pb_base.specs.declared.pair.Pair.{Pair}
use Rattle.pb_base.specs.Banker.{BankerState, processes, resources, IsWellFormed}
use Rattle.pb_banker.specs.Jobs.{BankValue, HasJob, IsFirstFree, SaysOfJoining, put_row, joined, left}
use Rattle.pb_banker.specs.declared.reason.Joined.TheVariants.{In}
use Rattle.pb_bank.specs.declared.request.Request.{Request}
use Rattle.pb_bank.specs.declared.said.Said.{Said}
use Rattle.pb_bank.specs.Answers.{JoinsWith, desk_left, with_amounts}
use Rattle.pb_bank.specs.Desks.{AreSlots, DeskValue, IsDesk, IsUsableName, IsQueueOf, IsRequestOf, place_of}
use Rattle.pb_bank.specs.Queues.{without_wish, ServesQueue}
use Rattle.pb_bank.proofs.NamesApart.{absent}
use Rattle.pb_bank.proofs.QueuedWishes.{others_left, queue_filtered, waiting_moved}
use Rattle.pb_bank.proofs.SlotNames.{first_slot, slots_joined, slots_left}
use Rattle.pb_bank.proofs.Waiting.{desk_opened}

-- a desk with these names as they are held
abbrev pub desk_of : BankValue → List (Vec ℕ Global) → List (List ℕ) → List Request → DeskValue
desk_of bank jobs names wishes = record {
  bank = bank;
  names = record { processes = map (λ (n : Vec ℕ Global). n.items) jobs; resources = names };
  wishes = wishes;
}

abbrev with_jobs : BankValue → List (List ℕ) → List (List ℕ) → List Request → DeskValue
with_jobs bank jobs names wishes = record { bank = bank; names = record { processes = jobs; resources = names }; wishes = wishes }

renamed : (jobs : List (Vec ℕ Global)) (p : ℕ) (name : Vec ℕ Global) (word : List ℕ) → name.items ≡ word
    → map (λ (n : Vec ℕ Global). n.items) (set jobs p name) ≡ set (map (λ (n : Vec ℕ Global). n.items) jobs) p word
renamed jobs p name word is =
    map-set (λ (n : Vec ℕ Global). n.items) jobs p name ∙ ap (λ (x : List ℕ). set (map (λ (n : Vec ℕ Global). n.items) jobs) p x) is

pub left_desk : (d : DeskValue) (bank bank' : BankValue) (jobs : List (Vec ℕ Global)) (names : List (List ℕ)) (wishes others : List Request)
    (p : ℕ) (name : Vec ℕ Global) → desk_of bank jobs names wishes ≡ d → name.items ≡ []
    → bank' ≡ record { state = left bank.state p; used = set bank.used p false } → others ≡ without_wish wishes p
    → desk_of bank' (set jobs p name) names others ≡ desk_left d p
left_desk d bank bank' jobs names wishes others p name view empty is kept =
    let there : BankValue = record { state = left bank.state p; used = set bank.used p false } in
    let free : List (List ℕ) = set (map (λ (n : Vec ℕ Global). n.items) jobs) p [] in
    subst (λ (e : DeskValue). desk_of bank' (set jobs p name) names others ≡ desk_left e p) view
    (ap (λ (b : BankValue). desk_of b (set jobs p name) names others) is
    ∙ (ap (λ (ns : List (List ℕ)). with_jobs there ns names others) (renamed jobs p name [] empty)
    ∙ ap (λ (ws : List Request). with_jobs there free names ws) kept))

pub joined_desk : (d : DeskValue) (bank bank' : BankValue) (jobs : List (Vec ℕ Global)) (names : List (List ℕ)) (wishes : List Request)
    (p n : ℕ) (name : Vec ℕ Global) (word row : List ℕ) (pairs : List Pair) (said : List Said)
    (next : DeskValue) → desk_of bank jobs names wishes ≡ d → name.items ≡ word → n ≡ resources bank.state
    → row ≡ with_amounts (replicate MAX_RESOURCES 0) pairs → SaysOfJoining bank (take n row) (In p) bank'
    → ServesQueue (desk_of bank' (set jobs p name) names wishes) said next → JoinsWith d word pairs said next
joined_desk d bank bank' jobs names wishes p n name word row pairs said next view is many claims says serves =
    let same : take n row ≡ take (resources bank.state) (with_amounts (replicate MAX_RESOURCES 0) pairs) =
    ap (λ k. take k row) many ∙ ap (λ (r : List ℕ). take (resources bank.state) r) claims in
    subst (λ (e : DeskValue). JoinsWith e word pairs said next) view (
      In p,
      bank',
      subst (λ (r : List ℕ). SaysOfJoining bank r (In p) bank') same says,
      subst (λ (e : DeskValue). ServesQueue e said next)
          (ap (λ (ns : List (List ℕ)). with_jobs bank' ns names wishes) (renamed jobs p name word is)) serves,
    )

-- a table with another row is no shorter
longer : (table : List (List ℕ)) (p : ℕ) (row : List ℕ) (n : ℕ) → n < length table → n < length (put_row table p row)
longer [] p row n lt = absurd (omega (arith, lt))
longer (x ∷ xs) zero row n lt = omega (arith, lt)
longer (x ∷ xs) (suc p) row zero lt = omega arith
longer (x ∷ xs) (suc p) row (suc n) lt = (let h = longer xs p row n (omega (arith, lt)) in omega (arith, h))

-- when a job comes or goes, the wishes of others are still requests
pub requests_joined : (b next : BankValue) (p : ℕ) (row : List ℕ) (wishes : List Request) → next.state ≡ joined b.state p row
    → All (IsRequestOf b) wishes → All (IsRequestOf next) wishes
requests_joined b next p row wishes same all =
    λ k d u.
    let w : Request = get_or wishes k d in
    let is : IsRequestOf b w = all k d u in
    record {
      job = subst (λ (s : BankerState). w.job < processes s) (sym same) (longer b.state.claims p row w.job is.job);
      below = subst (λ (s : BankerState). All (λ pair. pair.resource < resources s) w.bundle) (sym same) is.below;
      distinct = is.distinct;
    }

-- ---- what a desk keeps when jobs come and go

-- the queue, once a job has joined
pub queue_joined : (b next : BankValue) (names : List (List ℕ)) (p : ℕ) (row : List ℕ) (wishes : List Request) → IsWellFormed b.state
    → AreSlots b names → IsFirstFree b.used p → next ≡ record { state = joined b.state p row; used = set b.used p true }
    → IsQueueOf b wishes → IsQueueOf next wishes
queue_joined b next names p row wishes good are free is queue =
    let state : next.state ≡ joined b.state p row = ap (λ (c : BankValue). c.state) is in
    record {
      requests = requests_joined b next p row wishes state queue.requests;
      waiting =
          waiting_moved b next p row wishes good (first_slot b names are p free) state
          (λ q ne has. ap (λ (c : BankValue). get_or c.used q false) is ∙ (get_or-set_other b.used p q true false ne ∙ has))
          (λ k d u e. free.free (subst (λ (j : ℕ). HasJob b j) e (queue.waiting k d u).job))
          queue.waiting;
      one_each = queue.one_each;
    }

-- the queue, once a job has left
pub queue_left : (b next : BankValue) (p : ℕ) (wishes : List Request) → IsWellFormed b.state → p < processes b.state
    → next ≡ record { state = left b.state p; used = set b.used p false } → IsQueueOf b wishes → IsQueueOf next (without_wish wishes p)
queue_left b next p wishes good slot is queue =
    let none : List ℕ = replicate {A = ℕ} (resources b.state) 0 in
    let state : next.state ≡ joined b.state p none = ap (λ (c : BankValue). c.state) is in
    let others : IsQueueOf b (without_wish wishes p) = queue_filtered b _ wishes queue in
    record {
      requests = requests_joined b next p none (without_wish wishes p) state others.requests;
      waiting =
          waiting_moved b next p none (without_wish wishes p) good (omega (arith, slot)) state
          (λ q ne has. ap (λ (c : BankValue). get_or c.used q false) is ∙ (get_or-set_other b.used p q false false ne ∙ has))
          (others_left wishes p) others.waiting;
      one_each = others.one_each;
    }

-- the desk that a job has joined, whose queue is still to be served
pub desk_joining : (b next : BankValue) (jobs : List (Vec ℕ Global)) (names : List (List ℕ)) (wishes waiting : List Request) (p : ℕ) (row : List ℕ)
    (name : Vec ℕ Global) (word : List ℕ) → waiting ≡ [] → name.items ≡ word → IsUsableName word
    → place_of (map (λ (n : Vec ℕ Global). n.items) jobs) word ≡ None → 0 < resources b.state → IsFirstFree b.used p
    → next ≡ record { state = joined b.state p row; used = set b.used p true } → IsDesk (desk_of b jobs names wishes)
    → IsDesk (desk_of next (set jobs p name) names waiting)
desk_joining b next jobs names wishes waiting p row name word none is called new money free same desk =
    let old : List (List ℕ) = map (λ (n : Vec ℕ Global). n.items) jobs in
    let same_names : map (λ (n : Vec ℕ Global). n.items) (set jobs p name) ≡ set old p word = renamed jobs p name word is in
    desk_opened b next (record { processes = old; resources = names })
    (record { processes = map (λ (n : Vec ℕ Global). n.items) (set jobs p name); resources = names }) wishes waiting none
    (ap (λ (ns : List (List ℕ)). length ns) same_names ∙ length-set old p word) refl (ap (λ (c : BankValue). resources c.state) same)
    (subst (λ (ns : List (List ℕ)). AreSlots next ns) (sym same_names)
    (slots_joined b next old p row word same free desk.jobs called (absent old word new called.some) money desk.slots))
    desk

-- the desk that a job has left, whose queue is still to be served
pub desk_leaving : (b next : BankValue) (jobs : List (Vec ℕ Global)) (names : List (List ℕ)) (wishes waiting : List Request) (p : ℕ)
    (name : Vec ℕ Global) → waiting ≡ [] → name.items ≡ [] → IsWellFormed b.state → p < processes b.state
    → next ≡ record { state = left b.state p; used = set b.used p false } → IsDesk (desk_of b jobs names wishes)
    → IsDesk (desk_of next (set jobs p name) names waiting)
desk_leaving b next jobs names wishes waiting p name none is good slot same desk =
    let old : List (List ℕ) = map (λ (n : Vec ℕ Global). n.items) jobs in
    let same_names : map (λ (n : Vec ℕ Global). n.items) (set jobs p name) ≡ set old p [] = renamed jobs p name [] is in
    let few = good.few_processes in
    desk_opened b next (record { processes = old; resources = names })
    (record { processes = map (λ (n : Vec ℕ Global). n.items) (set jobs p name); resources = names }) wishes waiting none
    (ap (λ (ns : List (List ℕ)). length ns) same_names ∙ length-set old p []) refl (ap (λ (c : BankValue). resources c.state) same)
    (subst (λ (ns : List (List ℕ)). AreSlots next ns) (sym same_names) (slots_left b next old p same slot (omega (arith, few, slot)) desk.slots))
    desk
