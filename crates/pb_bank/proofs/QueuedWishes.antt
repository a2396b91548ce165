-- Wishes that wait on while the bank changes.
use Rattle.std.proofs.Common.{◌≡◌, ◌≢◌, ℕ, zero, suc, ◌+◌, ◌<◌, ◌≤◌, ◌++◌, ◌||◌, eqb, not, Bool, true, false, cond, List, [], ◌∷◌, length, get_or, Some, All}
use Rattle.std.proofs.Common.{subst, sym, refl, ap, ◌∙◌, arith, inl, inr}
use Rattle.std.specs.Prelude.{filter}
use Rattle.std.proofs.lemmas.Bool.{eqb-false, ne_eqb}
use Rattle.std.proofs.lemmas.List.{get_or_append_left}
use Rattle.std.proofs.Math.Seq.{get_or-append_seam}
use Rattle.std.proofs.lemmas.List.Elements.{All-filter, All-push, All-pop}
use Rattle.std.proofs.lemmas.List.Kept.{AllPairs-filter}
use Rattle.std.proofs.lemmas.List.Quantifiers.{all_pairs_push}
use Rattle.pb_base.specs.declared.pair.Pair.{Pair}
use Rattle.pb_base.specs.Bundle.{IsDistinct}
use Rattle.pb_base.specs.Banker.{BankerState, claim, loan, processes, resources, row_of, with_loan, without_loan, IsWellFormed}
use Rattle.pb_base.proofs.BankerLaws.{loan-with_loan_other}
use Rattle.pb_base.proofs.Cases.{same_or_not}
use Rattle.pb_base.proofs.LoanRows.{get_or-give_back, IsDistinct-head, IsDistinct-tail}
use Rattle.pb_base.proofs.Rows.{loan-with_row, loan-with_row_other}
use Rattle.pb_base.specs.Bundle.{give_back}
use Rattle.pb_banker.specs.Claims.{with_claim}
use Rattle.pb_banker.specs.Jobs.{BankValue, HasJob, joined}
use Rattle.pb_banker.proofs.ChangedClaims.{claim_cases}
use Rattle.pb_banker.proofs.Newcomers.{row-put_row_other}
use Rattle.pb_bank.specs.declared.request.Request.{Request}
use Rattle.pb_bank.specs.Claims.{amount_for, wished}
use Rattle.pb_bank.specs.Desks.{IsQueueOf, IsRequestOf, IsWaitingOf, AreOneEach}
use Rattle.pb_bank.specs.Queues.{has_wish, without_wish}

-- ---- wishes of other jobs

neither : (a b : Bool) → a || b ≡ false → (a ≡ false) × (b ≡ false)
neither true b e = absurd cc
neither false b e = (refl, e)

none_of : (wishes : List Request) (p k : ℕ) (d : Request) → has_wish wishes p ≡ false → k < length wishes → (get_or wishes k d).job ≢ p
none_of [] p k d none u = absurd (omega (arith, u))
none_of (w ∷ wishes) p zero d none u = eqb-false w.job p (neither (eqb w.job p) (has_wish wishes p) none).0
none_of (w ∷ wishes) p (suc k) d none u = none_of wishes p k d (neither (eqb w.job p) (has_wish wishes p) none).1 (omega (arith, u))

-- a job that has no wish: all wishes are of others
pub others_wish : (wishes : List Request) (p : ℕ) → has_wish wishes p ≡ false → All (λ v. v.job ≢ p) wishes
others_wish wishes p none = λ k d u. none_of wishes p k d none u

if_kept : (b : Bool) (w : Request) (ws : List Request) (p : ℕ) → not (eqb w.job p) ≡ b → All (λ v. v.job ≢ p) ws
    → All (λ v. v.job ≢ p) (cond b (w ∷ ws) ws)
if_kept true w ws p is others = first (kept (eqb w.job p) is)
  where
    kept : (c : Bool) → not c ≡ true → c ≡ false
    kept true e = absurd cc
    kept false e = refl

    first : eqb w.job p ≡ false → All (λ v. v.job ≢ p) (w ∷ ws)
    first isnt zero d u = eqb-false w.job p isnt
    first isnt (suc k) d u = others k d (omega (arith, u))
if_kept false w ws p is others = others

-- without the wish of a job all are of others
pub others_left : (wishes : List Request) (p : ℕ) → All (λ v. v.job ≢ p) (without_wish wishes p)
others_left [] p = λ k d u. absurd (omega (arith, u))
others_left (w ∷ wishes) p = if_kept (not (eqb w.job p)) w (without_wish wishes p) p refl (others_left wishes p)

-- ---- a wish that waits on

-- its job has its slot, claims the same and holds no more
pub waiting_in : (b c : BankValue) (w : Request) → (HasJob b w.job → HasJob c w.job)
    → ((r : ℕ) → claim c.state w.job r ≡ claim b.state w.job r) → ((r : ℕ) → loan c.state w.job r ≤ loan b.state w.job r)
    → IsWaitingOf b w → IsWaitingOf c w
waiting_in b c w has claims loans is = record {
  job = has is.job;
  some = is.some;
  few = is.few;
  within = λ k d u.
      let r = (get_or w.bundle k d).resource in
      let f = is.within k d u in
      let e = claims r in
      let l = loans r in
      omega (arith, f, e, l);
}

-- ---- changes of the bank

-- nothing but the capital changes
pub waiting_same : (b c : BankValue) (wishes : List Request) → c.state.claims ≡ b.state.claims → c.state.loans ≡ b.state.loans → c.used ≡ b.used
    → All (IsWaitingOf b) wishes → All (IsWaitingOf c) wishes
waiting_same b c wishes claims loans used all =
    λ k d u.
    let w : Request = get_or wishes k d in
    waiting_in b c w
    (subst (λ (m : List Bool). get_or m w.job false ≡ true) (sym used))
    (λ r. ap (λ (t : List (List ℕ)). get_or (get_or t w.job []) r 0) claims)
    (λ r. let e : loan c.state w.job r ≡ loan b.state w.job r = ap (λ (t : List (List ℕ)). get_or (get_or t w.job []) r 0) loans in omega (arith, e))
    (all k d u)

-- another job gets a loan
pub waiting_lent : (b c : BankValue) (p : ℕ) (pairs : List Pair) (wishes : List Request) → c.state ≡ with_loan b.state p pairs → c.used ≡ b.used
    → All (λ v. v.job ≢ p) wishes → All (IsWaitingOf b) wishes → All (IsWaitingOf c) wishes
waiting_lent b c p pairs wishes state used others all =
    λ k d u.
    let w : Request = get_or wishes k d in
    let ne : w.job ≢ p = others k d u in
    waiting_in b c w
    (subst (λ (m : List Bool). get_or m w.job false ≡ true) (sym used))
    (λ r. ap (λ (s : BankerState). claim s w.job r) state)
    (λ r.
    let a : loan c.state w.job r ≡ loan (with_loan b.state p pairs) w.job r = ap (λ (s : BankerState). loan s w.job r) state in
    let e = loan-with_loan_other b.state p pairs w.job r ne in
    omega (arith, a, e))
    (all k d u)

-- a job gives something back
pub waiting_given : (b c : BankValue) (p : ℕ) (pairs : List Pair) (wishes : List Request) → IsWellFormed b.state → p < processes b.state
    → All (λ pair. pair.resource < resources b.state) pairs → c.state ≡ without_loan b.state p pairs → c.used ≡ b.used
    → All (IsWaitingOf b) wishes → All (IsWaitingOf c) wishes
waiting_given b c p pairs wishes good within below state used all =
    λ k d u.
    let w : Request = get_or wishes k d in
    waiting_in b c w
    (subst (λ (m : List Bool). get_or m w.job false ≡ true) (sym used))
    (λ r. ap (λ (s : BankerState). claim s w.job r) state)
    (λ r.
    let a : loan c.state w.job r ≡ loan (without_loan b.state p pairs) w.job r = ap (λ (s : BankerState). loan s w.job r) state in
    let l = no_more w.job r in
    omega (arith, a, l))
    (all k d u)
  where
    row : List ℕ
    row = give_back (row_of b.state.loans p) pairs

    no_more : (q r : ℕ) → loan (without_loan b.state p pairs) q r ≤ loan b.state q r
    no_more q r = elim (same_or_not q p) [
      | inl e ↦
          (let wide : length (row_of b.state.loans p) ≡ resources b.state = good.loan_width p within in
          let back = get_or-give_back (row_of b.state.loans p) pairs r
          (subst (λ (n : ℕ). All (λ pair. pair.resource < n) pairs) (sym wide) below) in
          let here : loan (without_loan b.state p pairs) p r ≡ get_or row r 0 = loan-with_row b.state p row r good within in
          let a : loan (without_loan b.state p pairs) q r ≡ loan (without_loan b.state p pairs) p r =
          ap (λ (j : ℕ). loan (without_loan b.state p pairs) j r) e in
          let c : loan b.state q r ≡ loan b.state p r = ap (λ (j : ℕ). loan b.state j r) e in
          omega (arith, back, here, a, c))
      | inr ne ↦ (let e = loan-with_row_other b.state p row q r ne in omega (arith, e))
    ]

-- a slot is another's, or free
pub waiting_moved : (b c : BankValue) (p : ℕ) (row : List ℕ) (wishes : List Request) → IsWellFormed b.state → p ≤ processes b.state
    → c.state ≡ joined b.state p row → ((q : ℕ) → q ≢ p → HasJob b q → HasJob c q) → All (λ v. v.job ≢ p) wishes
    → All (IsWaitingOf b) wishes → All (IsWaitingOf c) wishes
waiting_moved b c p row wishes good slot state has others all =
    λ k d u.
    let w : Request = get_or wishes k d in
    let ne : w.job ≢ p = others k d u in
    let rows = good.all_loans in
    waiting_in b c w
    (has w.job ne)
    (λ r.
    ap (λ (s : BankerState). claim s w.job r) state
    ∙ ap (λ (line : List ℕ). get_or line r 0) (row-put_row_other b.state.claims p w.job row slot ne))
    (λ r.
    let e : loan c.state w.job r ≡ loan b.state w.job r =
    ap (λ (s : BankerState). loan s w.job r) state
    ∙ ap (λ (line : List ℕ). get_or line r 0) (row-put_row_other b.state.loans p w.job _ (omega (arith, slot, rows)) ne) in
    omega (arith, e))
    (all k d u)

-- ---- another claim

-- what a job waits for is what its wish says
wished_is : (wishes : List Request) (r k : ℕ) (d : Request) → AreOneEach wishes → k < length wishes
    → wished wishes (get_or wishes k d).job r ≡ amount_for (get_or wishes k d).bundle r
wished_is [] r k d one u = absurd (omega (arith, u))
wished_is (w ∷ wishes) r zero d one u = same_job (eqb w.job w.job) refl
  where
    same_job : (b : Bool) → eqb w.job w.job ≡ b → cond b (amount_for w.bundle r) (wished wishes w.job r) ≡ amount_for w.bundle r
    same_job true e = refl
    same_job false e = absurd (eqb-false w.job w.job e refl)
wished_is (w ∷ wishes) r (suc k) d one u =
    let v : Request = get_or wishes k d in
    let apart : w.job ≢ v.job = one 0 (suc k) d (omega arith) u in
    ap (λ (b : Bool). cond b (amount_for w.bundle r) (wished wishes v.job r)) (ne_eqb w.job v.job apart)
    ∙ wished_is wishes r k d (λ i j e lt inside. one (suc i) (suc j) e (omega (arith, lt)) (omega (arith, inside))) (omega (arith, u))

-- the amount of a pair is that for its resource
amount_is : (pairs : List Pair) (k : ℕ) (d : Pair) → IsDistinct pairs → k < length pairs
    → amount_for pairs (get_or pairs k d).resource ≡ (get_or pairs k d).amount
amount_is [] k d distinct u = absurd (omega (arith, u))
amount_is (x ∷ pairs) zero d distinct u = same_resource (eqb x.resource x.resource) refl
  where
    same_resource : (b : Bool) → eqb x.resource x.resource ≡ b → cond b x.amount (amount_for pairs x.resource) ≡ x.amount
    same_resource true e = refl
    same_resource false e = absurd (eqb-false x.resource x.resource e refl)
amount_is (x ∷ pairs) (suc k) d distinct u =
    let y : Pair = get_or pairs k d in
    let apart : y.resource ≢ x.resource = IsDistinct-head x pairs distinct k d (omega (arith, u)) in
    ap (λ (b : Bool). cond b x.amount (amount_for pairs y.resource)) (ne_eqb x.resource y.resource (λ e. apart (sym e)))
    ∙ amount_is pairs k d (IsDistinct-tail x pairs distinct) (omega (arith, u))

-- a claim that is no less than what the job holds and waits for
pub waiting_claimed : (b c : BankValue) (p r amount : ℕ) (wishes : List Request) → IsWellFormed b.state → p < processes b.state
    → r < resources b.state → loan b.state p r + wished wishes p r ≤ amount → c.state ≡ with_claim b.state p r amount → c.used ≡ b.used
    → IsQueueOf b wishes → All (IsWaitingOf c) wishes
waiting_claimed b c p r amount wishes good within below enough state used queue =
    λ k d u.
    let w : Request = get_or wishes k d in
    let is : IsWaitingOf b w = queue.waiting k d u in
    let of : IsRequestOf b w = queue.requests k d u in
    let wide : length (row_of b.state.claims p) ≡ resources b.state = good.claim_width p within in
    record {
      job = subst (λ (m : List Bool). get_or m w.job false ≡ true) (sym used) is.job;
      some = is.some;
      few = is.few;
      within = λ i x v.
          let pair : Pair = get_or w.bundle i x in
          let held : loan c.state w.job pair.resource ≡ loan b.state w.job pair.resource =
          ap (λ (s : BankerState). loan s w.job pair.resource) state in
          subst (λ (n : ℕ). n + pair.amount ≤ claim c.state w.job pair.resource) (sym held)
          (subst (λ (s : BankerState). loan b.state w.job pair.resource + pair.amount ≤ claim s w.job pair.resource) (sym state)
          (claim_cases b.state p r amount within (subst (λ (n : ℕ). r < n) (sym wide) below)
          (λ (n : ℕ). loan b.state w.job pair.resource + pair.amount ≤ n) w.job pair.resource (is.within i x v)
          (λ e f.
          let a : wished wishes p r ≡ wished wishes w.job pair.resource =
          ap (λ (q : ℕ). wished wishes q r) (sym e) ∙ ap (λ (q : ℕ). wished wishes w.job q) (sym f) in
          let z = wished_is wishes pair.resource k d queue.one_each u in
          let y = amount_is w.bundle i x of.distinct v in
          let l : loan b.state w.job pair.resource ≡ loan b.state p r =
          ap (λ (q : ℕ). loan b.state q pair.resource) e ∙ ap (λ (q : ℕ). loan b.state p q) f in
          omega (arith, a, z, y, l, enough))));
    }

-- ---- queues

-- no wishes
pub queue_nothing : (b : BankValue) → IsQueueOf b []
queue_nothing b = record {
  requests = λ k d u. absurd (omega (arith, u));
  waiting = λ k d u. absurd (omega (arith, u));
  one_each = λ i j d lt u. absurd (omega (arith, u));
}

-- some of the wishes
pub queue_filtered : (b : BankValue) (f : Request → Bool) (wishes : List Request) → IsQueueOf b wishes → IsQueueOf b (filter f wishes)
queue_filtered b f wishes queue = record {
  requests = All-filter f (IsRequestOf b) wishes queue.requests;
  waiting = All-filter f (IsWaitingOf b) wishes queue.waiting;
  one_each = AllPairs-filter (λ v w. v.job ≢ w.job) f wishes queue.one_each;
}

-- a wish more
pub queue_pushed : (b : BankValue) (wishes : List Request) (w : Request) → IsRequestOf b w → IsWaitingOf b w → All (λ v. v.job ≢ w.job) wishes
    → IsQueueOf b wishes → IsQueueOf b (wishes ++ w ∷ [])
queue_pushed b wishes w is waits others queue = record {
  requests = All-push (IsRequestOf b) wishes w queue.requests is;
  waiting = All-push (IsWaitingOf b) wishes w queue.waiting waits;
  one_each = all_pairs_push (λ v w. v.job ≢ w.job) wishes w queue.one_each others;
}

-- the wishes before the last
pub queue_before : (b : BankValue) (wishes : List Request) (w : Request) → IsQueueOf b (wishes ++ w ∷ [])
    → IsQueueOf b wishes × IsRequestOf b w × IsWaitingOf b w × All (λ v. v.job ≢ w.job) wishes
queue_before b wishes w queue =
    let requests = All-pop (IsRequestOf b) (wishes ++ w ∷ []) wishes (Some w) refl queue.requests in
    let waiting = All-pop (IsWaitingOf b) (wishes ++ w ∷ []) wishes (Some w) refl queue.waiting in
    let longer : length (wishes ++ w ∷ []) ≡ suc (length wishes) = many wishes in (
      record {
        requests = requests.0;
        waiting = waiting.0;
        one_each = λ i j d lt u.
            (let a = get_or_append_left wishes (w ∷ []) d i (omega (arith, lt, u)) in
            let c = get_or_append_left wishes (w ∷ []) d j u in
            subst (λ (v : Request). v.job ≢ (get_or wishes j d).job) a
            (subst (λ (v : Request). (get_or (wishes ++ w ∷ []) i d).job ≢ v.job) c
            (queue.one_each i j d lt (omega (arith, u, longer)))));
      },
      requests.1,
      waiting.1,
      λ k d u.
          (let a = get_or_append_left wishes (w ∷ []) d k u in
          let c = get_or-append_seam wishes w [] d in
          subst (λ (v : Request). v.job ≢ w.job) a
          (subst (λ (v : Request). (get_or (wishes ++ w ∷ []) k d).job ≢ v.job) c
          (queue.one_each k (length wishes) d u (omega (arith, longer))))),
    )
  where
    many : (ws : List Request) → length (ws ++ w ∷ []) ≡ suc (length ws)
    many [] = refl
    many (x ∷ ws) = ap suc (many ws)
