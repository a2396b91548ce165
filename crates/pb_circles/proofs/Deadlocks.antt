-- In a deadlock some processes wait in a circle.
use Rattle.std.proofs.Common.{◌≡◌, ◌≢◌, ◌⊎◌, inl, inr, ⊎_elim, ℕ, zero, suc, ◌+◌, ◌<◌, ◌≤◌, Bool, true, false, List, [], ◌∷◌, length}
use Rattle.std.proofs.Common.{get_or, Some, refl, sym, ap, ◌∙◌, subst, arith}
use Rattle.std.specs.Prelude.{slice_get, sum_by}
use Rattle.std.specs.List.{range_with_len}
use Rattle.std.proofs.lemmas.Bool.{cases_lt, cases_eq}
use Rattle.std.proofs.lemmas.List.Elements.{All-cons, All-nil}
use Rattle.std.proofs.lemmas.Option.{slice_get_within, slice_get-get_or, get_or_from_slice_get}
use Rattle.std.proofs.lemmas.List.{get_or_past}
use Rattle.std.proofs.lemmas.List.FromFn.{get_or-range_with_len, length-range_with_len}
use Rattle.std.proofs.lemmas.List.Sums.{sum_by-cons}
use Rattle.pb_base.proofs.Lists.{all_at, get_some}
use Rattle.pb_base.specs.Banker.{BankerState, row_of, processes, resources, claim, loan, cash, IsWellFormed, IsWithinCash}
use Rattle.pb_base.specs.Bundle.{amount_in}
use Rattle.pb_base.specs.Steppers.{Bundle, Effect, Silent, Prints, Takes, Returns, Faults, Finishes, State, IsGranted}
use Rattle.pb_base.specs.Steppers.{move_of, moved}
use Rattle.pb_base.specs.declared.lending.Lending.TheVariants.{ByBanker, ByCash}
use Rattle.pb_base.specs.declared.pair.Pair.{Pair}
use Rattle.pb_base.specs.declared.pick.Pick.{Pick}
use Rattle.pb_code.specs.Code.{CodeProcess, Take, Idle, Live, Ended, Thread, thread, code_over, code_step}
use Rattle.pb_code.specs.Reached.{CodeReachesBy}
use Rattle.pb_code.specs.Whole.{bank_by}
use Rattle.pb_verifier.proofs.LiveSteps.{can_step, none_live}
use Rattle.pb_verifier.proofs.LoansWithinClaims.{pair_in}
use Rattle.pb_verifier.proofs.States.{Good, checked}
use Rattle.pb_verifier.proofs.ThreadHoldings.{holds_none}
use Rattle.pb_verifier.specs.Verified.{VerifiedCode, IsVerified}
use Rattle.pb_verifier.specs.declared.fault.VerifyFault.TheVariants.{OutOfLimits}
use Rattle.pb_machine.proofs.EitherLending.{code_is_sound, good_reached}
use Rattle.pb_verifier.proofs.Requests.{take_at}
use Rattle.pb_verifier.proofs.ThreadTurns.{turned}
use Rattle.pb_machine.proofs.NeverStuck.{goes_on}
use Rattle.pb_machine.proofs.OneMorePick.{move_is}
use Rattle.pb_machine.specs.Turns.{StandsIn}
use Rattle.pb_circles.specs.Circles.{IsCircle}
use Rattle.pb_circles.specs.Deadlocks.{DeadlocksHaveCircles, IsDeadlockBy}
use Rattle.pb_circles.specs.Links.{IsAmong, IsLink, bank_at}
use Rattle.pb_circles.specs.declared.link.Link.{Link}
use Rattle.pb_circles.proofs.Bounds.{holder_there}
use Rattle.pb_circles.proofs.Paths.{path_start, walk}

-- ---- another one that holds something

-- the sum over numbers above p has none of p
abbrev Another : (ℕ → ℕ) → ℕ → Type 0
Another f p = (q : ℕ) × (q ≢ p) × (0 < f q)

nobody_above : (f : ℕ → ℕ) (p n a : ℕ) → p < a → Another f p ⊎ (sum_by f (range_with_len a n) ≡ 0)
nobody_above f p zero a above = inr refl
nobody_above f p (suc n) a above = ⊎_elim
    (λ some. inl (a, λ e. omega (arith, e, above), some))
    (λ none. ⊎_elim inl
    (λ rest. inr (let e = sum_by-cons f a (range_with_len (a + 1) n) in omega (arith, none, rest, e)))
    (nobody_above f p n (a + 1) (omega (arith, above))))
    (cases_lt 0 (f a))

nobody_else : (f : ℕ → ℕ) (p n a : ℕ) → Another f p ⊎ (sum_by f (range_with_len a n) ≤ f p)
nobody_else f p zero a = inr (omega arith)
nobody_else f p (suc n) a = ⊎_elim
    (λ same. ⊎_elim inl
    (λ rest. inr (let e = ap f same in let t = sum_by-cons f a (range_with_len (a + 1) n) in omega (arith, e, rest, t)))
    (nobody_above f p n (a + 1) (omega (arith, same))))
    (λ ne. ⊎_elim
    (λ some. inl (a, ne, some))
    (λ none. ⊎_elim inl
    (λ rest. inr (let e = sum_by-cons f a (range_with_len (a + 1) n) in omega (arith, none, rest, e)))
    (nobody_else f p n (a + 1)))
    (cases_lt 0 (f a)))
    (cases_eq a p)

-- ---- what lacks cash

-- the first pair of a bundle that is over the cash, if there is one
over_or_within : (s : BankerState) (bundle : Bundle) → ((k : ℕ) × (pair : Pair) × (slice_get bundle k ≡ Some pair) × (cash s pair.resource < pair.amount))
    ⊎ IsWithinCash s bundle
over_or_within s [] = inr (All-nil (λ pair. pair.amount ≤ cash s pair.resource))
over_or_within s (pair ∷ bundle) = ⊎_elim
    (λ over. inl (0, pair, refl, over))
    (λ fits. ⊎_elim
    (λ later. inl (suc later.0, later.1, later.2, later.3))
    (λ all. inr (All-cons (λ p. p.amount ≤ cash s p.resource) pair bundle fits all))
    (over_or_within s bundle))
    (cases_lt (cash s pair.resource) pair.amount)

-- ---- who is over

over_or_not : (process : CodeProcess) → code_over process ⊎ (code_over process → ⊥)
over_or_not process = failed process.faulted refl
  where
    ended : process.faulted ≡ false → (t : Thread) → thread process.threads 0 ≡ t → code_over process ⊎ (code_over process → ⊥)
    ended f Idle e = inr (λ h. ⊎_elim (λ x. let z : true ≡ false = sym x ∙ f in cc) (λ x. let z : Idle ≡ Ended = sym e ∙ x in cc) h)
    ended f (Live p s) e = inr (λ h. ⊎_elim (λ x. let z : true ≡ false = sym x ∙ f in cc) (λ x. let z : Live p s ≡ Ended = sym e ∙ x in cc) h)
    ended f Ended e = inl (inr e)

    failed : (b : Bool) → process.faulted ≡ b → code_over process ⊎ (code_over process → ⊥)
    failed true e = inl (inl e)
    failed false e = ended e (thread process.threads 0) refl

-- the first of some processes that is not over, if there is one
going_or_over : (processes : List CodeProcess) → ((p : ℕ) × (process : CodeProcess) × (slice_get processes p ≡ Some process) × (code_over process → ⊥))
    ⊎ ((p : ℕ) (process : CodeProcess) → slice_get processes p ≡ Some process → code_over process)
going_or_over [] = inr (λ p process h. absurd cc)
going_or_over (process ∷ processes) = ⊎_elim
    (λ over. ⊎_elim
    (λ later. inl (suc later.0, later.1, later.2, later.3))
    (λ all. inr (whole over all))
    (going_or_over processes))
    (λ going. inl (0, process, refl, going))
    (over_or_not process)
  where
    whole : code_over process → ((p : ℕ) (other : CodeProcess) → slice_get processes p ≡ Some other → code_over other)
        → (p : ℕ) (other : CodeProcess) → slice_get (process ∷ processes) p ≡ Some other → code_over other
    whole over all zero other h = let e : process ≡ other = cc in subst code_over e over
    whole over all (suc p) other h = all p other h

-- all numbers below a count
among_all : (n q : ℕ) → q < n → IsAmong (range_with_len 0 n) q
among_all n q lt =
    let l = length-range_with_len 0 n in
    let e : get_or (range_with_len 0 n) q 0 ≡ q = get_or-range_with_len 0 n q 0 lt ∙ (let z : 0 + q ≡ q = omega arith in z) in
    (q, slice_get-get_or (range_with_len 0 n) q 0 (omega (arith, lt, l)) ∙ ap Some e)

-- a request that is not granted
asking : (v : VerifiedCode) (s : State CodeProcess) (p : ℕ) (effect : Effect) → (IsGranted (bank_by ByCash v.code) s.loans p effect → ⊥)
    → (bundle : Bundle) × (effect ≡ Takes bundle) × (IsWithinCash (bank_at v.code s) bundle → ⊥)
asking v s p Silent refused = absurd (refused tt)
asking v s p (Prints value) refused = absurd (refused tt)
asking v s p (Takes bundle) refused = (bundle, refl, refused)
asking v s p (Returns bundle) refused = absurd (refused tt)
asking v s p (Faults kind) refused = absurd (refused tt)
asking v s p Finishes refused = absurd (refused tt)

-- ---- a deadlock by cash alone

module _ (v : VerifiedCode) (verified : IsVerified v) (s : State CodeProcess) (reached : CodeReachesBy ByCash v.code s)
    (dead : IsDeadlockBy ByCash v.code s) where
  good : Good v.code verified.faultless s
  good = good_reached v.code verified.faultless ByCash s reached

  well : IsWellFormed (bank_at v.code s)
  well = (code_is_sound ByCash v verified s reached).well_formed

  -- a process that has neither ended nor faulted
  record Going (p : ℕ) : Type 0 where
    process : CodeProcess
    there : slice_get s.processes p ≡ Some process
    going : code_over process → ⊥

  -- whoever holds something has neither ended nor faulted
  holder_goes : (q r : ℕ) → 0 < loan (bank_at v.code s) q r → Going q
  holder_goes q r some =
      let n = good.count in
      let rows = (verified.faultless OutOfLimits).rows in
      let lt = holder_there (bank_at v.code s) well q r some in
      let code = get_some v.code.processes q (omega (arith, lt, rows)) in
      let state = get_some s.processes q (omega (arith, lt, rows, n)) in
      let ok = checked v.code verified.faultless q code.0 code.1 in
      record {
        process = state.0;
        there = state.1;
        going = λ over.
            let none = good.loans q code.0 state.0 code.1 state.1 r ∙ holds_none code.0 ok (thread state.0.threads) r
            (none_live code.0 ok state.0 (good.fit q code.0 state.0 code.1 state.1) over) in
            omega (arith, none, some);
      }

  -- whoever asks for more than the cash waits for another, since nobody asks for more than the capital
  other_holds : (p r amount : ℕ) → p < processes (bank_at v.code s) → loan (bank_at v.code s) p r + amount ≤ claim (bank_at v.code s) p r
      → cash (bank_at v.code s) r < amount → Another (λ q. loan (bank_at v.code s) q r) p
  other_holds p r amount lt within over = ⊎_elim (λ some. some) (λ few. absurd (enough few)) (nobody_else (λ q. loan (bank_at v.code s) q r) p (processes (bank_at v.code s)) 0)
    where
      enough : sum_by (λ q. loan (bank_at v.code s) q r) (range_with_len 0 (processes (bank_at v.code s))) ≤ loan (bank_at v.code s) p r → ⊥
      enough few = ⊎_elim
          (λ below. let fit = well.claims_fit p r lt below in omega (arith, few, within, over, fit))
          (λ past.
          let w = well.claim_width p lt in
          let none : claim (bank_at v.code s) p r ≡ 0 = get_or_past (row_of (bank_at v.code s).claims p) r 0 (omega (arith, w, past)) in
          omega (arith, none, within, over))
          (cases_lt r (resources (bank_at v.code s)))

  -- whoever goes on waits for another that does
  waits : (p : ℕ) → Going p → (link : Link) × IsLink v.code s link × (link.process ≡ p) × Going link.holder
  waits p g =
      let n = good.count in
      let rows = (verified.faultless OutOfLimits).rows in
      let u = slice_get_within s.processes p g.process g.there in
      let code = get_some v.code.processes p (omega (arith, u, n)) in
      let ok = checked v.code verified.faultless p code.0 code.1 in
      let fit = good.fit p code.0 g.process code.1 g.there in
      let w = can_step code.0 ok g.process fit g.going in
      let pick : Pick = record { process = p; arm = w.0 } in
      let enabled : move_of (code_step v.code.processes) s pick ≡ Some (moved s pick (w.1, w.2)) =
      move_is v.code.processes s pick g.process code.0 (Some (w.1, w.2)) g.there code.1 w.3 in
      let asks = asking v s p w.2 (λ granted. dead.stuck (pick, moved s pick (w.1, w.2), enabled, granted)) in
      let at = take_at code.0 ok (thread g.process.threads) (thread w.1.threads) w.0 w.2 asks.0 (turned code.0 ok g.process w.1 w.0 w.2 fit w.3).turn asks.1 in
      let stands : StandsIn v.code s pick (Take asks.0) = record {
        of = code.0;
        process = g.process;
        code_there = code.1;
        there = g.there;
        stands = record { place = at.0; stack = at.1; live = at.2; there = at.3 };
      } in
      let over = ⊎_elim (λ some. some) (λ within. absurd (asks.2 within)) (over_or_within (bank_at v.code s) asks.0) in
      let place = slice_get_within asks.0 over.0 over.1 over.2 in
      let is_pair : get_or asks.0 over.0 over.1 ≡ over.1 = get_or_from_slice_get asks.0 over.0 over.1 over.1 over.2 in
      let part : over.1.amount ≤ amount_in asks.0 over.1.resource =
      subst (λ (x : Pair). x.amount ≤ amount_in asks.0 x.resource) is_pair (pair_in asks.0 over.0 over.1 place) in
      let within : loan (bank_at v.code s) p over.1.resource + over.1.amount ≤ claim (bank_at v.code s) p over.1.resource =
      all_at (λ pair. loan (bank_at v.code s) p pair.resource + pair.amount ≤ claim (bank_at v.code s) p pair.resource) asks.0 over.0 over.1
      ((code_is_sound ByCash v verified s reached).asks_within pick (moved s pick (w.1, w.2)) asks.0 enabled asks.1) over.2 in
      let short = over.3 in
      let another = other_holds p over.1.resource over.1.amount (omega (arith, u, n, rows)) within short in (
        record { process = p; arm = w.0; resource = over.1.resource; holder = another.0 },
        record {
          lacks = record { bundle = asks.0; asks = stands; over = omega (arith, part, short) };
          other = another.1;
          holds = another.2;
        },
        refl,
        holder_goes another.0 over.1.resource another.2,
      )

  circle : (circle : List Link) × IsCircle v.code s circle
  circle = ⊎_elim
      (λ first. walk v.code s Going waits (length s.processes) (range_with_len 0 (length s.processes)) [] first.0
      (let l = length-range_with_len 0 (length s.processes) in omega (arith, l)) (path_start (IsLink v.code s) first.0)
      (record { process = first.1; there = first.2; going = first.3 })
      (λ q g. inl (among_all (length s.processes) q (slice_get_within s.processes q g.process g.there))))
      (λ all. absurd (dead.unfinished all))
      (going_or_over s.processes)

pub deadlocks_have_circles : DeadlocksHaveCircles
deadlocks_have_circles ByBanker v verified s reached dead = absurd (⊎_elim dead.unfinished dead.stuck (goes_on v verified s reached))
deadlocks_have_circles ByCash v verified s reached dead = circle v verified s reached dead
