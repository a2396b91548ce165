-- The loans of verified code stay within the claims and the capital, and safe; and some process can always go
-- on.
use Rattle.std.proofs.Common.{◌≡◌, ◌⊎◌, inl, inr, ⊎_elim, ℕ, zero, suc, ◌+◌, ◌<◌, ◌≤◌, Bool, true, false, cond, eqb}
use Rattle.std.proofs.Common.{List, [], ◌∷◌, ◌++◌, length, get_or, map, replicate, Option, Some, None, option_map}
use Rattle.std.proofs.Common.{option_and_then, refl, sym, ap, ◌∙◌, subst, arith, get_or-set_same, length-append}
use Rattle.std.specs.Prelude.{slice_get, All}
use Rattle.std.proofs.lemmas.List.{get_or_append_left, length-map}
use Rattle.std.proofs.lemmas.List.FromFn.{get_or-range_with_len, length-range_with_len}
use Rattle.std.proofs.lemmas.List.Elements.{All-cons}
use Rattle.std.proofs.lemmas.List.Sorted.{IsPermutation-refl, IsPermutation-sym, All-permutation}
use Rattle.std.proofs.lemmas.Option.{slice_get_within}
use Rattle.std.proofs.lemmas.Bool.{eq-eqb}
use Rattle.std.proofs.Math.ListN.{get_or-map}
use Rattle.pb_base.specs.declared.pair.Pair.{Pair}
use Rattle.pb_base.specs.declared.pick.Pick.{Pick}
use Rattle.pb_base.specs.declared.event.Event.{Event}
use Rattle.pb_base.specs.Bundle.{amount_in, lend, give_back}
use Rattle.pb_base.specs.Banker.{BankerState, capital, loan, processes, everyone, held_by, cash, cell, row_of}
use Rattle.pb_base.specs.Banker.{Finishes, IsSafe, IsAllowed, IsWellFormed}
use Rattle.pb_base.specs.Steppers.{Bundle, Table, Effect, Silent, Prints, Takes, Returns, Faults, Finishes as Ends}
use Rattle.pb_base.specs.Steppers.{IsGranted, State, Move, Makes, moved, move_of, banker_state, loans_after, CanGoOn}
use Rattle.pb_base.specs.Steppers.{IsFinished}
use Rattle.pb_base.proofs.BankerLaws.{fewer_loans_stay_safe, first_borrower_may_ask, order_below}
use Rattle.pb_base.proofs.Groups.{range_below, sum_by-zero_on}
use Rattle.pb_base.proofs.LoanRows.{amount_in-le, amount_in-cons, get_or-give_back, get_or-lend, length-give_back}
use Rattle.pb_base.proofs.LoanRows.{length-lend}
use Rattle.pb_base.proofs.Rows.{with_row, IsWellFormed-with_row, HasFewerLoans-with_row}
use Rattle.pb_base.proofs.Lists.{get_some}
use Rattle.pb_code.specs.Code.{ProcessCode, Thread, Idle, Live, Ended, CodeProcess, thread, step_process, code_step}
use Rattle.pb_code.specs.Code.{code_process, code_over}
use Rattle.pb_code.specs.Reached.{CodeReaches}
use Rattle.pb_code.specs.Whole.{Code, bank_of, code_opening}
use Rattle.pb_verifier.specs.declared.fault.VerifyFault.TheVariants.{OutOfLimits, OverCapital, OverClaim}
use Rattle.pb_verifier.specs.Behaviour.{AsksWithin, EndsOrGoesOn, IsDeadlocked}
use Rattle.pb_verifier.specs.Limits.{KeepsLimits, IsSmallBundle}
use Rattle.pb_verifier.specs.Verified.{IsFaultless}
use Rattle.pb_verifier.proofs.LiveSteps.{can_step, none_live}
use Rattle.pb_verifier.proofs.ThreadHoldings.{holds_none, under_peak}
use Rattle.pb_verifier.proofs.PeakTables.{replicate_read}
use Rattle.pb_verifier.proofs.States.{CodeMove, code_move, checked, Good, asks_within, bundles_small, good_next}
use Rattle.pb_verifier.proofs.States.{good_start}
use Rattle.pb_verifier.proofs.ThreadTurns.{turned}

-- a pair is part of its bundle
pub pair_in : (bundle : Bundle) (k : ℕ) (d : Pair) → k < length bundle → (get_or bundle k d).amount ≤ amount_in bundle (get_or bundle k d).resource
pair_in [] k d u = absurd (omega arith)
pair_in (pair ∷ bundle) zero d u =
    let a = amount_in-cons pair bundle pair.resource in
    let e : cond (eqb pair.resource pair.resource) pair.amount 0 ≡ pair.amount = ap (λ b. cond b pair.amount 0) (eq-eqb pair.resource pair.resource refl) in
    omega (arith, a, e)
pair_in (pair ∷ bundle) (suc k) d u =
    let rest = pair_in bundle k d (omega arith) in
    let a = amount_in-cons pair bundle (get_or bundle k d).resource in
    omega (arith, rest, a)

over_or_not : (process : CodeProcess) → code_over process ⊎ (code_over process → ⊥)
over_or_not process = failed process.faulted refl
  where
    ended : process.faulted ≡ false → (t : Thread) → thread process.threads 0 ≡ t → code_over process ⊎ (code_over process → ⊥)
    ended f Idle e = inr (λ h. ⊎_elim (λ x. let z : true ≡ false = sym x ∙ f in cc) (λ x. let z : Idle ≡ Ended = sym e ∙ x in cc) h)
    ended f (Live p s) e = inr (λ h. ⊎_elim (λ x. let z : true ≡ false = sym x ∙ f in cc) (λ x. let z : Live p s ≡ Ended = sym e ∙ x in cc) h)
    ended f Ended e = inl (inr e)

    failed : (b : Bool) → process.faulted ≡ b → code_over process ⊎ (code_over process → ⊥)
    failed true e = inl (inl e)
    failed false e = ended e (thread process.threads 0) refl

pub zero_loans : {X : Type 0} (n : ℕ) (xs : List X) (p r : ℕ) → cell (map (λ (x : X). replicate n 0) xs) p r ≡ 0
zero_loans n [] p r = refl
zero_loans n (x ∷ xs) zero r = replicate_read n r 0
zero_loans n (x ∷ xs) (suc p) r = zero_loans n xs p r

module _ (whole : Code) (faultless : IsFaultless whole) where
  abbrev bank_at : Table → BankerState
  bank_at loans = banker_state (bank_of whole) loans

  limits : KeepsLimits whole
  limits = faultless OutOfLimits

  loan_fits : (s : State CodeProcess) → Good whole faultless s → (p r : ℕ) → p < length whole.processes → r < length
      whole.capital → cell s.loans p r ≤ cell whole.claims p r
  loan_fits s good p r u v =
      let code = get_some whole.processes p u in
      let n = good.count in
      let state = get_some s.processes p (omega (arith, u, n)) in
      let ok = checked whole faultless p code.0 code.1 in
      let at_p = good.loans p code.0 state.0 code.1 state.1 r in
      let fit = good.fit p code.0 state.0 code.1 state.1 in
      let w = faultless OverClaim p r code.0 code.1 v ok.held ok.holdings in
      let most = under_peak code.0 ok (thread state.0.threads) fit.order r w.0 w.1 in
      let c = w.2 in
      omega (arith, at_p, most, c)

  -- what is lent in all is within the capital, and a finishing order exists
  pub record Kept (s : State CodeProcess) : Type 0 where
    pub good : Good whole faultless s
    pub lent : (r : ℕ) → r < length whole.capital → held_by (bank_at s.loans) (everyone (bank_at s.loans)) r ≤ capital (bank_at s.loans) r
    pub safe : IsSafe (bank_at s.loans)

  pub well_formed : (s : State CodeProcess) → Kept s → IsWellFormed (bank_at s.loans)
  well_formed s kept =
      let rows = limits.rows in
      let few = limits.some_processes.1 in
      let n = kept.good.lent in
      record {
        few_processes = omega (arith, rows, few);
        few_resources = limits.few_resources;
        all_loans = n ∙ sym rows;
        claim_width = λ p u. limits.width p [] u;
        loan_width = λ p u. kept.good.rows p (omega (arith, u, rows));
        small = λ r u. limits.capital r 0 u;
        claims_fit = λ p r u v. faultless OverCapital p r (omega (arith, u, rows)) v;
        loans_fit = λ p r u v. loan_fits s kept.good p r (omega (arith, u, rows)) v;
        lent = kept.lent;
      }

  -- ---- one move

  -- what a row in the place of another keeps, if the banker has cash for it
  kept_row : (s : State CodeProcess) (p : ℕ) (row : List ℕ) → Kept s → p < length whole.processes → length row ≡ length whole.capital
      → ((r : ℕ) → r < length whole.capital → get_or row r 0 ≤ cell whole.claims p r) → ((r : ℕ) → r < length
      whole.capital → get_or row r 0 ≤ cell s.loans p r + cash (bank_at s.loans) r)
      → (r : ℕ) → r < length whole.capital → held_by (with_row (bank_at s.loans) p row) (everyone (bank_at s.loans)) r ≤ capital (bank_at s.loans) r
  kept_row s p row kept u width claims cashes =
      let rows = limits.rows in
      (IsWellFormed-with_row (bank_at s.loans) p row (well_formed s kept) (omega (arith, u, rows)) (record {
        width =
            width;
        within_claim = claims;
        within_cash = cashes;
      })).lent

  fewer : (s : State CodeProcess) (p : ℕ) (row : List ℕ) → Kept s → p < length whole.processes → length row ≡ length
      whole.capital → ((r : ℕ) → r < length whole.capital → get_or row r 0 ≤ cell s.loans p r)
      → ((r : ℕ) → r < length whole.capital → held_by (with_row (bank_at s.loans) p row) (everyone (bank_at s.loans))
      r ≤ capital (bank_at s.loans) r) × IsSafe (with_row (bank_at s.loans) p row)
  fewer s p row kept u width less =
      let rows = limits.rows in
      let wf = well_formed s kept in
      let v : p < processes (bank_at s.loans) = omega (arith, u, rows) in (
        kept_row s p row kept u width (λ r x. let a = less r x in let b = loan_fits s kept.good p r u x in omega
            (arith, a, b)) (λ r x. let a = less r x in omega (arith, a)),
        (
          kept.safe.0,
          fewer_loans_stay_safe (with_row (bank_at s.loans) p row) (bank_at s.loans) wf
              (HasFewerLoans-with_row (bank_at s.loans) p row wf v less) kept.safe.0 kept.safe.1,
        ),
      )

  banked : (s : State CodeProcess) (p : ℕ) (effect : Effect) → Kept s → p < length whole.processes → IsGranted (bank_of whole) s.loans p effect
      → ((bundle : Bundle) → (effect ≡ Takes bundle) ⊎ (effect ≡ Returns bundle) → IsSmallBundle bundle × All (λ pair.
      pair.resource < length whole.capital) bundle)
      → ((r : ℕ) → r < length whole.capital → cell (loans_after s.loans p effect) p r ≤ cell whole.claims p r)
      → ((r : ℕ) → r < length whole.capital → held_by (bank_at (loans_after s.loans p effect)) (everyone (bank_at
      s.loans)) r ≤ capital (bank_at s.loans) r) × IsSafe (bank_at (loans_after s.loans p effect))
  banked s p Silent kept u granted bundles claims = (kept.lent, kept.safe)
  banked s p (Prints v) kept u granted bundles claims = (kept.lent, kept.safe)
  banked s p (Takes bundle) kept u granted bundles claims =
      let b = bundles bundle (inl refl) in
      let n = kept.good.lent in
      let wide : length (row_of s.loans p) ≡ length whole.capital = kept.good.rows p u in
      let there : p < length s.loans = omega (arith, u, n) in
      let here : (r : ℕ) → get_or (lend (row_of s.loans p) bundle) r 0 ≡ cell s.loans p r + amount_in bundle r = λ r.
      get_or-lend (row_of s.loans p) bundle r (subst (λ k. All (λ pair. pair.resource < k) bundle) (sym wide) b.1)
      in (
        kept_row s p (lend (row_of s.loans p) bundle) kept u (length-lend (row_of s.loans p) bundle ∙ wide)
            (λ r x. let c = claims r x in let e = ap (λ (row : List ℕ). get_or row r 0) (get_or-set_same s.loans p
            (lend (row_of s.loans p) bundle) [] there) in omega (arith, c, e))
            (λ r x. let h = here r in let a = amount_in-le bundle (cash (bank_at s.loans)) r b.0.distinct granted.within_cash in omega (arith, h, a)),
        granted.safe,
      )
  banked s p (Returns bundle) kept u granted bundles claims =
      let b = bundles bundle (inr refl) in
      let wide : length (row_of s.loans p) ≡ length whole.capital = kept.good.rows p u in
      fewer s p (give_back (row_of s.loans p) bundle) kept u (length-give_back (row_of s.loans p) bundle ∙ wide)
      (λ r x. let h = get_or-give_back (row_of s.loans p) bundle r (subst (λ k. All (λ pair. pair.resource < k) bundle) (sym wide) b.1) in omega (arith, h))
  banked s p (Faults kind) kept u granted bundles claims =
      let wide : length (row_of s.loans p) ≡ length whole.capital = kept.good.rows p u in
      let none : ℕ → ℕ = λ _. 0 in
      fewer s p (map none (row_of s.loans p)) kept u (length-map (row_of s.loans p) none ∙ wide)
      (λ r x. let e : get_or (map none (row_of s.loans p)) r 0 ≡ 0 = get_or-map none (row_of s.loans p) r 0 in omega (arith, e))
  banked s p Ends kept u granted bundles claims = (kept.lent, kept.safe)

  pub kept_next : (s : State CodeProcess) (pick : Pick) (move : Move CodeProcess) → Kept s → CodeMove whole.processes
      s pick move → IsGranted (bank_of whole) s.loans pick.process move.effect → Kept move.next
  kept_next s pick move kept m granted =
      let good = good_next whole faultless s pick move kept.good m in
      let u = slice_get_within whole.processes pick.process m.code m.at in
      let loans : loans_after s.loans pick.process m.effect ≡ move.next.loans = ap (λ (x : Move CodeProcess). x.next.loans) m.is in
      let turn = turned m.code (checked whole faultless pick.process m.code m.at) m.before m.after pick.arm m.effect
      (kept.good.fit pick.process m.code m.before m.at m.here) m.steps in
      let b =
      banked s pick.process m.effect kept u (subst (IsGranted (bank_of whole) s.loans pick.process) (sym (ap (λ (x :
      Move CodeProcess). x.effect) m.is)) granted)
      (bundles_small whole faultless pick.process m.code m.at (thread m.before.threads) (thread m.after.threads) pick.arm m.effect turn.turn)
      (λ r x. subst (λ (t : Table). cell t pick.process r ≤ cell whole.claims pick.process r) (sym loans) (loan_fits move.next good pick.process r u x))
      in
      record {
        good = good;
        lent = subst (λ (t : Table). (r : ℕ) → r < length whole.capital → held_by (bank_at t) (everyone (bank_at
            s.loans)) r ≤ capital (bank_at s.loans) r) loans b.0;
        safe = subst (λ (t : Table). IsSafe (bank_at t)) loans b.1;
      }

  -- ---- the opening

  kept_start : Kept (code_opening whole)
  kept_start =
      let s = code_opening whole in
      let none : (r : ℕ) → held_by (bank_at s.loans) (everyone (bank_at s.loans)) r ≡ 0 =
      λ r. sum_by-zero_on (λ p. loan (bank_at s.loans) p r) (everyone (bank_at s.loans)) (λ k d u. zero_loans (length
      whole.capital) (map code_process whole.processes) (get_or (everyone (bank_at s.loans)) k d) r)
      in
      let rows = limits.rows in
      record {
        good = good_start whole faultless;
        lent = λ r u. let z = none r in omega (arith, z);
        safe = (
          everyone (bank_at s.loans),
          record {
            everyone = IsPermutation-refl (everyone (bank_at s.loans));
            fits = λ k u. record {
              each = λ r v.
                  let p : ℕ = get_or (everyone (bank_at s.loans)) k 0 in
                  let below : p < 0 + length whole.claims = range_below 0 (length whole.claims) k 0 u in
                  let c : cell whole.claims p r ≤ get_or whole.capital r 0 = faultless OverCapital p r (omega (arith, below, rows)) v in
                  let z = none r in
                  omega (arith, c, z);
            };
          },
        );
      }

  kept_makes : (s : State CodeProcess) (picks : List Pick) (events : List Event) (end : State CodeProcess) → Kept s →
      Makes (bank_of whole) (code_step whole.processes) s picks events end → Kept end
  kept_makes s [] events end kept m = subst Kept (sym m.1) kept
  kept_makes s (pick ∷ picks) events end kept m = kept_makes m.0.next picks m.3 end (kept_next s pick m.0 kept
      (code_move whole.processes s pick m.0 m.1) m.2) m.5

  pub kept_reached : (s : State CodeProcess) → CodeReaches whole s → Kept s
  kept_reached s reached = kept_makes (code_opening whole) reached.0 reached.1 s kept_start reached.2

  -- ---- requests, and going on

  pub asks_within_claims : (s : State CodeProcess) → Good whole faultless s → AsksWithin whole s
  asks_within_claims s good pick move bundle enabled takes = λ k d u.
      let a = asks_within whole faultless s good pick move bundle enabled takes (get_or bundle k d).resource in
      let b = pair_in bundle k d u in
      omega (arith, a, b)

  module _ (s : State CodeProcess) (kept : Kept s) where
    -- a process of an order is over, and holds nothing
    abbrev IsOverAt : ℕ → Type 0
    IsOverAt p = (process : CodeProcess) → slice_get s.processes p ≡ Some process → code_over process

    over_holds_none : (p : ℕ) → p < length whole.processes → IsOverAt p → (r : ℕ) → cell s.loans p r ≡ 0
    over_holds_none p u over r =
        let n = kept.good.count in
        let code = get_some whole.processes p u in
        let state = get_some s.processes p (omega (arith, u, n)) in
        let ok = checked whole faultless p code.0 code.1 in
        kept.good.loans p code.0 state.0 code.1 state.1 r ∙ holds_none code.0 ok (thread state.0.threads) r (none_live
        code.0 ok state.0 (kept.good.fit p code.0 state.0 code.1 state.1) (over state.0 state.1))

    -- the first process of an order that is not over
    record Next (order : List ℕ) : Type 0 where
      before : List ℕ
      p : ℕ
      after : List ℕ
      process : CodeProcess
      split : order ≡ before ++ p ∷ after
      earlier : All IsOverAt before
      here : slice_get s.processes p ≡ Some process
      going : code_over process → ⊥

    walk : (order : List ℕ) → Next order ⊎ All IsOverAt order
    walk [] = inr (λ k d u. absurd (omega arith))
    walk (p ∷ order) = at_p (slice_get s.processes p) refl (walk order)
      where
        further : IsOverAt p → Next order ⊎ All IsOverAt order → Next (p ∷ order) ⊎ All IsOverAt (p ∷ order)
        further over (inl n) = inl (record {
          before = p ∷ n.before;
          p = n.p;
          after = n.after;
          process = n.process;
          split = ap (λ xs. p ∷ xs) n.split;
          earlier = All-cons IsOverAt p n.before over n.earlier;
          here = n.here;
          going = n.going;
        })
        further over (inr all) = inr (All-cons IsOverAt p order over all)

        at_p : (o : Option CodeProcess) → slice_get s.processes p ≡ o → Next order ⊎ All IsOverAt order → Next (p ∷ order) ⊎ All IsOverAt (p ∷ order)
        at_p None e rest = further (λ process at. let z : None ≡ Some process = sym e ∙ at in cc) rest
        at_p (Some process) e rest = ⊎_elim
            (λ over. further (λ other at. let z : Some process ≡ Some other = sym e ∙ at in let y : process ≡ other = cc in subst code_over y over) rest)
            (λ going. inl (record {
              before = [];
              p = p;
              after = order;
              process = process;
              split = refl;
              earlier = λ k
                  d u. absurd (omega arith);
              here = e;
              going = going;
            }))
            (over_or_not process)

    goes_on : Next kept.safe.0 → CanGoOn (bank_of whole) (code_step whole.processes) s
    goes_on next =
        let n = kept.good.count in
        let u = slice_get_within s.processes next.p next.process next.here in
        let code = get_some whole.processes next.p (omega (arith, u, n)) in
        let ok = checked whole faultless next.p code.0 code.1 in
        let fit = kept.good.fit next.p code.0 next.process code.1 next.here in
        let w = can_step code.0 ok next.process fit next.going in
        let pick : Pick = record { process = next.p; arm = w.0 } in
        let enabled : move_of (code_step whole.processes) s pick ≡ Some (moved s pick (w.1, w.2)) =
        ap (option_and_then (λ process. option_map (moved s pick) (code_step whole.processes next.p process w.0))) next.here
        ∙ (ap (λ o. option_map (moved s pick) (option_and_then (λ code. step_process code next.process w.0) o)) code.1 ∙ ap (option_map (moved s pick)) w.3)
        in
        (pick, moved s pick (w.1, w.2), enabled, granted w.2 (λ bundle e. takes code.0 code.1 w.0 w.1 w.2 w.3 enabled bundle e))
      where
        takes : (code : ProcessCode) (at : slice_get whole.processes next.p ≡ Some code) (a : ℕ) (after : CodeProcess)
            (effect : Effect) → step_process code next.process a ≡ Some (after, effect)
            → move_of (code_step whole.processes) s (record { process = next.p; arm = a }) ≡ Some (moved s (record {
              process = next.p;
              arm = a;
            }) (after, effect)) → (bundle : Bundle) → effect ≡ Takes bundle
            → IsAllowed (bank_at s.loans) next.p bundle
        takes code at a after effect steps enabled bundle e =
            let turn = turned code (checked whole faultless next.p code at) next.process after a effect (kept.good.fit
            next.p code next.process at next.here) steps in
            let b = bundles_small whole faultless next.p code at (thread next.process.threads) (thread after.threads) a effect turn.turn bundle (inl e) in
            let finishes : Finishes (bank_at s.loans) (next.before ++ next.p ∷ next.after) = subst (Finishes (bank_at s.loans)) next.split kept.safe.1 in
            let rows = limits.rows in
            first_borrower_may_ask (bank_at s.loans) (well_formed s kept) next.before next.p next.after finishes
            (λ k d u r v.
            let below = order_below (bank_at s.loans) (next.before ++ next.p ∷ next.after) finishes.everyone k d
            (longer next.before (next.p ∷ next.after) k u) in
            let same : get_or (next.before ++ next.p ∷ next.after) k d ≡ get_or next.before k d = get_or_append_left next.before (next.p ∷ next.after) d k u in
            over_holds_none (get_or next.before k d) (omega (arith, below, same, rows)) (next.earlier k d u) r)
            bundle b.0.distinct b.1 (asks_within_claims s kept.good (record { process = next.p; arm = a }) _ bundle enabled e)
          where
            longer : (xs ys : List ℕ) (k : ℕ) → k < length xs → k < length (xs ++ ys)
            longer xs ys k u = let l = length-append xs ys in omega (arith, l)

        granted : (effect : Effect) → ((bundle : Bundle) → effect ≡ Takes bundle → IsAllowed (bank_at s.loans) next.p
            bundle) → IsGranted (bank_of whole) s.loans next.p effect
        granted Silent h = tt
        granted (Prints v) h = tt
        granted (Takes bundle) h = h bundle refl
        granted (Returns bundle) h = tt
        granted (Faults kind) h = tt
        granted Ends h = tt

    finished : All IsOverAt kept.safe.0 → IsFinished code_over s
    finished all p process here =
        let n = kept.good.count in
        let rows = limits.rows in
        let u = slice_get_within s.processes p process here in
        let w : p < length whole.claims = omega (arith, u, n, rows) in
        let everywhere = All-permutation IsOverAt kept.safe.0 (everyone (bank_at s.loans)) (IsPermutation-sym
        (everyone (bank_at s.loans)) kept.safe.0 kept.safe.1.everyone) all in
        let is_p : get_or (everyone (bank_at s.loans)) p 0 ≡ p = (let r = get_or-range_with_len 0 (length
        whole.claims) p 0 w in let z : 0 + p ≡ p = omega arith in r ∙ z) in
        subst IsOverAt is_p (everywhere p 0 (let l = length-range_with_len 0 (length whole.claims) in omega (arith, w, l))) process here

    pub ends_or_goes_on : EndsOrGoesOn whole s
    ends_or_goes_on = ⊎_elim (λ next. inr (goes_on next)) (λ all. inl (finished all)) (walk kept.safe.0)

    pub not_deadlocked : IsDeadlocked whole s → ⊥
    not_deadlocked locked = ⊎_elim locked.0 locked.1 ends_or_goes_on
