-- A request that was refused stays refused, until loans come back.
use Rattle.std.proofs.Common.{◌≡◌, ◌≢◌, inl, ⊎_elim, ℕ, zero, suc, ◌+◌, ◌-◌, ◌<◌, ◌≤◌, ℤ, true, false, List, [], ◌∷◌}
use Rattle.std.proofs.Common.{length, get_or, set, Some, option_map, option_and_then, refl, sym, ap, ◌∙◌, subst}
use Rattle.std.proofs.Common.{arith}
use Rattle.std.specs.Prelude.{slice_get, slice_set, All}
use Rattle.std.proofs.lemmas.Option.{slice_get_within}
use Rattle.pb_base.specs.declared.operators.FaultKind.{FaultKind}
use Rattle.pb_base.specs.declared.pick.Pick.{Pick}
use Rattle.pb_base.specs.Bundle.{amount_in, lend}
use Rattle.pb_base.specs.Banker.{BankerState, capital, claim, loan, processes, resources, everyone, held_by, cash}
use Rattle.pb_base.specs.Banker.{row_of, with_loan, IsAllowed, IsWellFormed, HasFewerLoans}
use Rattle.pb_base.specs.Steppers.{Bundle, Table, Effect, Silent, Prints, Takes, Returns, Faults, Finishes, IsGranted}
use Rattle.pb_base.specs.Steppers.{State, Move, banker_state, ending, event_of, loans_after, moved, move_of}
use Rattle.pb_base.proofs.BankerLaws.{fewer_loans_stay_safe, loan-with_loan, loan-with_loan_other}
use Rattle.pb_base.proofs.Groups.{range_below, sum_by-le_on}
use Rattle.pb_base.proofs.LoanRows.{amount_in-le, get_or-lend, length-lend}
use Rattle.pb_base.proofs.Rows.{IsWellFormed-with_row}
use Rattle.pb_base.proofs.Cases.{same_or_not}
use Rattle.pb_code.specs.Code.{Instr, Take, ProcessCode, Thread, Idle, Live, Ended, CodeProcess, thread, step_thread}
use Rattle.pb_code.specs.Code.{step_process, code_step, act, apply_step}
use Rattle.pb_code.specs.Whole.{Code, bank_of}
use Rattle.pb_verifier.specs.Limits.{IsSmallBundle}
use Rattle.pb_verifier.specs.Places.{InstrAt}
use Rattle.pb_verifier.specs.Requests.{IsDenied, frees, RefusedStays, RefusedStops}
use Rattle.pb_verifier.specs.Verified.{IsFaultless}
use Rattle.pb_verifier.specs.declared.fault.VerifyFault.TheVariants.{OutOfLimits}
use Rattle.pb_verifier.proofs.LoansWithinClaims.{Kept, kept_next, kept_reached, well_formed}
use Rattle.pb_verifier.proofs.ArmPlaces.{Checked}
use Rattle.pb_verifier.proofs.ThreadOrder.{among_or_not, idle_before}
use Rattle.pb_verifier.proofs.States.{code_move, checked, bundles_small, slice_set_other}
use Rattle.pb_verifier.proofs.ThreadTurns.{Turn, runs, traps, forks, joins, stops, InOrder, turned}

-- ---- what is allowed with more loans is with fewer

module _ (fewer s : BankerState) (good : IsWellFormed s) (well : IsWellFormed fewer) (less : HasFewerLoans fewer s)
    (p : ℕ) (within : p < processes s) (pairs : Bundle) (small : IsSmallBundle pairs) (below : All (λ pair. pair.resource < resources s) pairs) where
  same_resources : resources fewer ≡ resources s
  same_resources = ap length less.capital

  same_processes : processes fewer ≡ processes s
  same_processes = ap (λ (t : Table). length t) less.claims

  same_claim : (q r : ℕ) → claim fewer q r ≡ claim s q r
  same_claim q r = ap (λ (t : Table). get_or (get_or t q []) r 0) less.claims

  more_cash : (r : ℕ) → r < resources s → cash s r ≤ cash fewer r
  more_cash r lr =
      let e : capital fewer r ≡ capital s r = ap (λ (t : List ℕ). get_or t r 0) less.capital in
      let held : held_by fewer (everyone s) r ≤ held_by s (everyone s) r =
      sum_by-le_on (λ q. loan fewer q r) (λ q. loan s q r) (everyone s)
      (λ k d l. less.less (get_or (everyone s) k d) r (let b = range_below 0 (processes s) k d l in omega (arith, b)) lr) in
      let same : held_by fewer (everyone fewer) r ≡ held_by fewer (everyone s) r = ap (λ (t : Table). held_by fewer
      (everyone (record s { claims = t })) r) less.claims in
      omega (arith, e, held, same)

  pub less_allowed : IsAllowed s p pairs → IsAllowed fewer p pairs
  less_allowed a = record {
    within_claim = λ k d u.
        let w = a.within_claim k d u in
        let l = less.less p (get_or pairs k d).resource within (below k d u) in
        let c = same_claim p (get_or pairs k d).resource in
        omega (arith, w, l, c);
    within_cash = λ k d u. let w = a.within_cash k d u in let m = more_cash (get_or pairs k d).resource (below k d u) in omega (arith, w, m);
    safe = (a.safe.0, fewer_loans_stay_safe (with_loan fewer p pairs) (with_loan s p pairs) lent_well less_lent a.safe.0 a.safe.1);
  }
    where
      lent_here : (r : ℕ) → loan (with_loan s p pairs) p r ≡ loan s p r + amount_in pairs r
      lent_here r = loan-with_loan s p pairs r good within below

      wide : length (row_of s.loans p) ≡ resources s
      wide = good.loan_width p within

      row_lent : (r : ℕ) → get_or (lend (row_of s.loans p) pairs) r 0 ≡ loan s p r + amount_in pairs r
      row_lent r = get_or-lend (row_of s.loans p) pairs r (subst (λ (n : ℕ). All (λ pair. pair.resource < n) pairs) (sym wide) below)

      lent_well : IsWellFormed (with_loan s p pairs)
      lent_well = IsWellFormed-with_row s p (lend (row_of s.loans p) pairs) good within (record {
        width = length-lend (row_of s.loans p) pairs ∙ wide;
        within_claim = λ r lr.
            let e = row_lent r in
            let m = amount_in-le pairs (λ r'. claim s p r' - loan s p r') r small.distinct (λ k d u. let w = a.within_claim k d u in omega (arith, w)) in
            let f = good.loans_fit p r within lr in
            omega (arith, e, m, f);
        within_cash = λ r lr.
            let e = row_lent r in
            let m = amount_in-le pairs (cash s) r small.distinct a.within_cash in
            omega (arith, e, m);
      })

      less_lent : HasFewerLoans (with_loan fewer p pairs) (with_loan s p pairs)
      less_lent = record {
        capital = less.capital;
        claims = less.claims;
        less = λ q r lq lr. ⊎_elim
            (λ e.
            let l = less.less p r within lr in
            let here : loan (with_loan fewer p pairs) p r ≤ loan (with_loan s p pairs) p r =
            (let x = lent_here r in
            let y = loan-with_loan fewer p pairs r well (let n = same_processes in omega (arith, n, within)) (subst (λ
            (n : ℕ). All (λ pair. pair.resource < n) pairs) (sym same_resources) below) in
            omega (arith, x, y, l)) in
            subst (λ (k : ℕ). loan (with_loan fewer p pairs) k r ≤ loan (with_loan s p pairs) k r) (sym e) here)
            (λ ne.
            let l = less.less q r lq lr in
            let x = loan-with_loan_other s p pairs q r ne in
            let y = loan-with_loan_other fewer p pairs q r ne in
            omega (arith, x, y, l))
            (same_or_not q p);
      }

-- ---- an arm that is at a request stays there while other arms step

module _ (code : ProcessCode) (ok : Checked code) (T T' : ℕ → Thread) where
  no_take : (a : ℕ) (bundle : Bundle) → ending a ≡ Takes bundle → ⊥
  no_take zero bundle e = cc
  no_take (suc a) bundle e = cc

  pub take_at : (a : ℕ) (effect : Effect) (bundle : Bundle) → Turn code ok T T' a effect → effect ≡ Takes bundle
      → (q : ℕ) × (s : List ℤ) × (T a ≡ Live q s) × InstrAt code q (Take bundle)
  take_at a effect bundle (runs q s i q' t live instr plain f now len others balance sound takes) e = (q, s, live, instr ∙ ap Some ((takes bundle).0 e))
  take_at a effect bundle (traps kind e all) g = let z : Faults kind ≡ Takes bundle = sym e ∙ g in cc
  take_at a effect bundle (forks q s first count live fork now len same launched others e l u) g = let z : Silent ≡ Takes bundle = sym e ∙ g in cc
  take_at a effect bundle (joins q s first count live join now len same dismissed others e l u) g = let z : Silent ≡ Takes bundle = sym e ∙ g in cc
  take_at a effect bundle (stops q s live instr now others e) g = elim (no_take a bundle (sym e ∙ g)) [ ]

  pub others_stay : InOrder code ok T → (a : ℕ) (effect : Effect) → Turn code ok T T' a effect → ((kind : FaultKind) → effect ≡ Faults kind → ⊥)
      → (b p : ℕ) (s : List ℤ) → b ≢ a → T b ≡ Live p s → T' b ≡ T b
  others_stay order a effect (runs q s i q' t live instr plain f now len others balance sound takes) fine b p u ne there = others b ne
  others_stay order a effect (traps kind e all) fine b p u ne there = elim (fine kind e) [ ]
  others_stay order a effect (forks q s first count live fork now len same launched others e l r) fine b p u ne there = ⊎_elim
      (λ among. let z : Idle ≡ Live p u = sym (idle_before code ok T T' order a q s first count b live fork l among) ∙ there in cc)
      (λ out. others b ne out)
      (among_or_not first count b)
  others_stay order a effect (joins q s first count live join now len same dismissed others e l r) fine b p u ne there = ⊎_elim
      (λ among. let z : Ended ≡ Live p u = sym (dismissed b among).0 ∙ there in cc)
      (λ out. others b ne out)
      (among_or_not first count b)
  others_stay order a effect (stops q s live instr now others e) fine b p u ne there = others b ne

module _ (codes : List ProcessCode) (s : State CodeProcess) (pick : Pick) (code : ProcessCode) (process : CodeProcess)
    (at : slice_get codes pick.process ≡ Some code) (here : slice_get s.processes pick.process ≡ Some process) where
  move_so : (made : CodeProcess × Effect) → step_process code process pick.arm ≡ Some made → move_of (code_step codes) s pick ≡ Some (moved s pick made)
  move_so made steps =
      ap (option_and_then (λ p. option_map (moved s pick) (code_step codes pick.process p pick.arm))) here
      ∙ (ap (λ c. option_map (moved s pick) (option_and_then (λ c. step_process c process pick.arm) c)) at ∙ ap (option_map (moved s pick)) steps)

  -- the pick asks for a bundle if its arm is at the request
  asks_at : (bundle : Bundle) (q : ℕ) (stack : List ℤ) → thread process.threads pick.arm ≡ Live q stack → InstrAt code q (Take bundle)
      → (move : Move CodeProcess) × (move_of (code_step codes) s pick ≡ Some move) × (move.effect ≡ Takes bundle)
  asks_at bundle q stack live instr =
      let after : CodeProcess = record { vars = process.vars; threads = set process.threads pick.arm (Live (q + 1) stack); faulted = process.faulted } in
      let steps : step_process code process pick.arm ≡ Some (after, Takes bundle) =
      ap (step_thread code process pick.arm) live
      ∙ ap (option_and_then (λ (i : Instr). option_and_then (apply_step code process pick.arm) (act process.vars i q stack))) instr in
      (moved s pick (after, Takes bundle), move_so (after, Takes bundle) steps, refl)

pub same_pick : (a b : Pick) → a.process ≡ b.process → a.arm ≡ b.arm → a ≡ b
same_pick a b p q = λ i. record { process = p i; arm = q i }

pub slice_set_here : {X : Type 0} (xs : List X) (i : ℕ) (x y : X) → slice_get xs i ≡ Some y → slice_get (slice_set xs i x) i ≡ Some x
slice_set_here [] i x y h = cc
slice_set_here (z ∷ xs) zero x y h = refl
slice_set_here (z ∷ xs) (suc i) x y h = slice_set_here xs i x y h

no_fault : (pick : Pick) (effect : Effect) → frees (event_of pick effect) ≡ false → (kind : FaultKind) → effect ≡ Faults kind → ⊥
no_fault pick effect h kind e = let z : true ≡ false = ap (λ x. frees (event_of pick x)) (sym e) ∙ h in cc

module _ (whole : Code) (faultless : IsFaultless whole) where
  pub refused_stops : RefusedStops whole
  refused_stops s next pick event refused moves =
      let both : Some refused.move ≡ Some (record { next = next; effect = moves.0 }) = sym refused.asks ∙ moves.1 in
      let same : refused.move ≡ record { next = next; effect = moves.0 } = cc in
      let effect : moves.0 ≡ Takes refused.bundle = sym (ap (λ (m : Move CodeProcess). m.effect) same) ∙ refused.takes in
      refused.not_allowed (subst (IsGranted (bank_of whole) s.loans pick.process) effect moves.2)

  -- no loan falls in a step that frees nothing
  loans_rise : (s : State CodeProcess) → Kept whole faultless s → (p : ℕ) → p < length whole.processes → (effect :
      Effect) (pick : Pick) → frees (event_of pick effect) ≡ false
      → ((bundle : Bundle) → effect ≡ Takes bundle → All (λ pair. pair.resource < length whole.capital) bundle)
      → HasFewerLoans (banker_state (bank_of whole) s.loans) (banker_state (bank_of whole) (loans_after s.loans p effect))
  loans_rise s kept p u Silent pick f below = record { capital = refl; claims = refl; less = λ q r lq lr. omega arith }
  loans_rise s kept p u (Prints v) pick f below = record { capital = refl; claims = refl; less = λ q r lq lr. omega arith }
  loans_rise s kept p u (Takes bundle) pick f below = record {
    capital = refl;
    claims = refl;
    less = λ q r lq lr. ⊎_elim
        (λ e.
        let bank : BankerState = banker_state (bank_of whole) s.loans in
        let rows = (faultless OutOfLimits).rows in
        let here : loan bank p r ≤ loan (with_loan bank p bundle) p r =
        (let x = loan-with_loan bank p bundle r (well_formed whole faultless s kept) (omega (arith, u, rows)) (below bundle refl) in omega (arith, x)) in
        subst (λ (k : ℕ). loan bank k r ≤ loan (with_loan bank p bundle) k r) (sym e) here)
        (λ ne. let x = loan-with_loan_other (banker_state (bank_of whole) s.loans) p bundle q r ne in omega (arith, x))
        (same_or_not q p);
  }
  loans_rise s kept p u (Returns bundle) pick f below = cc
  loans_rise s kept p u (Faults kind) pick f below = cc
  loans_rise s kept p u Finishes pick f below = record { capital = refl; claims = refl; less = λ q r lq lr. omega arith }

  pub refused_stays : RefusedStays whole
  refused_stays s next pick refused event reached moves free r =
      let move : Move CodeProcess = record { next = next; effect = moves.0 } in
      let kept = kept_reached whole faultless s reached in
      let m = code_move whole.processes s pick move moves.1 in
      let w = code_move whole.processes s refused r.move r.asks in
      let ok = checked whole faultless pick.process m.code m.at in
      let ok' = checked whole faultless refused.process w.code w.at in
      let fit = kept.good.fit pick.process m.code m.before m.at m.here in
      let fit' = kept.good.fit refused.process w.code w.before w.at w.here in
      let turn = turned m.code ok m.before m.after pick.arm m.effect fit m.steps in
      let turn' = turned w.code ok' w.before w.after refused.arm w.effect fit' w.steps in
      let effect : m.effect ≡ moves.0 = ap (λ (x : Move CodeProcess). x.effect) m.is in
      let asks : w.effect ≡ Takes r.bundle = ap (λ (x : Move CodeProcess). x.effect) w.is ∙ r.takes in
      let quiet : frees (event_of pick m.effect) ≡ false = ap (λ (x : Effect). frees (event_of pick x)) effect ∙ (ap frees moves.3 ∙ free) in
      let stands = take_at w.code ok' (thread w.before.threads) (thread w.after.threads) refused.arm w.effect r.bundle turn'.turn asks in
      let processes : next.processes ≡ slice_set s.processes pick.process m.after = sym (ap (λ (x : Move CodeProcess). x.next.processes) m.is) in
      let loans : loans_after s.loans pick.process m.effect ≡ next.loans = ap (λ (x : Move CodeProcess). x.next.loans) m.is in
      let there = slice_get_within whole.processes pick.process m.code m.at in
      let there' = slice_get_within whole.processes refused.process w.code w.at in
      let rows = (faultless OutOfLimits).rows in
      let bundle = bundles_small whole faultless refused.process w.code w.at (thread w.before.threads) (thread
      w.after.threads) refused.arm w.effect turn'.turn r.bundle (inl asks) in
      let rise = subst (λ (t : Table). HasFewerLoans (banker_state (bank_of whole) s.loans) (banker_state (bank_of whole) t)) loans
      (loans_rise s kept pick.process there m.effect pick quiet (λ b e.
      (bundles_small whole faultless pick.process m.code m.at (thread m.before.threads) (thread m.after.threads) pick.arm m.effect turn.turn b (inl e)).1)) in
      let kept' = kept_next whole faultless s pick move kept m moves.2 in
      let still : (move : Move CodeProcess) × (move_of (code_step whole.processes) next refused ≡ Some move) × (move.effect ≡ Takes r.bundle) = ⊎_elim
      (λ e. ⊎_elim
      (λ a. elim (refused_stops s next pick event (subst (IsDenied whole s) (same_pick refused pick e a) r) moves) [ ])
      (λ ne.
      let same_code : w.code ≡ m.code = (let both : Some w.code ≡ Some m.code = sym w.at ∙ (ap (slice_get whole.processes) e ∙ m.at) in cc) in
      let same_before : w.before ≡ m.before = (let both : Some w.before ≡ Some m.before = sym w.here ∙ (ap (slice_get s.processes) e ∙ m.here) in cc) in
      let live : thread m.before.threads refused.arm ≡ Live stands.0 stands.1 = ap (λ (x : CodeProcess). thread
      x.threads refused.arm) (sym same_before) ∙ stands.2 in
      let stays = others_stay m.code ok (thread m.before.threads) (thread m.after.threads) fit.order pick.arm m.effect
      turn.turn (no_fault pick m.effect quiet) refused.arm stands.0 stands.1 ne live in
      asks_at whole.processes next refused m.code m.after (ap (slice_get whole.processes) e ∙ m.at)
      (ap (λ (x : List CodeProcess). slice_get x refused.process) processes ∙ (ap (slice_get (slice_set s.processes
      pick.process m.after)) e ∙ slice_set_here s.processes pick.process m.after m.before m.here))
      r.bundle stands.0 stands.1 (stays ∙ live) (subst (λ (c : ProcessCode). InstrAt c stands.0 (Take r.bundle)) same_code stands.3))
      (same_or_not refused.arm pick.arm))
      (λ ne.
      asks_at whole.processes next refused w.code w.before w.at
      (ap (λ (x : List CodeProcess). slice_get x refused.process) processes ∙ (slice_set_other s.processes pick.process refused.process m.after ne ∙ w.here))
      r.bundle stands.0 stands.1 stands.2 stands.3)
      (same_or_not refused.process pick.process) in
      record {
        move = still.0;
        bundle = r.bundle;
        asks = still.1;
        takes = still.2;
        not_allowed = λ allowed. r.not_allowed (less_allowed (banker_state (bank_of whole) s.loans) (banker_state (bank_of whole) next.loans)
            (well_formed whole faultless next kept') (well_formed whole faultless s kept) rise refused.process (omega
            (arith, there', rows)) r.bundle bundle.0 bundle.1 allowed);
      }
