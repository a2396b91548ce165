-- What picks lead to under either lending: states in which no test fails and the loans are within the capital; and
-- each process is as it can be under the banker.
use Rattle.std.proofs.Common.{◌≡◌, ◌⊎◌, inl, inr, ⊎_elim, ℕ, ◌+◌, ◌-◌, ◌<◌, ◌≤◌, List, [], ◌∷◌, ◌++◌, length}
use Rattle.std.proofs.Common.{get_or, map, set, Some, refl, sym, ap, ◌∙◌, subst, arith}
use Rattle.std.specs.Prelude.{slice_get, All}
use Rattle.std.proofs.lemmas.Bool.{cases_eq}
use Rattle.std.proofs.lemmas.List.{length-map}
use Rattle.std.proofs.lemmas.List.FromFn.{get_or-range_with_len, length-range_with_len}
use Rattle.std.proofs.lemmas.List.Elements.{All-cons}
use Rattle.std.proofs.lemmas.List.Sorted.{IsPermutation-sym, All-permutation}
use Rattle.std.proofs.lemmas.Option.{slice_get_within}
use Rattle.std.proofs.Math.ListN.{get_or-map}
use Rattle.pb_base.specs.declared.event.Event.{Event}
use Rattle.pb_base.specs.declared.lending.Lending.{Lending}
use Rattle.pb_base.specs.declared.lending.Lending.TheVariants.{ByBanker, ByCash}
use Rattle.pb_base.specs.declared.pick.Pick.{Pick}
use Rattle.pb_base.specs.Banker.{BankerState, everyone, cash, cell, row_of, Finishes, IsAllowed, IsWellFormed}
use Rattle.pb_base.specs.Banker.{IsWithinCash, IsWithinClaim}
use Rattle.pb_base.specs.Bundle.{amount_in, lend, give_back}
use Rattle.pb_base.specs.Steppers.{Bundle, Table, Effect, Silent, Prints, Takes, Returns, Faults, Finishes as Ends}
use Rattle.pb_base.specs.Steppers.{State, Move, Makes, IsGranted, banker_state, event_of, loans_after, move_of, moved}
use Rattle.pb_base.proofs.BankerLaws.{first_borrower_may_ask}
use Rattle.pb_base.proofs.LoanRows.{amount_in-le, get_or-give_back, get_or-lend, length-give_back, length-lend}
use Rattle.pb_base.proofs.Rows.{IsWellFormed-with_row}
use Rattle.pb_code.specs.Code.{CodeProcess, code_process, code_step, thread}
use Rattle.pb_code.specs.Reached.{CodeReaches, CodeReachesBy}
use Rattle.pb_code.specs.Whole.{Code, bank_by, bank_of, code_opening}
use Rattle.pb_verifier.specs.Limits.{IsSmallBundle}
use Rattle.pb_verifier.specs.Verified.{IsFaultless}
use Rattle.pb_verifier.specs.declared.fault.VerifyFault.TheVariants.{OutOfLimits}
use Rattle.pb_verifier.proofs.LoansWithinClaims.{Kept, asks_within_claims, kept_reached, well_formed, zero_loans}
use Rattle.pb_verifier.proofs.SoundBehaviour.{behaved}
use Rattle.pb_verifier.proofs.States.{CodeMove, Good, bundles_small, checked, code_move, good_next, good_start}
use Rattle.pb_verifier.proofs.States.{lent_there, passes_tests, slice_set_other}
use Rattle.pb_verifier.proofs.ThreadTurns.{turned}
use Rattle.pb_machine.specs.Going.{ProcessesAreAsUnderBanker, VerifiedCodeIsSound}
use Rattle.pb_machine.proofs.OneMorePick.{move_is, reaches_on, slice_get-set_same}

-- ---- one process alone under the banker

-- all others hold nothing
abbrev HoldsAlone : ℕ → Table → Type 0
HoldsAlone p loans = (q r : ℕ) → (q ≡ p → ⊥) → cell loans q r ≡ 0

-- a list up to the first p in it
record Cut (p : ℕ) (order : List ℕ) : Type 0 where
  before : List ℕ
  after : List ℕ
  split : order ≡ before ++ p ∷ after
  others : All (λ q. q ≡ p → ⊥) before

cut : (p : ℕ) (order : List ℕ) → Cut p order ⊎ All (λ q. q ≡ p → ⊥) order
cut p [] = inr (λ k d u. absurd (omega arith))
cut p (q ∷ order) = at (cases_eq q p) (cut p order)
  where
    at : (q ≡ p) ⊎ (q ≡ p → ⊥) → Cut p order ⊎ All (λ q. q ≡ p → ⊥) order → Cut p (q ∷ order) ⊎ All (λ q. q ≡ p → ⊥) (q ∷ order)
    at (inl e) rest = inl (record { before = []; after = order; split = ap (λ x. x ∷ order) e; others = λ k d u. absurd (omega arith) })
    at (inr ne) (inl c) = inl (record {
      before = q ∷ c.before;
      after = c.after;
      split = ap (λ xs. q ∷ xs) c.split;
      others = All-cons (λ q. q ≡ p → ⊥) q c.before ne c.others;
    })
    at (inr ne) (inr all) = inr (All-cons (λ q. q ≡ p → ⊥) q order ne all)

module _ (code : Code) (faultless : IsFaultless code) where
  abbrev bank_at : Table → BankerState
  bank_at loans = banker_state (bank_of code) loans

  -- what a move asks for or gives back is a small bundle of resources that are there
  small : (s : State CodeProcess) (pick : Pick) (move : Move CodeProcess) → Good code faultless s
      → (m : CodeMove code.processes s pick move) → (bundle : Bundle) → (m.effect ≡ Takes bundle) ⊎ (m.effect ≡ Returns bundle)
      → IsSmallBundle bundle × All (λ pair. pair.resource < length code.capital) bundle
  small s pick move good m =
      let fit = good.fit pick.process m.code m.before m.at m.here in
      let turn = turned m.code (checked code faultless pick.process m.code m.at) m.before m.after pick.arm m.effect fit m.steps in
      bundles_small code faultless pick.process m.code m.at (thread m.before.threads) (thread m.after.threads) pick.arm m.effect turn.turn

  module _ (s : State CodeProcess) (kept : Kept code faultless s) (p : ℕ) (alone : HoldsAlone p s.loans) (within : p < length code.processes) where
    order_cut : Cut p kept.safe.0
    order_cut = ⊎_elim (λ c. c) (λ none. absurd (nowhere none)) (cut p kept.safe.0)
      where
        nowhere : All (λ q. q ≡ p → ⊥) kept.safe.0 → ⊥
        nowhere none =
            let rows = (faultless OutOfLimits).rows in
            let w : p < length code.claims = omega (arith, within, rows) in
            let everywhere =
            All-permutation (λ q. q ≡ p → ⊥) kept.safe.0 (everyone (bank_at s.loans))
            (IsPermutation-sym (everyone (bank_at s.loans)) kept.safe.0 kept.safe.1.everyone) none in
            let is_p : get_or (everyone (bank_at s.loans)) p 0 ≡ p = (let r = get_or-range_with_len 0
            (length code.claims) p 0 w in let z : 0 + p ≡ p = omega arith in r ∙ z) in
            everywhere p 0 (let l = length-range_with_len 0 (length code.claims) in omega (arith, w, l)) is_p

    -- it may have whatever it asks for
    lone_takes : (pick : Pick) (move : Move CodeProcess) (bundle : Bundle) → pick.process ≡ p → move_of (code_step code.processes) s pick ≡ Some move
        → move.effect ≡ Takes bundle → IsAllowed (bank_at s.loans) pick.process bundle
    lone_takes pick move bundle same enabled takes =
        let m = code_move code.processes s pick move enabled in
        let effect : m.effect ≡ Takes bundle = ap (λ (x : Move CodeProcess). x.effect) m.is ∙ takes in
        let few = small s pick move kept.good m bundle (inl effect) in
        let c = order_cut in
        let finishes : Finishes (bank_at s.loans) (c.before ++ p ∷ c.after) = subst (Finishes (bank_at s.loans)) c.split kept.safe.1 in
        let asks = asks_within_claims code faultless s kept.good pick move bundle enabled takes in
        subst (λ (q : ℕ). IsAllowed (bank_at s.loans) q bundle) (sym same)
        (first_borrower_may_ask (bank_at s.loans) (well_formed code faultless s kept) c.before p c.after finishes
        (λ k d u r v. alone (get_or c.before k d) r (c.others k d u))
        bundle few.0.distinct few.1 (subst (λ (q : ℕ). All (λ pair. cell s.loans q pair.resource + pair.amount ≤ cell code.claims q pair.resource)
        bundle) same asks))

    lone_leave : (pick : Pick) (move : Move CodeProcess) (effect : Effect) → move.effect ≡ effect → pick.process ≡ p
        → move_of (code_step code.processes) s pick ≡ Some move → IsGranted (bank_of code) s.loans pick.process effect
    lone_leave pick move Silent is same enabled = tt
    lone_leave pick move (Prints v) is same enabled = tt
    lone_leave pick move (Takes bundle) is same enabled = lone_takes pick move bundle same enabled is
    lone_leave pick move (Returns bundle) is same enabled = tt
    lone_leave pick move (Faults kind) is same enabled = tt
    lone_leave pick move Ends is same enabled = tt

  -- a state under the banker with the same process, and only that one with loans
  record Lone (s : State CodeProcess) (p : ℕ) : Type 0 where
    all : State CodeProcess
    reached : CodeReaches code all
    same : slice_get all.processes p ≡ slice_get s.processes p
    alone : HoldsAlone p all.loans

  lone_next : (p : ℕ) (s : State CodeProcess) (pick : Pick) (move : Move CodeProcess) → CodeMove code.processes s pick move
      → Lone s p → Lone move.next p
  lone_next p s pick move m lone = at (cases_eq pick.process p)
    where
      at : (pick.process ≡ p) ⊎ (pick.process ≡ p → ⊥) → Lone move.next p
      at (inr ne) = record {
        all = lone.all;
        reached = lone.reached;
        same =
            lone.same
            ∙ (sym (slice_set_other s.processes pick.process p m.after (λ e. ne (sym e)))
            ∙ ap (λ (x : Move CodeProcess). slice_get x.next.processes p) m.is);
        alone = lone.alone;
      }
      at (inl e) =
          let there : slice_get lone.all.processes pick.process ≡ Some m.before =
          ap (slice_get lone.all.processes) e ∙ (lone.same ∙ (ap (slice_get s.processes) (sym e) ∙ m.here)) in
          let made : Move CodeProcess = moved lone.all pick (m.after, m.effect) in
          let enabled : move_of (code_step code.processes) lone.all pick ≡ Some made =
          move_is code.processes lone.all pick m.before m.code (Some (m.after, m.effect)) there m.at m.steps in
          let kept = kept_reached code faultless lone.all lone.reached in
          let n = kept.good.count in
          let u = slice_get_within lone.all.processes pick.process m.before there in
          let leave = lone_leave lone.all kept p lone.alone (omega (arith, n, u, e)) pick made m.effect refl e enabled in
          record {
            all = made.next;
            reached = reaches_on ByBanker code lone.all made.next pick (event_of pick m.effect) lone.reached (m.effect, enabled, leave, refl);
            same =
                subst (λ (k : ℕ). slice_get (set lone.all.processes pick.process m.after) k ≡ slice_get move.next.processes k) e
                (slice_get-set_same lone.all.processes pick.process m.after m.before there
                ∙ (sym (slice_get-set_same s.processes pick.process m.after m.before m.here)
                ∙ ap (λ (x : Move CodeProcess). slice_get x.next.processes pick.process) m.is));
            alone = λ q r ne.
                lent_there lone.all.loans pick.process q m.effect r (λ x. ne (x ∙ e)) ∙ lone.alone q r ne;
          }

  lone_makes : (lending : Lending) (p : ℕ) (picks : List Pick) (s end : State CodeProcess) (events : List Event) → Lone s p
      → Makes (bank_by lending code) (code_step code.processes) s picks events end → Lone end p
  lone_makes lending p [] s end events lone made = subst (λ (x : State CodeProcess). Lone x p) (sym made.1) lone
  lone_makes lending p (pick ∷ picks) s end events lone made =
      lone_makes lending p picks made.0.next end made.3 (lone_next p s pick made.0 (code_move code.processes s pick made.0 made.1) lone) made.5

  lone_start : (p : ℕ) → Lone (code_opening code) p
  lone_start p = record {
    all = code_opening code;
    reached = ([], [], (refl, refl));
    same = refl;
    alone = λ q r ne. zero_loans (length code.capital) (map code_process code.processes) q r;
  }

  -- ---- the processes fit their code, and the loans are within the capital

  record Sound (s : State CodeProcess) : Type 0 where
    good : Good code faultless s
    bank : IsWellFormed (bank_at s.loans)

  -- either lender has the cash
  covered : (lending : Lending) (loans : Table) (p : ℕ) (bundle : Bundle) → IsGranted (bank_by lending code) loans p (Takes bundle)
      → IsWithinCash (bank_at loans) bundle
  covered ByBanker loans p bundle granted = granted.within_cash
  covered ByCash loans p bundle granted = granted

  module _ (s : State CodeProcess) (sound : Sound s) (p : ℕ) (there : p < length code.processes) where
    within : p < length code.claims
    within = let rows = (faultless OutOfLimits).rows in omega (arith, there, rows)

    wide : length (row_of s.loans p) ≡ length code.capital
    wide = sound.good.rows p there

    -- a row with no more than there was
    fewer : (row : List ℕ) → length row ≡ length code.capital → ((r : ℕ) → r < length code.capital → get_or row r 0 ≤ cell s.loans p r)
        → IsWellFormed (bank_at (set s.loans p row))
    fewer row width less = IsWellFormed-with_row (bank_at s.loans) p row sound.bank within (record {
      width = width;
      within_claim = λ r u. let a = less r u in let b = sound.bank.loans_fit p r within u in omega (arith, a, b);
      within_cash = λ r u. let a = less r u in omega (arith, a);
    })

    banked : (lending : Lending) (effect : Effect) → IsGranted (bank_by lending code) s.loans p effect
        → ((bundle : Bundle) → effect ≡ Takes bundle → IsWithinClaim (bank_at s.loans) p bundle)
        → ((bundle : Bundle) → (effect ≡ Takes bundle) ⊎ (effect ≡ Returns bundle) → IsSmallBundle bundle × All (λ pair.
        pair.resource < length code.capital) bundle)
        → IsWellFormed (bank_at (loans_after s.loans p effect))
    banked lending Silent granted asks bundles = sound.bank
    banked lending (Prints v) granted asks bundles = sound.bank
    banked lending (Takes bundle) granted asks bundles =
        let b = bundles bundle (inl refl) in
        let row = row_of s.loans p in
        let below = subst (λ k. All (λ pair. pair.resource < k) bundle) (sym wide) b.1 in
        let claims = asks bundle refl in
        let cashes = covered lending s.loans p bundle granted in
        IsWellFormed-with_row (bank_at s.loans) p (lend row bundle) sound.bank within (record {
          width = length-lend row bundle ∙ wide;
          within_claim = λ r u.
              let h : get_or (lend row bundle) r 0 ≡ cell s.loans p r + amount_in bundle r = get_or-lend row bundle r below in
              let fit = sound.bank.loans_fit p r within u in
              let a = amount_in-le bundle (λ q. cell code.claims p q - cell s.loans p q) r b.0.distinct
              (λ k d x. let c = claims k d x in omega (arith, c)) in
              omega (arith, h, fit, a);
          within_cash = λ r u.
              let h : get_or (lend row bundle) r 0 ≡ cell s.loans p r + amount_in bundle r = get_or-lend row bundle r below in
              let a = amount_in-le bundle (cash (bank_at s.loans)) r b.0.distinct cashes in
              omega (arith, h, a);
        })
    banked lending (Returns bundle) granted asks bundles =
        let b = bundles bundle (inr refl) in
        let row = row_of s.loans p in
        fewer (give_back row bundle) (length-give_back row bundle ∙ wide)
        (λ r u. let h = get_or-give_back row bundle r (subst (λ k. All (λ pair. pair.resource < k) bundle) (sym wide) b.1) in omega (arith, h))
    banked lending (Faults kind) granted asks bundles =
        let row = row_of s.loans p in
        let none : ℕ → ℕ = λ _. 0 in
        fewer (map none row) (length-map row none ∙ wide)
        (λ r u. let e : get_or (map none row) r 0 ≡ 0 = get_or-map none row r 0 in omega (arith, e))
    banked lending Ends granted asks bundles = sound.bank

  sound_next : (lending : Lending) (s : State CodeProcess) (pick : Pick) (move : Move CodeProcess) → Sound s
      → move_of (code_step code.processes) s pick ≡ Some move → IsGranted (bank_by lending code) s.loans pick.process move.effect
      → Sound move.next
  sound_next lending s pick move sound enabled granted =
      let m = code_move code.processes s pick move enabled in
      let effect : m.effect ≡ move.effect = ap (λ (x : Move CodeProcess). x.effect) m.is in
      record {
        good = good_next code faultless s pick move sound.good m;
        bank = subst (λ (x : Move CodeProcess). IsWellFormed (bank_at x.next.loans)) m.is
            (banked s sound pick.process (slice_get_within code.processes pick.process m.code m.at) lending m.effect
            (subst (IsGranted (bank_by lending code) s.loans pick.process) (sym effect) granted)
            (λ bundle takes. asks_within_claims code faultless s sound.good pick move bundle enabled (sym effect ∙ takes))
            (small s pick move sound.good m));
      }

  sound_makes : (lending : Lending) (picks : List Pick) (s end : State CodeProcess) (events : List Event) → Sound s
      → Makes (bank_by lending code) (code_step code.processes) s picks events end → Sound end
  sound_makes lending [] s end events sound made = subst Sound (sym made.1) sound
  sound_makes lending (pick ∷ picks) s end events sound made =
      sound_makes lending picks made.0.next end made.3 (sound_next lending s pick made.0 sound made.1 made.2) made.5

  sound_reached : (lending : Lending) (s : State CodeProcess) → CodeReachesBy lending code s → Sound s
  sound_reached lending s reached =
      sound_makes lending reached.0 (code_opening code) s reached.1 (record {
        good = good_start code faultless;
        bank = (behaved code faultless).well_formed (code_opening code) ([], [], (refl, refl));
      }) reached.2

  -- the processes of a state that is reached fit their code
  pub good_reached : (lending : Lending) (s : State CodeProcess) → CodeReachesBy lending code s → Good code faultless s
  good_reached lending s reached = (sound_reached lending s reached).good

pub code_is_sound : VerifiedCodeIsSound
code_is_sound lending v verified s reached =
    let sound = sound_reached v.code verified.faultless lending s reached in
    record {
      passes_tests = passes_tests v.code verified.faultless s sound.good;
      asks_within = asks_within_claims v.code verified.faultless s sound.good;
      well_formed = sound.bank;
    }

pub as_under_banker : ProcessesAreAsUnderBanker
as_under_banker lending v verified s reached p process there =
    let lone = lone_makes v.code verified.faultless lending p reached.0 (code_opening v.code) s reached.1
    (lone_start v.code verified.faultless p) reached.2 in
    (lone.all, lone.reached, lone.same ∙ there)
