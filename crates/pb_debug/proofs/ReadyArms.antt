-- Of which arms a pick is enabled.
use Rattle.std.proofs.Common.{◌≡◌, ◌⊎◌, inl, inr, ℕ, ◌+◌, ◌≤◌, ℤ, List, arith, Option, Some, None, option_map, option_and_then, refl, sym, ap, ◌∙◌, subst}
use Rattle.std.specs.Prelude.{slice_get}
use Rattle.pb_base.proofs.Lists.{all_at}
use Rattle.pb_base.specs.Banker.{BankerState, IsWithinCash, cash}
use Rattle.pb_base.specs.declared.lending.Lending.{Lending}
use Rattle.pb_base.specs.declared.lending.Lending.TheVariants.{ByBanker, ByCash}
use Rattle.pb_base.specs.Steppers.{Bundle, Effect, Silent, Prints, Takes, Returns, Faults, Finishes, IsGranted, IsLent, Move, State}
use Rattle.pb_base.specs.Steppers.{event_of, move_of, moved}
use Rattle.pb_code.specs.Code.{CodeProcess, Ended, Idle, Live, ProcessCode, Take, Thread, code_step, thread}
use Rattle.pb_code.specs.Whole.{Code, bank_by}
use Rattle.pb_machine.specs.Looks.{CanStep, IsLiveArm, look_of}
use Rattle.pb_machine.specs.Turns.{with_thread}
use Rattle.pb_machine.specs.Views.{state_of_thread}
use Rattle.pb_machine.specs.declared.look.Look.TheVariants as look
use Rattle.pb_machine.specs.declared.thread.ThreadState.TheVariants as standing
use Rattle.pb_machine.proofs.EitherLending.{good_reached}
use Rattle.pb_machine.proofs.InstructionSteps.{take_step}
use Rattle.pb_machine.proofs.OneMorePick.{move_is}
use Rattle.pb_verifier.proofs.Requests.{take_at}
use Rattle.pb_verifier.proofs.States.{checked, code_move}
use Rattle.pb_verifier.proofs.ThreadTurns.{turned}
use Rattle.pb_debug.specs.Arms.{CanBePicked, pick_of}
use Rattle.pb_debug.specs.Value.{Debugging, IsPosition, bank_state, state_of}
use Rattle.pb_debug.specs.Whys.{Asks, IsWhy}
use Rattle.pb_debug_texts.specs.Reasons.{IsFirstOverCash, IsReasonBy, LetsGoOn}
use Rattle.pb_debug_texts.specs.declared.why.Why.{Why}
use Rattle.pb_debug_texts.specs.declared.why.Why.TheVariants.{NotAsking, Cash, Order, Rest, Granted}
use Rattle.pb_debug.proofs.Positions.{reached}

-- with no move the arm stays
no_step : (s : State CodeProcess) (p a : ℕ) (o : Option (CodeProcess × Effect)) → option_map (moved s (pick_of p a)) o ≡ None
    → look_of o ≡ look.Stays
no_step s p a None h = refl
no_step s p a (Some made) h = cc

no_move : (code : Code) (s : State CodeProcess) (p a : ℕ) (o : Option CodeProcess)
    → option_and_then (λ process. option_map (moved s (pick_of p a)) (code_step code.processes p process a)) o ≡ None
    → look_of (option_and_then (λ process. code_step code.processes p process a) o) ≡ look.Stays
no_move code s p a None h = refl
no_move code s p a (Some process) h = no_step s p a (code_step code.processes p process a) h

module _ (d : Debugging) (h : IsPosition d) (p a : ℕ) where
  -- what an arm asks for of which a pick is enabled is lent
  pub picked_lent : CanBePicked d p a → (bundle : Bundle) → Asks d p a bundle → IsLent d.lending (bank_state d) p bundle
  picked_lent (event, next, made) bundle asks =
      let after = with_thread asks.process a (Live (asks.stands.place + 1) asks.stands.stack) in
      let taken : move_of (code_step d.verified.code.processes) (state_of d) (pick_of p a) ≡ Some (moved (state_of d) (pick_of p a) (after, Takes bundle)) =
      move_is d.verified.code.processes (state_of d) (pick_of p a) asks.process asks.of (Some (after, Takes bundle)) asks.there asks.code_there
      (take_step asks.of asks.process a bundle after asks.stands refl) in
      let move : Move CodeProcess = record { next = next; effect = made.0 } in
      let both : Some move ≡ Some (moved (state_of d) (pick_of p a) (after, Takes bundle)) = sym made.1 ∙ taken in
      let same : move ≡ moved (state_of d) (pick_of p a) (after, Takes bundle) = cc in
      subst (IsGranted (bank_by d.lending d.verified.code) (state_of d).loans p) (ap (λ (x : Move CodeProcess). x.effect) same) made.2

  -- what takes is at a request
  asks_so : (move : Move CodeProcess) → move_of (code_step d.verified.code.processes) (state_of d) (pick_of p a) ≡ Some move
      → (bundle : Bundle) → move.effect ≡ Takes bundle → Asks d p a bundle
  asks_so move moves bundle takes =
      let m = code_move d.verified.code.processes (state_of d) (pick_of p a) move moves in
      let ok = checked d.verified.code h.verified.faultless p m.code m.at in
      let fit = (good_reached d.verified.code h.verified.faultless d.lending (state_of d) (reached d h)).fit p m.code m.before m.at m.here in
      let effect : m.effect ≡ Takes bundle = ap (λ (x : Move CodeProcess). x.effect) m.is ∙ takes in
      let at = take_at m.code ok (thread m.before.threads) (thread m.after.threads) a m.effect bundle
      (turned m.code ok m.before m.after a m.effect fit m.steps).turn effect in
      record {
        of = m.code;
        process = m.before;
        code_there = m.at;
        there = m.here;
        stands = record { place = at.0; stack = at.1; live = at.2; there = at.3 };
      }

  granted_so : (effect : Effect) → ((bundle : Bundle) → effect ≡ Takes bundle → IsLent d.lending (bank_state d) p bundle)
      → IsGranted (bank_by d.lending d.verified.code) (state_of d).loans p effect
  granted_so Silent lent = tt
  granted_so (Prints v) lent = tt
  granted_so (Takes bundle) lent = lent bundle refl
  granted_so (Returns bundle) lent = tt
  granted_so (Faults kind) lent = tt
  granted_so Finishes lent = tt

  -- an arm that can step, and whose request is lent if it is at one, can be picked
  pub lent_picked : CanStep d.verified.code (state_of d) (pick_of p a)
      → ((bundle : Bundle) → Asks d p a bundle → IsLent d.lending (bank_state d) p bundle) → CanBePicked d p a
  lent_picked steps lent = go (move_of (code_step d.verified.code.processes) (state_of d) (pick_of p a)) refl
    where
      go : (o : Option (Move CodeProcess)) → move_of (code_step d.verified.code.processes) (state_of d) (pick_of p a) ≡ o → CanBePicked d p a
      go None none = absurd (steps (no_move d.verified.code (state_of d) p a (slice_get (state_of d).processes p) none))
      go (Some move) moves = (
        event_of (pick_of p a) move.effect,
        move.next,
        (move.effect, moves, granted_so move.effect (λ bundle takes. lent bundle (asks_so move moves bundle takes)), refl),
      )

-- ---- what a reason says

over_cash : (s : BankerState) (bundle : Bundle) (resource amount : ℕ) → IsFirstOverCash s bundle resource amount → IsWithinCash s bundle → ⊥
over_cash s bundle resource amount first within =
    let fits : first.pair.amount ≤ cash s first.pair.resource =
    all_at (λ pair. pair.amount ≤ cash s pair.resource) bundle first.place first.pair within first.there in
    let over = first.over in
    omega (arith, fits, over)

lets_lent : (lending : Lending) (s : BankerState) (p : ℕ) (bundle : Bundle) (why : Why) → IsReasonBy lending s p bundle why → LetsGoOn why
    → IsLent lending s p bundle
lets_lent lending s p bundle NotAsking reason lets = elim lets [ ]
lets_lent lending s p bundle (Cash resource amount) reason lets = elim lets [ ]
lets_lent ByBanker s p bundle (Order order) reason lets = reason.0
lets_lent ByCash s p bundle (Order order) reason lets = elim reason [ ]
lets_lent lending s p bundle (Rest rest) reason lets = elim lets [ ]
lets_lent ByBanker s p bundle Granted reason lets = elim reason [ ]
lets_lent ByCash s p bundle Granted reason lets = reason

lent_lets : (lending : Lending) (s : BankerState) (p : ℕ) (bundle : Bundle) (why : Why) → IsReasonBy lending s p bundle why
    → IsLent lending s p bundle → LetsGoOn why
lent_lets ByBanker s p bundle NotAsking reason lent = elim reason [ ]
lent_lets ByCash s p bundle NotAsking reason lent = elim reason [ ]
lent_lets ByBanker s p bundle (Cash resource amount) reason lent = elim (over_cash s bundle resource amount reason lent.within_cash) [ ]
lent_lets ByCash s p bundle (Cash resource amount) reason lent = elim (over_cash s bundle resource amount reason lent) [ ]
lent_lets lending s p bundle (Order order) reason lent = tt
lent_lets ByBanker s p bundle (Rest rest) reason lent = elim (reason.1 lent) [ ]
lent_lets ByCash s p bundle (Rest rest) reason lent = elim reason [ ]
lent_lets lending s p bundle Granted reason lent = tt

-- an arm asks for one bundle
one_asked : (d : Debugging) (p a : ℕ) (one two : Bundle) → Asks d p a one → Asks d p a two → one ≡ two
one_asked d p a one two first second =
    let codes : Some first.of ≡ Some second.of = sym first.code_there ∙ second.code_there in
    let states : Some first.process ≡ Some second.process = sym first.there ∙ second.there in
    let code : first.of ≡ second.of = cc in
    let process : first.process ≡ second.process = cc in
    let lives : Live first.stands.place first.stands.stack ≡ Live second.stands.place second.stands.stack =
    sym first.stands.live ∙ (ap (λ (q : CodeProcess). thread q.threads a) process ∙ second.stands.live) in
    let place : first.stands.place ≡ second.stands.place = cc in
    let takes : Some (Take one) ≡ Some (Take two) =
    sym first.stands.there
    ∙ (ap (λ (c : ProcessCode). slice_get c.instrs first.stands.place) code
    ∙ (ap (slice_get second.of.instrs) place ∙ second.stands.there)) in
    cc

-- an arm that asks for nothing, or may have it, is one whose request is lent if it has one
pub goes_lent : (d : Debugging) (p a : ℕ) (why : Why) → IsWhy d p a why → (why ≡ NotAsking) ⊎ LetsGoOn why
    → (bundle : Bundle) → Asks d p a bundle → IsLent d.lending (bank_state d) p bundle
goes_lent d p a NotAsking is goes bundle asks = elim (is bundle asks) [ ]
goes_lent d p a (Cash resource amount) is (inl e) bundle asks = let z : Cash resource amount ≡ NotAsking = e in cc
goes_lent d p a (Cash resource amount) is (inr lets) bundle asks = elim lets [ ]
goes_lent d p a (Order order) is goes bundle asks =
    subst (IsLent d.lending (bank_state d) p) (one_asked d p a is.0 bundle is.1 asks)
    (lets_lent d.lending (bank_state d) p is.0 (Order order) is.2 tt)
goes_lent d p a (Rest rest) is (inl e) bundle asks = let z : Rest rest ≡ NotAsking = e in cc
goes_lent d p a (Rest rest) is (inr lets) bundle asks = elim lets [ ]
goes_lent d p a Granted is goes bundle asks =
    subst (IsLent d.lending (bank_state d) p) (one_asked d p a is.0 bundle is.1 asks)
    (lets_lent d.lending (bank_state d) p is.0 Granted is.2 tt)

pub lent_goes : (d : Debugging) (p a : ℕ) (why : Why) → IsWhy d p a why
    → ((bundle : Bundle) → Asks d p a bundle → IsLent d.lending (bank_state d) p bundle) → (why ≡ NotAsking) ⊎ LetsGoOn why
lent_goes d p a NotAsking is lent = inl refl
lent_goes d p a (Cash resource amount) is lent =
    inr (lent_lets d.lending (bank_state d) p is.0 (Cash resource amount) is.2 (lent is.0 is.1))
lent_goes d p a (Order order) is lent = inr tt
lent_goes d p a (Rest rest) is lent = inr (lent_lets d.lending (bank_state d) p is.0 (Rest rest) is.2 (lent is.0 is.1))
lent_goes d p a Granted is lent = inr tt

-- ---- what is live

live_at : (t : Thread) → state_of_thread t ≡ standing.Live → (place : ℕ) × (stack : List ℤ) × (t ≡ Live place stack)
live_at Idle h = cc
live_at (Live place stack) h = (place, stack, refl)
live_at Ended h = cc

module _ (d : Debugging) (p a : ℕ) (process : CodeProcess) (t : Thread) (there : slice_get (state_of d).processes p ≡ Some process)
    (at : t ≡ thread process.threads a) where
  pub live_arm : state_of_thread t ≡ standing.Live → IsLiveArm (state_of d) (pick_of p a)
  live_arm h =
      let live = live_at t h in
      record { process = process; there = there; live = (live.0, live.1, sym at ∙ live.2) }

  pub arm_lives : IsLiveArm (state_of d) (pick_of p a) → state_of_thread t ≡ standing.Live
  arm_lives live =
      let both : Some live.process ≡ Some process = sym live.there ∙ there in
      let same : live.process ≡ process = cc in
      let is : thread live.process.threads a ≡ Live live.live.0 live.live.1 = live.live.2 in
      ap state_of_thread (at ∙ (ap (λ (q : CodeProcess). thread q.threads a) (sym same) ∙ is))
