-- Searches along the picks.
use Rattle.std.proofs.Common.{◌≡◌, ◌↔◌, ◌⊎◌, inl, inr, Bool, true, false, ℤ, ℕ, ◌+◌, List, Option, Some, None, sym, ap, ◌∙◌, subst}
use Rattle.std.proofs.Common.{slice_get, IsTrue}
use Rattle.pb_base.specs.declared.event.Event.{Event}
use Rattle.pb_base.specs.declared.lending.Lending.{Lending}
use Rattle.pb_base.specs.declared.pick.Pick.{Pick}
use Rattle.pb_base.specs.declared.step.Step.{Step}
use Rattle.pb_base.specs.declared.step.Step.TheVariants.{NotEnabled, Silent}
use Rattle.pb_base.specs.Steppers.{Move, State, event_of, move_of}
use Rattle.pb_code.specs.Code.{CodeProcess, code_step}
use Rattle.pb_code.specs.Whole.{Code, ProcessLabels}
use Rattle.pb_history.specs.Positions.{IsAfterBy, state_after}
use Rattle.pb_machine.specs.Views.{machine_view}
use Rattle.pb_machine.specs.declared.machine.Machine.{Machine}
use Rattle.pb_debug_positions.specs.Searches.{LeadsOn, Shows, StepsAt, arm_line_at, faulted_at, faulted_in, line_in, value_at, value_in}
use Rattle.pb_verifier.specs.Verified.{VerifiedCode}

-- ---- events

one_effect : (m m' : Move CodeProcess) → Some m ≡ Some m' → m.effect ≡ m'.effect
one_effect m m' both = let same : m ≡ m' = cc in ap (λ (x : Move CodeProcess). x.effect) same

-- a pick shows one thing
same_shown : (code : Code) (picks : List Pick) (k : ℕ) (one other : Option Event) → LeadsOn code picks k one → LeadsOn code picks k other → one ≡ other
same_shown code picks k one other on on' =
    let s = state_after code picks k in
    let next = state_after code picks (k + 1) in
    let picked : Some on.pick ≡ Some on'.pick = sym on.there ∙ on'.there in
    let same : on.pick ≡ on'.pick = cc in
    let effects : on.effect ≡ on'.effect =
    one_effect (record { next = next; effect = on.effect }) (record { next = next; effect = on'.effect })
    (sym on.steps ∙ (ap (λ (p : Pick). move_of (code_step code.processes) s p) same ∙ on'.steps)) in
    sym on.shows
    ∙ (ap (λ (p : Pick). event_of p on.effect) same
    ∙ (ap (event_of on'.pick) effects ∙ on'.shows))

-- a silent one shows no event
pub shows_none : (code : Code) (picks : List Pick) (k : ℕ) (step : Step) → StepsAt code picks k step → (step ≡ Silent) ⊎ (step ≡ NotEnabled)
    → (event : Event) → Shows code picks k event → ⊥
shows_none code picks k step at (inl is) event shows =
    let silent : LeadsOn code picks k None = subst (StepsAt code picks k) is at in
    let both : None ≡ Some event = same_shown code picks k None (Some event) silent shows in
    cc
shows_none code picks k step at (inr is) event shows = subst (StepsAt code picks k) is at

-- ---- integers

-- an integer of a machine at a position is that at the position
pub value_here : {lending : Lending} (v : VerifiedCode) (picks : List Pick) (i p x : ℕ) (m : Machine) → IsAfterBy lending v picks i m
    → value_in (slice_get (machine_view m).processes p) x ≡ value_at v.code picks i p x
value_here v picks i p x m h = ap (λ (s : State CodeProcess). value_in (slice_get s.processes p) x) h.state

pub differ_here : (b : Bool) (x y x' y' : Option ℤ) → x ≡ x' → y ≡ y' → IsTrue b ↔ (x ≡ y → ⊥) → IsTrue b ↔ (x' ≡ y' → ⊥)
differ_here b x y x' y' e f h = (λ t q. h.0 t (e ∙ (q ∙ sym f)), λ not. h.1 (λ q. not (sym e ∙ (q ∙ f))))

-- ---- lines

pub line_here : {lending : Lending} (v : VerifiedCode) (labels : List ProcessLabels) (picks : List Pick) (i p a : ℕ) (m : Machine) → IsAfterBy lending v picks i m
    → line_in (slice_get labels p) (slice_get (machine_view m).processes p) a ≡ arm_line_at v.code labels picks i p a
line_here v labels picks i p a m h = ap (λ (s : State CodeProcess). line_in (slice_get labels p) (slice_get s.processes p) a) h.state

pub begins_here : (b before after : Bool) (x y x' y' : Option ℕ) (n : ℕ) → x ≡ x' → y ≡ y' → IsTrue before ↔ (x ≡ Some n) → IsTrue after ↔ (y ≡ Some n)
    → IsTrue b ↔ ((IsTrue before → ⊥) × IsTrue after) → IsTrue b ↔ ((x' ≡ Some n → ⊥) × (y' ≡ Some n))
begins_here b before after x y x' y' n e f one two h = (
  λ t. (λ q. (h.0 t).0 (one.1 (e ∙ q)), sym f ∙ two.0 (h.0 t).1),
  λ q. h.1 (λ t. q.0 (sym e ∙ one.0 t), two.1 (f ∙ q.1)),
)

pub not_true : (b : Bool) → b ≡ false → IsTrue b → ⊥
not_true b e t = let no : true ≡ false = sym t ∙ e in absurd cc

-- ---- faults

pub faulted_here : {lending : Lending} (v : VerifiedCode) (picks : List Pick) (i p : ℕ) (m : Machine) → IsAfterBy lending v picks i m
    → faulted_in (slice_get (machine_view m).processes p) ≡ faulted_at v.code picks i p
faulted_here v picks i p m h = ap (λ (s : State CodeProcess). faulted_in (slice_get s.processes p)) h.state

pub begins_as : (b before after before' after' : Bool) → before ≡ before' → after ≡ after'
    → IsTrue b ↔ ((IsTrue before → ⊥) × IsTrue after) → IsTrue b ↔ ((IsTrue before' → ⊥) × IsTrue after')
begins_as b before after before' after' e f h =
    subst (λ (x : Bool). IsTrue b ↔ ((IsTrue x → ⊥) × IsTrue after')) e
    (subst (λ (y : Bool). IsTrue b ↔ ((IsTrue before → ⊥) × IsTrue y)) f h)
