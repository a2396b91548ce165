-- Lines before and after a pick.
use Rattle.std.proofs.lemmas.Bool.{cases_lt}
use Rattle.std.proofs.Common.{◌≡◌, ◌↔◌, ℕ, ◌+◌, ◌≤◌, inl, inr, arith, List, length, Option, Some, None, Bool, IsTrue, refl, sym, ap, ◌∙◌, subst}
use Rattle.std.proofs.lemmas.List.{get_or_past}
use Rattle.std.specs.Prelude.{slice_get}
use Rattle.pb_base.specs.declared.lending.Lending.{Lending}
use Rattle.pb_base.specs.declared.pick.Pick.{Pick}
use Rattle.pb_code.specs.Code.{CodeProcess, Idle}
use Rattle.pb_code.specs.Whole.{ProcessLabels}
use Rattle.pb_debug_positions.specs.Searches.{IsLast, arm_line_at, line_in, thread_line}
use Rattle.pb_debug_positions.proofs.Searches.{line_here}
use Rattle.pb_debug_stops.specs.Stops.{Arrives, ComesTo}
use Rattle.pb_history.specs.Positions.{IsAfterBy}
use Rattle.pb_machine.specs.Views.{machine_view}
use Rattle.pb_machine.specs.declared.machine.Machine.{Machine}
use Rattle.pb_verifier.specs.Verified.{VerifiedCode}

pub differ_lines : (b : Bool) (x y x' y' : Option ℕ) → x ≡ x' → y ≡ y' → IsTrue b ↔ (x ≡ y → ⊥) → IsTrue b ↔ (x' ≡ y' → ⊥)
differ_lines b x y x' y' e f h = (λ t q. h.0 t (e ∙ (q ∙ sym f)), λ not. h.1 (λ q. not (sym e ∙ (q ∙ f))))

-- the same lines by other names
pub comes_as : (lines : List ℕ) (x y x' y' : Option ℕ) → x ≡ x' → y ≡ y' → ComesTo lines x y → ComesTo lines x' y'
comes_as lines x y x' y' e f (n, among, not, is) = (n, among, λ q. not (e ∙ q), sym f ∙ is)

-- an arm that is past the last has no line
no_line : (labels : Option ProcessLabels) (process : CodeProcess) (a : ℕ) → length process.threads ≤ a → line_in labels (Some process) a ≡ None
no_line None process a past = refl
no_line (Some labels) process a past = ap (thread_line labels.lines) (get_or_past process.threads a Idle past)

pub none_past : (lines : List ℕ) (before : Option ℕ) (labels : Option ProcessLabels) (o : Option CodeProcess) (process : CodeProcess) (a : ℕ)
    → o ≡ Some process → length process.threads ≤ a → ComesTo lines before (line_in labels o a) → ⊥
none_past lines before labels o process a there past (n, among, not, is) =
    let none : line_in labels o a ≡ None = ap (λ (p : Option CodeProcess). line_in labels p a) there ∙ no_line labels process a past in
    let both : Some n ≡ None = sym is ∙ none in
    cc

-- nor has one of a process that is not there
pub none_missing : (lines : List ℕ) (before : Option ℕ) (labels : Option ProcessLabels) (o : Option CodeProcess) (a : ℕ)
    → o ≡ None → ComesTo lines before (line_in labels o a) → ⊥
none_missing lines before labels o a missing (n, among, not, is) =
    let none : line_in labels o a ≡ None = ap (λ (p : Option CodeProcess). line_in labels p a) missing ∙ no_process labels a in
    let both : Some n ≡ None = sym is ∙ none in
    cc
  where
    no_process : (labels : Option ProcessLabels) (a : ℕ) → line_in labels None a ≡ None
    no_process None a = refl
    no_process (Some labels) a = refl

-- an arm of the process of a pick comes to a line between two machines exactly if the pick between them brings it there
module _ (v : VerifiedCode) (labels : List ProcessLabels) (picks : List Pick) (at p : ℕ) (lines : List ℕ) (pick : Pick)
    (there : slice_get picks at ≡ Some pick) (is : p ≡ pick.process) where
  abbrev line_of : Machine → ℕ → Option ℕ
  line_of m a = line_in (slice_get labels p) (slice_get (machine_view m).processes p) a

  same_line : {lending : Lending} (i a : ℕ) (m : Machine) → IsAfterBy lending v picks i m
      → line_of m a ≡ arm_line_at v.code labels picks i pick.process a
  same_line i a m of = line_here v labels picks i p a m of ∙ ap (λ (q : ℕ). arm_line_at v.code labels picks i q a) is

  pub arrives_here : {one other : Lending} (m m' : Machine) (b : Bool) → IsAfterBy one v picks at m → IsAfterBy other v picks (at + 1) m'
      → IsTrue b ↔ ((a : ℕ) × ComesTo lines (line_of m a) (line_of m' a)) → IsTrue b ↔ Arrives v.code labels picks lines at
  arrives_here m m' b of of' h = (
    λ t.
        let (a, comes) = h.0 t in
        (pick, there, (a, comes_as lines _ _ _ _ (same_line at a m of) (same_line (at + 1) a m' of') comes)),
    λ found.
        let both : Some pick ≡ Some found.0 = sym there ∙ found.1 in
        let same : found.0 ≡ pick = cc in
        let brings : (a : ℕ) × ComesTo lines (arm_line_at v.code labels picks at pick.process a) (arm_line_at v.code labels picks (at + 1) pick.process a) =
        subst (λ (x : Pick). (a : ℕ) × ComesTo lines (arm_line_at v.code labels picks at x.process a) (arm_line_at v.code labels picks (at + 1) x.process a))
        same found.2 in
        h.1 (brings.0, comes_as lines _ _ _ _ (sym (same_line at brings.0 m of)) (sym (same_line (at + 1) brings.0 m' of')) brings.1),
  )

-- ---- searches

-- the last up to one number is the last up to the next, if it doesn't hold there
pub last_not_here : (Holds : ℕ → Type 0) (from at next : ℕ) (last : Option ℕ) → next ≡ at + 1 → IsLast Holds from at last → (Holds at → ⊥)
    → IsLast Holds from next last
last_not_here Holds from at next None is none not = λ k le lt holds. elim (cases_lt k at) [
  | inl before ↦ none k le before holds
  | inr past ↦ (let same : k ≡ at = omega (arith, past, lt, is) in not (subst Holds same holds))
]
last_not_here Holds from at next (Some k) is (le, lt, holds, none) not = (
  le,
  omega (arith, lt, is),
  holds,
  λ j above below does. elim (cases_lt j at) [
    | inl before ↦ none j above before does
    | inr past ↦ (let same : j ≡ at = omega (arith, past, below, is) in not (subst Holds same does))
  ],
)
