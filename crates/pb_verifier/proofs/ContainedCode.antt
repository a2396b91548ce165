-- Code whose arms are sound stays inside itself.
use Rattle.std.proofs.Common.{◌≡◌, ℕ, ◌<◌, ◌≤◌, length, ◌∙◌, subst, arith}
use Rattle.std.specs.Prelude.{Contains}
use Rattle.std.proofs.lemmas.List.{get_or_default}
use Rattle.std.proofs.lemmas.Option.{slice_get_within}
use Rattle.pb_code.specs.Code.{ProcessCode}
use Rattle.pb_verifier.specs.Faults.{HasArms}
use Rattle.pb_verifier.specs.Flow.{StaysInside}
use Rattle.pb_verifier.specs.Flow as flow
use Rattle.pb_verifier.specs.Places.{arms, entry, arm_end, IsInArm}
use Rattle.pb_verifier.proofs.ArmOrder.{arm_lies, rise_of}
use Rattle.pb_verifier.proofs.FaultFacts.{follows_from}
use Rattle.pb_verifier.proofs.ForkTables.{arm_of}
use Rattle.pb_verifier.proofs.ArmPlaces.{follows_in_arm}

pub stays_inside : (code : ProcessCode) → HasArms code → 1 ≤ arms code → length code.instrs ≤ 40000 → StaysInside code.entries code.instrs
stays_inside code h some few = record { few = few; starts = starts; next = next }
  where
    starts : (p : ℕ) → Contains code.entries p → p < length code.instrs
    starts p c =
        let e : entry code c.0 ≡ p = get_or_default code.entries c.0 0 p c.1 ∙ c.2 in
        subst (λ (x : ℕ). x < length code.instrs) e (h.inside c.0 c.1)

    next : (p q : ℕ) → flow.FlowsTo code.instrs p q → q < length code.instrs
    next p q f =
        let a : (a : ℕ) × IsInArm code a p = arm_of code h some p (slice_get_within code.instrs p f.0 f.1) in
        let there : IsInArm code a.0 q = follows_in_arm code h a.0 p q f.0 a.1 f.1 (follows_from f.0 p q f.2) in
        let l = arm_lies code (rise_of code h) a.0 a.1.0 in
        let u : q < arm_end code a.0 = there.2 in
        let v : arm_end code a.0 ≤ length code.instrs = l.1 in
        omega arith
