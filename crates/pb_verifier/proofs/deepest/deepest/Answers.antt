use Rattle.std.proofs.Common.{◌≡◌, ◌≤◌, ◌<◌, ◌+◌, ℕ, length, Some, None, sym, ◌∙◌, subst, arith}
use Rattle.std.proofs.lemmas.List.{get_or_default}
use Rattle.pb_code.specs.View.{process_view}
use Rattle.pb_verifier.specs.declared.depths.Depth.{Depth}
use Rattle.pb_verifier.specs.Places.{IsInArm}
use Rattle.pb_verifier.specs.Spread.{fact_at}
use Rattle.pb_verifier.proofs.ArmOrder.{arm_lies, rise_of}
use Rattle.pb_verifier.proofs.EndTables.{IsBestBefore, best_start, best_over, best_keeps, best_takes}
use Rattle.pb_verifier.proofs.ArmPlaces.{entry_in_arm}
use Rattle.pb_verifier.proofs.deepest.deepest.Goals as goal
use Rattle.pb_verifier.proofs.deepest.deepest.Goals.{in-Some+then-depth-best, in-Some+else-depth-best, in_default}

pub loop-place-init : goal.loop-place-init
loop-place-init c =
    subst (λ (n : ℕ). IsBestBefore (process_view c.args.code.now) c.args.depths.now c.args.arm n 0) (sym c.arm_entry-begin.ensures)
    (best_start (process_view c.args.code.now) c.args.depths.now c.requires.depths c.args.arm (entry_in_arm
    (process_view c.args.code.now) c.requires.arms c.args.arm c.requires.arm))

pub bounds-depths-place : goal.bounds-depths-place
bounds-depths-place c =
    let lies = arm_lies (process_view c.args.code.now) (rise_of (process_view c.args.code.now) c.requires.arms) c.args.arm c.requires.arm in
    let e = c.end_of_arm-end.ensures in
    let f = c.requires.few in
    omega arith

pub loop-place-preserved : goal.loop-place-preserved
loop-place-preserved c =
    let lies = arm_lies (process_view c.args.code.now) (rise_of (process_view c.args.code.now) c.requires.arms) c.args.arm c.requires.arm in
    let b = c.arm_entry-begin.ensures in
    let e = c.end_of_arm-end.ensures in
    let f = c.requires.few in
    let low = c.loop-place.auto.place in
    let within : IsInArm (process_view c.args.code.now) c.args.arm c.loop-place.place = (c.requires.arm, omega arith, omega arith) in
    let u : c.loop-place.place < length c.args.depths.now = omega arith in
    elim c.match-depths-place.branch [
      | in-Some+then-depth-best w ↦
          subst (λ (n : ℕ). IsBestBefore (process_view c.args.code.now) c.args.depths.now c.args.arm (c.loop-place.place + 1) n) (sym w.best-is)
          (best_takes (process_view c.args.code.now) c.args.depths.now c.args.arm c.loop-place.place c.loop-place.best
          w.in-Some.depth c.loop-place.invariant within
          (get_or_default c.args.depths.now c.loop-place.place None _ u ∙ w.in-Some.is) w.if-depth-best.true)
      | in-Some+else-depth-best w ↦
          subst (λ (n : ℕ). IsBestBefore (process_view c.args.code.now) c.args.depths.now c.args.arm (c.loop-place.place + 1) n) (sym w.best-is)
          (best_keeps (process_view c.args.code.now) c.args.depths.now c.args.arm c.loop-place.place c.loop-place.best c.loop-place.invariant
          (λ d at.
          let read : fact_at c.args.depths.now c.loop-place.place ≡ Some w.in-Some.depth = get_or_default
          c.args.depths.now c.loop-place.place None _ u ∙ w.in-Some.is in
          let both : Some w.in-Some.depth ≡ Some d = sym read ∙ at in
          let same : w.in-Some.depth ≡ d = cc in
          subst (λ (x : Depth). x.count ≤ c.loop-place.best) same w.if-depth-best.false))
      | in_default w ↦
          subst (λ (n : ℕ). IsBestBefore (process_view c.args.code.now) c.args.depths.now c.args.arm (c.loop-place.place + 1) n) (sym w.best-is)
          (best_keeps (process_view c.args.code.now) c.args.depths.now c.args.arm c.loop-place.place c.loop-place.best c.loop-place.invariant
          (λ d at. absurd (w.in_default.not-Some d (sym (get_or_default c.args.depths.now c.loop-place.place None _ u) ∙ at))))
    ]

pub returns : goal.returns
returns c =
    let e = c.end_of_arm-end.ensures in
    best_over (process_view c.args.code.now) c.args.depths.now c.requires.depths c.args.arm c.loop-place.place
    c.loop-place.best c.loop-place.invariant (λ p within. let u = within.2 in omega arith)
