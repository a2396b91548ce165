use Rattle.std.proofs.Common.{◌≡◌, inl, inr, ◌+◌, ◌<◌, ℕ, length, Some, None, Option, sym, ap, ◌∙◌, subst, arith}
use Rattle.std.specs.Prelude.{option_map, unwrap_or}
use Rattle.std.proofs.lemmas.List.{get_or_default}
use Rattle.pb_code.specs.View.{process_view}
use Rattle.pb_verifier.specs.declared.amounts.Amount.{Amount}
use Rattle.pb_verifier.specs.Given.{plain}
use Rattle.pb_verifier.specs.Places.{IsInArm, Reached}
use Rattle.pb_verifier.specs.Spread.{fact_at}
use Rattle.pb_verifier.proofs.ArmOrder.{arm_lies, rise_of}
use Rattle.pb_verifier.proofs.EndTables.{fact_of}
use Rattle.pb_verifier.proofs.ForkTables.{join_given}
use Rattle.pb_verifier.proofs.PeakTables.{IsBest, best_known, best_over, best_skip, best_start, joins_there}
use Rattle.pb_verifier.proofs.peaks.arm_peak.Goals as goal
use Rattle.pb_verifier.proofs.peaks.arm_peak.Goals.{in-Some+then-here-best, in-Some+else-here-best, in_default}

pub peak_at-here-requires-clause-there : goal.peak_at-here-requires-clause-there
peak_at-here-requires-clause-there c =
    λ bundles first count e.
    let is = ap (plain c.args.code.now) (join_given bundles c.instr_at.result first count e) in
    let there = joins_there (process_view c.args.code.now) c.requires.arms c.requires.forks
    c.requires.small.some_arms.0 c.loop-place.place first count (c.instr_at.ensures ∙ ap Some is) in
    let few = c.requires.small.some_arms.1 in
    let sized = c.requires.sized in
    omega arith

pub bounds-table-place : goal.bounds-table-place
bounds-table-place c =
    let lies = arm_lies (process_view c.args.code.now) (rise_of (process_view c.args.code.now) c.requires.arms) c.args.arm c.requires.arm in
    let e = c.end_of_arm-end.ensures in
    let f = c.requires.long in
    omega arith

pub loop-place-init : goal.loop-place-init
loop-place-init c = record {
  best = λ peak cut lie fork some.
      subst (λ (n : ℕ). IsBest (process_view c.args.code.now) lie fork some c.args.table.now peak c.args.arm n 0) (sym c.arm_entry-begin.ensures)
      (best_start (process_view c.args.code.now) lie fork some c.args.table.now peak c.args.arm);
  small = omega arith;
}

pub loop-place-preserved : goal.loop-place-preserved
loop-place-preserved c =
    let lies = arm_lies (process_view c.args.code.now) (rise_of (process_view c.args.code.now) c.requires.arms) c.args.arm c.requires.arm in
    let b = c.arm_entry-begin.ensures in
    let e = c.end_of_arm-end.ensures in
    let f = c.requires.long in
    let low = c.loop-place.auto.place in
    let within : IsInArm (process_view c.args.code.now) c.args.arm c.loop-place.place = (c.requires.arm, omega arith, omega arith) in
    let u : c.loop-place.place < length c.args.table.now = omega arith in
    let value : Amount → ℕ × ℕ = λ a. (a.resource, a.held) in
    elim c.match-table-place.branch [
      | in-Some+then-here-best w ↦
          let read : fact_at c.args.table.now c.loop-place.place ≡ Some w.in-Some.amount = get_or_default
          c.args.table.now c.loop-place.place None _ u ∙ w.in-Some.is in
          let reached = c.requires.amounts.only c.loop-place.place (value w.in-Some.amount) (ap (option_map value) read) in
          let held = ap (λ (o : Option Amount). unwrap_or (option_map (λ a. a.held) o) 0) read in
          let here = w.peak_at-here.ensures c.args.code.now.bundles.items in
          record {
            best = λ peak cut lie fork some.
                best_known (process_view c.args.code.now) lie fork some c.args.table.now peak c.args.arm
                c.loop-place.place c.loop-place.best w.in-Some.amount.held w.peak_at-here.result
                c.match-table-place.best c.args.peaks.now
                (plain c.args.code.now w.instr_at.result) (c.loop-place.invariant.best peak cut lie fork some) within
                reached w.instr_at.ensures held here cut (inl (w.best-is, w.if-here-best.true));
            small = let x = w.best-is in omega arith;
          }
      | in-Some+else-here-best w ↦
          let read : fact_at c.args.table.now c.loop-place.place ≡ Some w.in-Some.amount = get_or_default
          c.args.table.now c.loop-place.place None _ u ∙ w.in-Some.is in
          let reached = c.requires.amounts.only c.loop-place.place (value w.in-Some.amount) (ap (option_map value) read) in
          let held = ap (λ (o : Option Amount). unwrap_or (option_map (λ a. a.held) o) 0) read in
          let here = w.peak_at-here.ensures c.args.code.now.bundles.items in
          record {
            best = λ peak cut lie fork some.
                best_known (process_view c.args.code.now) lie fork some c.args.table.now peak c.args.arm
                c.loop-place.place c.loop-place.best w.in-Some.amount.held w.peak_at-here.result
                c.match-table-place.best c.args.peaks.now
                (plain c.args.code.now w.instr_at.result) (c.loop-place.invariant.best peak cut lie fork some) within
                reached w.instr_at.ensures held here cut (inr (w.best-is, w.if-here-best.false));
            small = let x = w.best-is in let y = c.loop-place.invariant.small in omega arith;
          }
      | in_default w ↦
          let none : Reached (process_view c.args.code.now) c.loop-place.place → ⊥ = λ reached.
          let n = c.requires.amounts.noted c.loop-place.place reached in
          let a = fact_of value c.args.table.now c.loop-place.place n.0 n.1 in
          w.in_default.not-Some a.0 (sym (get_or_default c.args.table.now c.loop-place.place None _ u) ∙ a.1)
          in
          record {
            best = λ peak cut lie fork some.
                subst (λ (m : ℕ). IsBest (process_view c.args.code.now) lie fork some c.args.table.now peak c.args.arm
                (c.loop-place.place + 1) m) (sym w.best-is)
                (best_skip (process_view c.args.code.now) lie fork some c.args.table.now peak c.args.arm
                c.loop-place.place c.loop-place.best (c.loop-place.invariant.best peak cut lie fork some) none);
            small = let x = w.best-is in let y = c.loop-place.invariant.small in omega arith;
          }
    ]

pub returns-clause-peak : goal.returns-clause-peak
returns-clause-peak c =
    let e = c.end_of_arm-end.ensures in
    λ peak cut.
    best_over (process_view c.args.code.now) c.requires.arms c.requires.forks c.requires.small.some_arms.0
    c.args.table.now peak c.args.arm c.loop-place.place c.loop-place.best c.requires.arm (omega arith)
    (c.loop-place.invariant.best peak cut c.requires.arms c.requires.forks c.requires.small.some_arms.0)
