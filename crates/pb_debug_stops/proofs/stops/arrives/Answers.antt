use Rattle.std.proofs.Common.{◌≡◌, ℕ, Option, false, true, inl, inr, sym, subst, arith}
use Rattle.std.proofs.lemmas.Bool.{cases_lt}
use Rattle.std.specs.Prelude.{slice_get}
use Rattle.pb_code.specs.View.{labels_view}
use Rattle.pb_machine.specs.Views.{machine_view, proc_view}
use Rattle.pb_debug_positions.specs.Searches.{line_in}
use Rattle.pb_debug_stops.specs.Stops.{ComesTo}
use Rattle.pb_debug_stops.proofs.StopLemmas.{comes_as, none_past}
use Rattle.pb_debug_positions.proofs.Searches.{not_true}
use Rattle.pb_debug_stops.proofs.stops.arrives.Goals as goal

pub loop-arm-preserved : goal.loop-arm-preserved
loop-arm-preserved c = λ a lt comes.
    let labels = slice_get (labels_view c.args.labels.now) c.args.p in
    let left : ℕ → Option ℕ = λ k. line_in labels (slice_get (machine_view c.args.before.now).processes c.args.p) k in
    let right : ℕ → Option ℕ = λ k. line_in labels (slice_get (machine_view c.args.after.now).processes c.args.p) k in
    let arm = c.loop-arm.arm in
    elim (cases_lt a arm) [
      | inl before ↦ c.loop-arm.invariant a before comes
      | inr past ↦ (
          let same : a ≡ arm = omega (arith, past, lt) in
          let here : ComesTo c.args.lines.now (left arm) (right arm) = subst (λ k. ComesTo c.args.lines.now (left k) (right k)) same comes in
          not_true c.comes.result c.if-comes.false
          (c.comes.ensures.1 (comes_as c.args.lines.now (left arm) (right arm) c.line_of_arm-left.result c.line_of_arm-right.result
          (sym c.line_of_arm-left.ensures) (sym c.line_of_arm-right.ensures) here)))
    ]

pub returns : goal.returns
returns c =
    let labels = slice_get (labels_view c.args.labels.now) c.args.p in
    let left : ℕ → Option ℕ = λ k. line_in labels (slice_get (machine_view c.args.before.now).processes c.args.p) k in
    let many = c.arms-arm-end.ensures in
    let end = c.loop-arm-test.false in
    let no : (a : ℕ) → ComesTo c.args.lines.now (left a) (line_in labels (slice_get (machine_view c.args.after.now).processes c.args.p) a) → ⊥ =
    λ a comes. elim (cases_lt a c.loop-arm.arm) [
      | inl before ↦ c.loop-arm.invariant a before comes
      | inr past ↦ none_past c.args.lines.now (left a) labels (slice_get (machine_view c.args.after.now).processes c.args.p) (proc_view c.proc.result.now) a
          c.proc.ensures.state (omega (arith, past, end, many)) comes
    ] in
    (λ t. let wrong : false ≡ true = t in cc, λ has. absurd (no has.0 has.1))
