use Rattle.std.proofs.Common.{◌≡◌, ℕ, ◌<◌, ◌%◌, Some, eqb, length, slice_get, refl, sym, ap, ◌∙◌, subst, true}
use Rattle.std.proofs.Common.{vec_len, arith}
use Rattle.std.proofs.lemmas.Bool.{eqb-true}
use Rattle.std.proofs.lemmas.Option.{slice_get-get_or}
use Rattle.pb_base.specs.Steppers.{State}
use Rattle.pb_code.specs.Code.{CodeProcess}
use Rattle.pb_code.specs.Reached.{CodeMovesBy, CodeStaysBy}
use Rattle.pb_machine.specs.Steps.{MovesSilentlyBy}
use Rattle.pb_base.specs.declared.lending.Lending.{Lending}
use Rattle.pb_machine.specs.Views.{machine_view, IsMachineBy}
use Rattle.rand_pcg.specs.Pcg.{pcg32}
use Rattle.pb_record.specs.Draws.{drawn_number}
use Rattle.pb_record.proofs.ChoiceLemmas.{all_left, all_struck, one_drawn, one_struck}
use Rattle.pb_record.proofs.choice.step_drawn.Goals as goal

pub returns-in-Silent-clause-drawn : goal.returns-in-Silent-clause-drawn
returns-in-Silent-clause-drawn c lending of =
    let items = c.loop-candidates.candidates.items in
    let now = c.loop-candidates.generator in
    let len : c.len.result ≡ length items = omega (arith, c.len.ensures, c.loop-candidates.candidates.ok.0) in
    let less : c.below.result < length items = omega (arith, len, c.below.ensures.below) in
    let number : c.below.result ≡ drawn_number now items = c.below.ensures.number ∙ ap (λ (n : ℕ). (pcg32 now).0 % n) len in
    let there : slice_get items c.below.result ≡ Some c.remove-pick.result =
    slice_get-get_or items c.below.result c.remove-pick.result less ∙ ap Some (sym c.remove-pick.ensures.value) in
    one_drawn lending c.args.verified.now.code (machine_view c.args.machine.now) c.args.generator.now items now c.below.new.generator
    c.below.result c.remove-pick.result (c.loop-candidates.invariant.left lending of) number there c.below.ensures.generator

pub returns-in-Did-clause-drawn : goal.returns-in-Did-clause-drawn
returns-in-Did-clause-drawn c lending of =
    let items = c.loop-candidates.candidates.items in
    let now = c.loop-candidates.generator in
    let len : c.len.result ≡ length items = omega (arith, c.len.ensures, c.loop-candidates.candidates.ok.0) in
    let less : c.below.result < length items = omega (arith, len, c.below.ensures.below) in
    let number : c.below.result ≡ drawn_number now items = c.below.ensures.number ∙ ap (λ (n : ℕ). (pcg32 now).0 % n) len in
    let there : slice_get items c.below.result ≡ Some c.remove-pick.result =
    slice_get-get_or items c.below.result c.remove-pick.result less ∙ ap Some (sym c.remove-pick.ensures.value) in
    one_drawn lending c.args.verified.now.code (machine_view c.args.machine.now) c.args.generator.now items now c.below.new.generator
    c.below.result c.remove-pick.result (c.loop-candidates.invariant.left lending of) number there c.below.ensures.generator

pub loop-candidates-preserved : goal.loop-candidates-preserved
loop-candidates-preserved c =
    let items = c.loop-candidates.candidates.items in
    let now = c.loop-candidates.generator in
    let len : c.len.result ≡ length items = omega (arith, c.len.ensures, c.loop-candidates.candidates.ok.0) in
    let less : c.below.result < length items = omega (arith, len, c.below.ensures.below) in
    let number : c.below.result ≡ drawn_number now items = c.below.ensures.number ∙ ap (λ (n : ℕ). (pcg32 now).0 % n) len in
    let there : slice_get items c.below.result ≡ Some c.remove-pick.result =
    slice_get-get_or items c.below.result c.remove-pick.result less ∙ ap Some (sym c.remove-pick.ensures.value) in
    let code = c.args.verified.now.code in
    let before = c.loop-candidates.invariant in
    let refused : (lending : Lending) → IsMachineBy lending c.args.verified.now c.args.machine.now
    → CodeStaysBy lending code (machine_view c.args.machine.now) c.remove-pick.result = λ lending of.
    subst (λ (s : State CodeProcess). CodeStaysBy lending code s c.remove-pick.result) before.same
    (c.in-NotEnabled.ensures.step lending (before.machine lending of)).0 in record {
      same = (c.in-NotEnabled.ensures.step c.requires.machine.0 (before.machine c.requires.machine.0 c.requires.machine.1)).1 ∙ before.same;
      some = (before.some.0, c.in-NotEnabled.ensures.machine before.some.0 before.some.1);
      machine = λ lending of. c.in-NotEnabled.ensures.machine lending (before.machine lending of);
      left = λ lending of. one_struck lending code (machine_view c.args.machine.now) c.args.generator.now items c.remove-pick.new.self.items now
          c.below.new.generator c.below.result c.remove-pick.result (before.left lending of) number there c.remove-pick.ensures.items
          c.below.ensures.generator (refused lending of);
    }

pub returns-clause-step : goal.returns-clause-step
returns-clause-step c lending of =
    let before = c.loop-candidates.invariant in
    let items = c.loop-candidates.candidates.items in
    let empty : eqb (vec_len c.loop-candidates.candidates) 0 ≡ true = sym c.is_empty.ensures ∙ c.loop-candidates-test.false in
    let zero : vec_len c.loop-candidates.candidates ≡ 0 = eqb-true (vec_len c.loop-candidates.candidates) 0 empty in
    let none : length items ≡ 0 = omega (arith, zero, c.loop-candidates.candidates.ok.0) in
    all_struck lending c.args.verified.now.code (machine_view c.args.machine.now) (machine_view c.loop-candidates.machine) c.args.generator.now
    items c.loop-candidates.generator (before.left lending of) none before.same

pub loop-candidates-init : goal.loop-candidates-init
loop-candidates-init c = record {
  same = refl;
  some = c.requires.machine;
  machine = λ lending of. of;
  left = λ lending of. all_left lending c.args.verified.now.code (machine_view c.args.machine.now) c.args.generator.now _
      c.in_ok-find_candidates.ensures;
}

pub returns-in-Silent-clause-step : goal.returns-in-Silent-clause-step
returns-in-Silent-clause-step c lending of =
    let step = c.in-Silent.ensures.step lending (c.loop-candidates.invariant.machine lending of) in (
      step.1,
      subst (λ (s : State CodeProcess). MovesSilentlyBy lending c.args.verified.now.code c.remove-pick.result c.in-Silent.made s (machine_view c.step_arm.new.machine))
          c.loop-candidates.invariant.same step.2,
    )

pub returns-in-Did-clause-step : goal.returns-in-Did-clause-step
returns-in-Did-clause-step c lending of =
    subst (λ (s : State CodeProcess). CodeMovesBy lending c.args.verified.now.code s c.remove-pick.result (Some c.in-Did.event) (machine_view c.step_arm.new.machine))
    c.loop-candidates.invariant.same (c.in-Did.ensures.step lending (c.loop-candidates.invariant.machine lending of)).1

pub returns-in-Silent-clause-machine : goal.returns-in-Silent-clause-machine
returns-in-Silent-clause-machine c lending of = c.in-Silent.ensures.machine lending (c.loop-candidates.invariant.machine lending of)

pub returns-in-Did-clause-machine : goal.returns-in-Did-clause-machine
returns-in-Did-clause-machine c lending of = c.in-Did.ensures.machine lending (c.loop-candidates.invariant.machine lending of)
