use Rattle.std.proofs.Common.{◌≡◌, ◌<◌, ◌+◌, ℕ, Some, false, true, refl, sym, ◌∙◌, subst, arith}
use Rattle.std.specs.Prelude.{slice_get}
use Rattle.pb_base.specs.declared.pick.Pick.{Pick}
use Rattle.pb_base.specs.Steppers.{State}
use Rattle.pb_code.specs.Code.{CodeProcess}
use Rattle.pb_code.specs.Reached.{CodeStaysBy}
use Rattle.pb_machine.specs.Views.{machine_view, proc_view}
use Rattle.pb_machine.proofs.Counts.{few_arms}
use Rattle.pb_accept.specs.ReplayLines.{GoesOn}
use Rattle.pb_accept.proofs.StillLemmas.{all_arms_still, none_below, one_arm_more, step_goes}
use Rattle.pb_accept.proofs.ending.process_goes_on.Goals as goal

pub loop-arm-init : goal.loop-arm-init
loop-arm-init c = record {
  same = refl;
  machine = λ lending is. is;
  still = λ lending is. none_below lending c.args.verified.now.code (machine_view c.args.machine.now) c.args.process;
}

pub overflow_cast-pick : goal.overflow_cast-pick
overflow_cast-pick c =
    let (lending, is) = c.requires.machine in
    let few = few_arms c.args.verified.now is.verified c.args.machine.now is c.from.result _ c.proc.ensures.state in
    omega (arith, few)

pub step-requires : goal.step-requires
step-requires c = let (lending, is) = c.requires.machine in (lending, c.loop-arm.invariant.machine lending is)

pub loop-arm-preserved : goal.loop-arm-preserved
loop-arm-preserved c =
    let code = c.args.verified.now.code in
    let pick : Pick = record { process = c.args.process; arm = c.loop-arm.arm } in
    let before = c.loop-arm.invariant in
    let (some, is_some) = c.requires.machine in
    let unchanged = (c.in-NotEnabled.ensures.step some (before.machine some is_some)).1 in
    record {
      same = unchanged ∙ before.same;
      machine = λ lending is. c.in-NotEnabled.ensures.machine lending (before.machine lending is);
      still = λ lending is.
          let stays = (c.in-NotEnabled.ensures.step lending (before.machine lending is)).0 in
          one_arm_more lending code (machine_view c.args.machine.now) c.args.process c.loop-arm.arm (before.still lending is)
          (subst (λ (s : State CodeProcess). CodeStaysBy lending code s pick) before.same stays);
    }

pub returns-in-Silent : goal.returns-in-Silent
returns-in-Silent c =
    let code = c.args.verified.now.code in
    let pick : Pick = record { process = c.args.process; arm = c.loop-arm.arm } in
    let before = c.loop-arm.invariant in
    record {
      goes = λ lending is yes.
          subst (GoesOn lending code) before.same
          (step_goes lending code (machine_view c.loop-arm.machine) (machine_view c.step.new.self) pick c.step.result
          c.in-Silent.is (c.step.ensures.step lending (before.machine lending is)));
      still = λ lending is no. let both : true ≡ false = no in absurd cc;
      same = λ no. let both : true ≡ false = no in absurd cc;
      machine = λ lending is. c.step.ensures.machine lending (before.machine lending is);
    }

pub returns : goal.returns
returns c =
    let code = c.args.verified.now.code in
    let s = machine_view c.args.machine.now in
    let test = c.loop-arm-test.false in
    let count = c.arms-arm-end.ensures in
    let before = c.loop-arm.invariant in
    let there : slice_get s.processes c.args.process ≡ Some (proc_view c.proc.result.now) =
    subst (λ (k : ℕ). slice_get s.processes k ≡ Some (proc_view c.proc.result.now)) c.from.ensures c.proc.ensures.state in
    record {
      goes = λ lending is yes. let both : false ≡ true = yes in absurd cc;
      still = λ lending is no.
          all_arms_still lending code s c.args.process (proc_view c.proc.result.now) c.loop-arm.arm there
          (omega (arith, test, count)) (before.still lending is);
      same = λ no. before.same;
      machine = before.machine;
    }
