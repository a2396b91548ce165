use Rattle.std.proofs.Common.{◌≡◌, ◌<◌, ◌+◌, ℕ, length, false, true, refl, sym, ap, ◌∙◌, subst, arith}
use Rattle.pb_base.specs.declared.pick.Pick.{Pick}
use Rattle.pb_base.specs.Steppers.{State}
use Rattle.pb_code.specs.Code.{CodeProcess}
use Rattle.pb_machine.specs.Views.{machine_view}
use Rattle.pb_machine.proofs.Counts.{few_processes}
use Rattle.pb_accept.specs.ReplayLines.{GoesOn}
use Rattle.pb_accept.specs.Stillness.{IsStillAt}
use Rattle.pb_accept.proofs.StillLemmas.{all_processes_still, no_process_yet, one_process_more}
use Rattle.pb_accept.proofs.ending.goes_on.Goals as goal

pub loop-process-init : goal.loop-process-init
loop-process-init c = record {
  same = refl;
  machine = λ lending is. is;
  still = λ lending is. no_process_yet lending c.args.verified.now.code (machine_view c.args.machine.now);
}

pub overflow_cast-process : goal.overflow_cast-process
overflow_cast-process c =
    let (lending, is) = c.requires in
    let few = few_processes c.args.verified.now is.verified c.args.machine.now is in
    omega (arith, few)

pub process_goes_on-requires-clause-machine : goal.process_goes_on-requires-clause-machine
process_goes_on-requires-clause-machine c =
    let (lending, is) = c.requires in (lending, c.loop-process.invariant.machine lending is)

pub loop-process-preserved : goal.loop-process-preserved
loop-process-preserved c =
    let code = c.args.verified.now.code in
    let before = c.loop-process.invariant in
    let still = c.if-process_goes_on.false in
    record {
      same = c.process_goes_on.ensures.same still ∙ before.same;
      machine = λ lending is. c.process_goes_on.ensures.machine lending (before.machine lending is);
      still = λ lending is.
          one_process_more lending code (machine_view c.args.machine.now) c.loop-process.process (before.still lending is)
          (subst (λ (s : State CodeProcess). IsStillAt lending code s c.loop-process.process) before.same
          (c.process_goes_on.ensures.still lending (before.machine lending is) still));
    }

pub returns-then-process_goes_on : goal.returns-then-process_goes_on
returns-then-process_goes_on c lending is =
    let before = c.loop-process.invariant in (
      λ yes. subst (GoesOn lending c.args.verified.now.code) before.same
          (c.process_goes_on.ensures.goes lending (before.machine lending is) c.if-process_goes_on.true),
      λ goes. refl,
    )

pub returns : goal.returns
returns c lending is =
    let test = c.loop-process-test.false in
    let count = c.processes-process-end.ensures in (
      λ yes. let both : false ≡ true = yes in absurd cc,
      λ goes. absurd (all_processes_still lending c.args.verified.now.code (machine_view c.args.machine.now) c.loop-process.process
          (omega (arith, test, count)) (c.loop-process.invariant.still lending is) goes),
    )
