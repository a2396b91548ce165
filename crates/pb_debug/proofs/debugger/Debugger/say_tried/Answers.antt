use Rattle.std.proofs.Common.{inr, refl, Some, subst, arith}
use Rattle.std.proofs.lemmas.Option.{slice_get_within}
use Rattle.pb_base.specs.declared.pick.Pick.{Pick}
use Rattle.pb_base.specs.declared.step.Step.{Step}
use Rattle.pb_code.specs.Reached.{CodeMovesBy}
use Rattle.pb_machine.specs.Steps.{IsStepBy}
use Rattle.pb_machine.specs.Views.{machine_view}
use Rattle.pb_machine.proofs.NeverStuck.{events_have_names}
use Rattle.pb_verifier.specs.declared.fault.VerifyFault.TheVariants.{OutOfLimits}
use Rattle.pb_debug.specs.Appends.{TriesPick}
use Rattle.pb_debug.specs.Value.{state_of}
use Rattle.pb_debug.proofs.Positions.{few_arms, in_code, reached}
use Rattle.pb_base.proofs.Results.{on_ok}
use Rattle.pb_debug.proofs.debugger.Debugger.say_tried.Goals as goal

pub overflow_cast-p : goal.overflow_cast-p
overflow_cast-p c =
    let d = c.args.self.now in
    let h = c.can_append.ensures.placed in
    let lt = in_code d h c.args.p c.requires.0 c.requires.1 in
    let few = (h.verified.faultless OutOfLimits).some_processes.1 in
    omega (arith, lt, few)

pub overflow_cast-arm : goal.overflow_cast-arm
overflow_cast-arm c =
    let d = c.args.self.now in
    let few = few_arms d c.can_append.ensures.placed c.args.p c.requires.0 c.requires.1 in
    let lt = c.requires.2 in
    omega (arith, lt, few)

pub say_step-requires-clause-process : goal.say_step-requires-clause-process
say_step-requires-clause-process c = slice_get_within (state_of c.args.self.now).processes c.args.p c.requires.0 c.requires.1

pub say_step-requires-clause-names : goal.say_step-requires-clause-names
say_step-requires-clause-names c = λ event is.
    let d = c.args.self.now in
    let h = c.can_append.ensures.placed in
    let t = c.in_ok-tried.tried in
    let moves : CodeMovesBy d.lending d.verified.code (state_of d) t.pick (Some event) (machine_view t.machine) =
    subst (λ (s : Step). IsStepBy d.lending d.verified.code (state_of d) t.pick s (machine_view t.machine)) is c.in_ok-tried.ensures.tried.steps in
    events_have_names d.lending d.verified h.verified (state_of d) (reached d h) t.pick event (machine_view t.machine) moves

pub returns-clause-said : goal.returns-clause-said
returns-clause-said c =
    let d = c.args.self.now in
    let t = c.in_ok-tried.tried in
    let next = c.settle.new.self in
    let s = c.in_ok-say_step.ensures in
    on_ok c.settle.result _ _ c.settle.ensures.tries (λ tries.
    let tried = subst (λ (pick : Pick). TriesPick d pick t.step next) c.in_ok-tried.ensures.pick tries in
    (s.0, inr (c.if-not-can_append.ensures.can.0 refl, (t.step, tried, s.1)), s.2))
