use Rattle.std.proofs.Common.{◌≡◌, Some, option_map, length, ap, subst, sym, arith}
use Rattle.pb_base.specs.Banker.{resources, row_of}
use Rattle.pb_rewrite.specs.Sound.{IsSoundRun}
use Rattle.pb_rewrite.specs.Steps.{IsProcessStep, IsSettled}
use Rattle.pb_rewrite.specs.View.{arm_view, process_view}
use Rattle.pb_rewrite.proofs.SoundRuns.{sound_single, sound_asks, run_held}
use Rattle.pb_rewrite.proofs.Processes.{process_of, run_settled}
use Rattle.pb_rewrite.proofs.process.SourceProcess.step.Goals as goal
use Rattle.pb_base.proofs.Lists.{restored}

pub step_run-requires-clause-single : goal.step_run-requires-clause-single
step_run-requires-clause-single g c =
    let s = c.args.banker.now.state in
    let sound : IsSoundRun (resources s) (row_of s.loans c.args.pick.process) (Some (arm_view c.in-Some.run')) =
    subst (λ o. IsSoundRun (resources s) (row_of s.loans c.args.pick.process) (option_map arm_view o)) c.in-Some.is c.requires.sound in
    sound_single s c.args.pick c.deref_mut.result.now (arm_view c.in-Some.run') sound

pub step_run-requires-clause-below : goal.step_run-requires-clause-below
step_run-requires-clause-below g c =
    let s = c.args.banker.now.state in
    let sound : IsSoundRun (resources s) (row_of s.loans c.args.pick.process) (Some (arm_view c.in-Some.run')) =
    subst (λ o. IsSoundRun (resources s) (row_of s.loans c.args.pick.process) (option_map arm_view o)) c.in-Some.is c.requires.sound in
    sound_asks s c.args.pick c.deref_mut.result.now (arm_view c.in-Some.run') sound

pub settle-requires-clause-held : goal.settle-requires-clause-held
settle-requires-clause-held g c =
    let s = c.args.banker.now.state in
    let sound : IsSoundRun (resources s) (row_of s.loans c.args.pick.process) (Some (arm_view c.in-Some.run')) =
    subst (λ o. IsSoundRun (resources s) (row_of s.loans c.args.pick.process) (option_map arm_view o)) c.in-Some.is c.requires.sound in
    run_held s c.args.pick c.deref_mut.result.now (arm_view c.in-Some.run') sound c.in-Ok.outcome c.step_run.new.vars (arm_view c.step_run.new.run)
    c.step_run.new.banker.state c.in-Ok.ensures.ok

pub returns-in-Ok-clause-ok : goal.returns-in-Ok-clause-ok
returns-in-Ok-clause-ok g c =
    let s = c.args.banker.now.state in
    let run = arm_view c.in-Some.run' in
    let sound : IsSoundRun (resources s) (row_of s.loans c.args.pick.process) (Some run) =
    subst (λ o. IsSoundRun (resources s) (row_of s.loans c.args.pick.process) (option_map arm_view o)) c.in-Some.is c.requires.sound in
    let single = sound_single s c.args.pick c.deref_mut.result.now run sound in
    let vars = c.step_run.new.vars in
    let count : length vars ≡ c.args.self.now.vars.len = omega (arith, c.args.self.now.vars.ok.0, ap length c.deref_mut.ensures.value) in
    let whole = restored c.args.self.now.vars.len c.args.self.now.vars.items vars count in
    let settled = subst (λ vs. IsSettled c.step_run.new.banker.state (process_of vs (Some (arm_view c.step_run.new.run))) c.args.pick c.in-Ok.outcome
    c.settle.result (process_view c.settle.new.self) c.settle.new.banker.state) whole c.settle.ensures in
    let so = run_settled s c.args.pick c.deref_mut.result.now run c.step_run.new.vars (arm_view c.step_run.new.run) c.step_run.new.banker.state
    c.settle.result (process_view c.settle.new.self) c.settle.new.banker.state c.in-Ok.outcome single c.in-Ok.ensures.ok settled in
    let all = subst (λ vs. IsProcessStep s (process_of vs (Some run)) c.args.pick c.settle.result (process_view c.settle.new.self) c.settle.new.banker.state)
    c.deref_mut.ensures.value so in
    subst (λ o. IsProcessStep s (process_of c.args.self.now.vars.items (option_map arm_view o)) c.args.pick
    c.settle.result (process_view c.settle.new.self) c.settle.new.banker.state)
    (sym c.in-Some.is) all
