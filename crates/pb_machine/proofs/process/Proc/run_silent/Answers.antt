use Rattle.std.proofs.Common.{◌≡◌, ◌-◌, ℕ, refl, sym, ◌∙◌, subst, arith}
use Rattle.pb_code.specs.Code.{CodeProcess}
use Rattle.pb_machine.specs.Steps.{MakesSilently}
use Rattle.pb_machine.specs.Views.{proc_view}
use Rattle.pb_machine.proofs.SilentRuns.{makes_more}
use Rattle.pb_machine.proofs.process.Proc.run_silent.Goals as goal

pub returns-then-not-silent-clause-made : goal.returns-then-not-silent-clause-made
returns-then-not-silent-clause-made c =
    let code = c.args.verified.now.code in
    let within = c.run_groups-left.ensures.within in
    let made : MakesSilently code c.args.pick.process c.args.pick.arm (c.args.max - (c.loop-left.left -
    c.run_groups-left.result)) (proc_view c.args.self.now) (proc_view c.run_groups-left.new.self) =
    makes_more code c.args.pick.process c.args.pick.arm c.args.max c.loop-left.left c.run_groups-left.result
    (proc_view c.args.self.now) (proc_view c.loop-left.self) (proc_view c.run_groups-left.new.self)
    c.loop-left.invariant.within within c.loop-left.invariant.made c.run_groups-left.ensures.made in
    subst (λ (b : CodeProcess). MakesSilently code c.args.pick.process c.args.pick.arm (c.args.max - (c.loop-left.left
    - c.run_groups-left.result)) (proc_view c.args.self.now) b)
    (sym c.if-not-silent.ensures.unchanged) made

pub loop-left-preserved : goal.loop-left-preserved
loop-left-preserved c =
    let code = c.args.verified.now.code in
    let within = c.run_groups-left.ensures.within in
    let made : MakesSilently code c.args.pick.process c.args.pick.arm (c.args.max - (c.loop-left.left -
    c.run_groups-left.result)) (proc_view c.args.self.now) (proc_view c.run_groups-left.new.self) =
    makes_more code c.args.pick.process c.args.pick.arm c.args.max c.loop-left.left c.run_groups-left.result
    (proc_view c.args.self.now) (proc_view c.loop-left.self) (proc_view c.run_groups-left.new.self)
    c.loop-left.invariant.within within c.loop-left.invariant.made c.run_groups-left.ensures.made in
    record {
      within = (let w = c.loop-left.invariant.within in omega arith);
      made =
          makes_more code c.args.pick.process c.args.pick.arm c.args.max (c.loop-left.left - c.run_groups-left.result)
          1 (proc_view c.args.self.now) (proc_view c.run_groups-left.new.self) (proc_view c.silent.new.self)
          (let w = c.loop-left.invariant.within in omega arith) (omega arith) made (proc_view c.run_groups-left.new.self, refl, c.if-not-silent.ensures.made);
      process = c.silent.ensures.process;
      rooms = c.silent.ensures.rooms ∙ (c.run_groups-left.ensures.rooms ∙ c.loop-left.invariant.rooms);
    }

pub returns-then-left-eq0-clause-made : goal.returns-then-left-eq0-clause-made
returns-then-left-eq0-clause-made c =
    let code = c.args.verified.now.code in
    let within = c.run_groups-left.ensures.within in
    let all : c.args.max - (c.loop-left.left - c.run_groups-left.result) ≡ c.args.max = omega arith in
    subst (λ (n : ℕ). MakesSilently code c.args.pick.process c.args.pick.arm n (proc_view c.args.self.now) (proc_view c.run_groups-left.new.self)) all
    (makes_more code c.args.pick.process c.args.pick.arm c.args.max c.loop-left.left c.run_groups-left.result
    (proc_view c.args.self.now) (proc_view c.loop-left.self) (proc_view c.run_groups-left.new.self)
    c.loop-left.invariant.within within c.loop-left.invariant.made c.run_groups-left.ensures.made)
