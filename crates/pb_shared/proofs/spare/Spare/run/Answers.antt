use Rattle.std.proofs.Common.{arith, rules}
use Rattle.pb_machine.specs.Views.{proc_view}
use Rattle.pb_machine.proofs.SilentRuns.{makes-append}
use Rattle.pb_shared.proofs.spare.Spare.run.Goals as goal

pub returns-clause-run : goal.returns-clause-run
returns-clause-run c =
    let s = c.args.self.now in
    let within = c.requires.run.within in
    let most = c.run_silent-count.ensures.within in record {
      within = omega (arith, within, most);
      runs = makes-append c.args.code.now.code s.pick.process s.pick.arm s.made c.run_silent-count.result (proc_view s.base)
          (proc_view s.state) (proc_view c.run_silent-count.new.self) c.requires.run.runs c.run_silent-count.ensures.made;
    }

pub returns-clause-stops : goal.returns-clause-stops
returns-clause-stops c = search rules fits 100
