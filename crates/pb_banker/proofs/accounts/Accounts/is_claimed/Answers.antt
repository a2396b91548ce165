use Rattle.std.proofs.Common.{◌<◌, arith, below_more}
use Rattle.pb_base.specs.Banker.{processes}
use Rattle.pb_banker.specs.Accounts.{state_of}
use Rattle.pb_banker.proofs.TableCells.{processes_of, claim_of}
use Rattle.pb_banker.proofs.accounts.Accounts.is_claimed.Goals as goal

pub returns-then-self-p-clause-over : goal.returns-then-self-p-clause-over
returns-then-self-p-clause-over c within =
    let l : c.loop-p.p < c.args.self.now.processes = omega arith in
    let n = processes_of c.args.self.now c.requires.sound in
    let lp : c.loop-p.p < processes (state_of c.args.self.now) = omega (arith, l, n) in
    let e = claim_of c.args.self.now c.requires.sound c.loop-p.p c.args.r l c.requires.resource in
    let w = within c.loop-p.p lp in
    absurd (omega arith)

pub loop-p-preserved : goal.loop-p-preserved
loop-p-preserved c =
    let l : c.loop-p.p < c.args.self.now.processes = omega arith in
    let e = claim_of c.args.self.now c.requires.sound c.loop-p.p c.args.r l c.requires.resource in
    below_more _ _ c.loop-p.invariant (omega arith)
