use Rattle.std.proofs.Common.{◌<◌, arith}
use Rattle.pb_banker.proofs.TableCells.{FitsIn-from_cells, claim_of, loan_of, resources_of}
use Rattle.pb_banker.proofs.accounts.Accounts.first_short.Goals as goal

pub returns-clause-none : goal.returns-clause-none
returns-clause-none c =
    FitsIn-from_cells c.args.self.now c.requires.sound c.args.available.now c.args.p c.requires.process
    (λ r l. c.loop-r.invariant r (omega arith))

pub returns-then-saturating_sub-available-clause-some : goal.returns-then-saturating_sub-available-clause-some
returns-then-saturating_sub-available-clause-some c =
    let e = resources_of c.args.self.now c.requires.sound in
    let l : c.loop-r.r < c.args.self.now.resources = omega arith in
    let a = claim_of c.args.self.now c.requires.sound c.args.p c.loop-r.r c.requires.process l in
    let b = loan_of c.args.self.now c.requires.sound c.args.p c.loop-r.r c.requires.process l in
    record {
      there = omega (arith, e, l);
      short = omega arith;
      first = λ q lq.
          let k : q < c.args.self.now.resources = omega (arith, l, lq) in
          let x = claim_of c.args.self.now c.requires.sound c.args.p q c.requires.process k in
          let y = loan_of c.args.self.now c.requires.sound c.args.p q c.requires.process k in
          let i = c.loop-r.invariant q lq in
          omega (arith, x, y, i);
    }
