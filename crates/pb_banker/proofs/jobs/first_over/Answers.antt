use Rattle.std.proofs.Common.{◌<◌, arith}
use Rattle.std.proofs.lemmas.List.{get_or-take}
use Rattle.pb_banker.proofs.TableCells.{resources_of}
use Rattle.pb_banker.proofs.jobs.first_over.Goals as goal

pub returns-then-claims-r-clause-some : goal.returns-then-claims-r-clause-some
returns-then-claims-r-clause-some c =
    let a = c.args.accounts.now in
    let l : c.loop-r.r < c.args.accounts.now.resources = omega arith in
    let e = resources_of c.args.accounts.now c.requires.sound in
    let m = get_or-take c.args.accounts.now.resources c.args.accounts.now.capital c.loop-r.r 0 l in
    record {
      there = omega (arith, e, l);
      over = omega arith;
      first = λ q lq.
          let k : q < c.args.accounts.now.resources = omega (arith, l, lq) in
          let n = get_or-take c.args.accounts.now.resources c.args.accounts.now.capital q 0 k in
          let i = c.loop-r.invariant q lq in
          omega (arith, n, i);
    }
