use Rattle.std.proofs.Common.{◌<◌, arith}
use Rattle.pb_debug_positions.proofs.Walks.{stands_one, stands_silent}
use Rattle.pb_debug_positions.proofs.walker.repeat.Goals as goal

pub returns-then-silent-most-clause-stands : goal.returns-then-silent-most-clause-stands
returns-then-silent-most-clause-stands c = λ lending picks i all same at.
    stands_silent c.args.verified.now picks i c.args.pick c.args.most same c.run_silent-silent.result c.args.machine.now
    c.run_silent-silent.new.self c.run_silent-silent.ensures.within at (c.run_silent-silent.ensures.made lending) (c.run_silent-silent.ensures.machine lending at.machine)

pub returns-clause-stands : goal.returns-clause-stands
returns-clause-stands c = λ lending picks i all same at.
    let v = c.args.verified.now in
    let made = c.run_silent-silent.result in
    let mid = c.run_silent-silent.new.self in
    let here = stands_silent v picks i c.args.pick c.args.most same made c.args.machine.now mid
    c.run_silent-silent.ensures.within at (c.run_silent-silent.ensures.made lending) (c.run_silent-silent.ensures.machine lending at.machine) in
    let lt : made < c.args.most = (let le = c.run_silent-silent.ensures.within in let not = c.if-silent-most.false in omega (arith, le, not)) in
    stands_one v picks i c.args.pick c.args.most same made mid c.step.new.self c.step.result all lt here
    (c.step.ensures.step lending here.machine) (c.step.ensures.machine lending here.machine)
