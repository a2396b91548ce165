use Rattle.std.proofs.Common.{◌≡◌, false, true, get_or, arith}
use Rattle.pb_banker.specs.Accounts.{state_of, FitsIn}
use Rattle.pb_banker.proofs.Found.{all_met}
use Rattle.pb_banker.proofs.Walk.{walked_below}
use Rattle.pb_banker.proofs.accounts.Accounts.go_through.Goals as goal

pub bounds-found-p : goal.bounds-found-p
bounds-found-p c =
    let l = walked_below c.args.self.now c.requires.sound c.args.order.now c.loop-i.i c.requires.everyone c.loop-i-test.true in
    let few = c.requires.sound.few in
    omega (arith, l, few)

pub fits-requires-clause-process : goal.fits-requires-clause-process
fits-requires-clause-process c =
    walked_below c.args.self.now c.requires.sound c.args.order.now c.loop-i.i c.requires.everyone c.loop-i-test.true

pub find-requires-clause-process : goal.find-requires-clause-process
find-requires-clause-process c =
    walked_below c.args.self.now c.requires.sound c.args.order.now c.loop-i.i c.requires.everyone c.loop-i-test.true

pub returns-clause-stuck : goal.returns-clause-stuck
returns-clause-stuck c same =
    all_met c.args.self.now c.requires.sound
    (λ q. get_or c.loop-i.found.waiting q false ≡ true → ¬ FitsIn (state_of c.args.self.now) c.loop-i.available q)
    c.args.order.now c.requires.everyone
    (λ i l. c.loop-i.invariant.none same i (let e = c.loop-i-test.false in omega (arith, l, e)))
