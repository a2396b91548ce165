use Rattle.std.proofs.Common.{◌<◌, get_or, arith, below_more}
use Rattle.pb_banker.specs.Accounts.{state_of}
use Rattle.pb_banker.proofs.Fitting.{room_by, held_more, fit_by}
use Rattle.pb_banker.proofs.TableCells.{claim_of, loan_of}
use Rattle.pb_banker.proofs.Walk.{walked_below}
use Rattle.pb_banker.proofs.accounts.Accounts.still_fit_by.Goals as goal

pub bounds-self-p : goal.bounds-self-p
bounds-self-p c =
    let inside : c.loop-k.k < c.args.self.now.processes = (let a = c.loop-k-test.true in let b = c.requires.place in omega (arith, a, b)) in
    let l = walked_below c.args.self.now c.requires.sound c.args.order.now c.loop-k.k c.requires.everyone inside in
    let few = c.requires.sound.few in
    omega (arith, l, few)

pub bounds-self-p-in-loop-k : goal.bounds-self-p-in-loop-k
bounds-self-p-in-loop-k c =
    let inside : c.loop-k.k < c.args.self.now.processes = (let a = c.loop-k-test.true in let b = c.requires.place in omega (arith, a, b)) in
    let l = walked_below c.args.self.now c.requires.sound c.args.order.now c.loop-k.k c.requires.everyone inside in
    let few = c.requires.sound.few in
    omega (arith, l, few)

pub overflow_add-available : goal.overflow_add-available
overflow_add-available c =
    let inside : c.loop-k.k < c.args.self.now.processes = (let a = c.loop-k-test.true in let b = c.requires.place in omega (arith, a, b)) in
    let l = walked_below c.args.self.now c.requires.sound c.args.order.now c.loop-k.k c.requires.everyone inside in
    let room = room_by c.args.self.now c.requires.sound c.args.order.now c.loop-k.k c.args.r c.requires.everyone inside c.requires.resource in
    let e = loan_of c.args.self.now c.requires.sound (get_or c.args.order.now c.loop-k.k 0) c.args.r l c.requires.resource in
    let have = c.loop-k.invariant.available in
    omega (arith, room, e, have)

pub loop-k-preserved : goal.loop-k-preserved
loop-k-preserved c =
    let inside : c.loop-k.k < c.args.self.now.processes = (let a = c.loop-k-test.true in let b = c.requires.place in omega (arith, a, b)) in
    let l = walked_below c.args.self.now c.requires.sound c.args.order.now c.loop-k.k c.requires.everyone inside in
    let e = loan_of c.args.self.now c.requires.sound (get_or c.args.order.now c.loop-k.k 0) c.args.r l c.requires.resource in
    let d = claim_of c.args.self.now c.requires.sound (get_or c.args.order.now c.loop-k.k 0) c.args.r l c.requires.resource in
    let have = c.loop-k.invariant.available in
    let more = held_more c.args.self.now c.requires.sound c.args.order.now c.loop-k.k c.args.r c.requires.everyone inside in
    let fits = c.if-saturating_sub-available.false in
    let need = c.saturating_sub.ensures in
    record {
      available = omega (arith, e, have, more);
      fits = below_more _ _ c.loop-k.invariant.fits (omega (arith, e, d, have, fits, need));
    }

pub returns : goal.returns
returns c =
    fit_by (state_of c.args.self.now) c.args.order.now c.args.place c.args.r
    (λ j l. c.loop-k.invariant.fits j (let e = c.loop-k-test.false in omega (arith, l, e)))
