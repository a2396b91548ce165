use Rattle.std.proofs.Common.{ℕ, ◌-◌, get_or, arith, ap}
use Rattle.pb_banker.proofs.Capitals.{lent_of, IsSound-with_money, state_of-with_money}
use Rattle.pb_banker.proofs.TableCells.{resources_of}
use Rattle.pb_banker.proofs.accounts.Accounts.set_capital.Goals as goal

pub overflow_sub-lent : goal.overflow_sub-lent
overflow_sub-lent c = (lent_of c.args.self.now c.requires.sound c.args.r c.requires.resource).0

pub overflow_sub-self : goal.overflow_sub-self
overflow_sub-self c =
    let e = (lent_of c.args.self.now c.requires.sound c.args.r c.requires.resource).1 in
    let loans = c.requires.loans in
    omega (arith, e, loans)

pub returns-clause-sound : goal.returns-clause-sound
returns-clause-sound c =
    let e = resources_of c.args.self.now c.requires.sound in
    let few = c.requires.sound.well_formed.few_resources in
    let lent = (lent_of c.args.self.now c.requires.sound c.args.r c.requires.resource).1 in
    IsSound-with_money c.args.self.now c.requires.sound c.args.r c.args.amount
    (c.args.amount - (get_or c.args.self.now.capital c.args.r 0 - get_or c.args.self.now.cash c.args.r 0)) c.requires.resource (omega arith)
    c.requires.small c.requires.claims c.requires.loans (ap (λ (n : ℕ). c.args.amount - n) lent)

pub returns-clause-state : goal.returns-clause-state
returns-clause-state c =
    state_of-with_money c.args.self.now c.args.r c.args.amount
    (c.args.amount - (get_or c.args.self.now.capital c.args.r 0 - get_or c.args.self.now.cash c.args.r 0)) c.requires.resource
