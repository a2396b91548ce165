use Rattle.std.proofs.Common.{false, get_or, arith, sym, subst}
use Rattle.pb_base.specs.Banker.{BankerState, members, IsSafe, IsLargestStuck}
use Rattle.pb_banker.proofs.Capitals.{lent_of}
use Rattle.pb_banker.proofs.changes.change_capital.Goals as goal

pub set_capital-requires-clause-loans : goal.set_capital-requires-clause-loans
set_capital-requires-clause-loans c =
    let e = (lent_of c.args.accounts.now c.requires.sound c.args.r c.requires.resource).1 in
    omega arith

pub set_capital-requires-2-clause-loans : goal.set_capital-requires-2-clause-loans
set_capital-requires-2-clause-loans c =
    let e = (lent_of c.args.accounts.now c.requires.sound c.args.r c.requires.resource).1 in
    omega arith

pub returns-then-found-changed-clause-said : goal.returns-then-found-changed-clause-said
returns-then-found-changed-clause-said c =
    let e = (lent_of c.args.accounts.now c.requires.sound c.args.r c.requires.resource).1 in
    let is = c.set_capital.ensures.state in (
      c.if-is_claimed.ensures.within,
      omega arith,
      λ safe. c.search-found.ensures.unfinished c.if-found-changed.true (subst IsSafe (sym is) safe),
      subst (λ (t : BankerState). IsLargestStuck t (members t (λ q. get_or c.search-found.result.waiting q false))) is
          c.search-found.ensures.stuck,
    )
