use Rattle.std.proofs.Common.{ℕ, false, get_or, sym, subst}
use Rattle.pb_base.specs.Banker.{BankerState, members, IsSafe, IsLargestStuck}
use Rattle.pb_banker.proofs.claims.change_claim.Goals as goal

pub returns-then-found-changed-clause-said : goal.returns-then-found-changed-clause-said
returns-then-found-changed-clause-said c =
    let is = c.set_claim.ensures.state in (
      λ safe. c.search-found.ensures.unfinished c.if-found-changed.true (subst IsSafe (sym is) safe),
      subst (λ (t : BankerState). IsLargestStuck t (members t (λ q. get_or c.search-found.result.waiting q false))) is
          c.search-found.ensures.stuck,
    )
