use Rattle.std.proofs.Common.{◌≤◌, ◌∙◌, inr, length, sym, subst, arith}
use Rattle.std.proofs.lemmas.Result.{MatchResult-weaker}
use Rattle.pb_base.specs.declared.limits.TheConstants.{MAX_PICKS}
use Rattle.pb_code.proofs.ListElements.{read_mapped}
use Rattle.pb_search.specs.Deadlocks.{deadlock_view}
use Rattle.pb_search.specs.declared.found.Deadlock.{Deadlock}
use Rattle.pb_search_engine.specs.Expected.{printing}
use Rattle.pb_search_engine.proofs.ExpectLemmas.{not_empty}
use Rattle.pb_search_engine.proofs.OutcomeLemmas.{deadlocks_few}
use Rattle.pb_search_engine.proofs.expect.no_other.Goals as goal

pub other_deadlock-requires : goal.other_deadlock-requires
other_deadlock-requires c =
    let few = deadlocks_few (printing c.requires.some.0) c.args.compiled.now.verified.code c.args.told.now.deadlocks.items c.requires.some.1.1 in
    let some = not_empty _ (sym c.is_empty.ensures ∙ c.if-is_empty.false) in
    subst (λ (d : Deadlock). length d.picks.items ≤ MAX_PICKS) (sym c.index.ensures) (few 0 c.index.result.now (omega (arith, some)))

pub returns : goal.returns
returns c =
    let some = not_empty _ (sym c.is_empty.ensures ∙ c.if-is_empty.false) in
    MatchResult-weaker c.other_deadlock.result c.other_deadlock.ensures
    (λ a h. inr (
      deadlock_view c.index.result.now,
      read_mapped deadlock_view c.args.told.now.deadlocks.items 0 c.index.result.now (omega (arith, some)) c.index.ensures,
      h.0,
      h.1,
    ))
    (λ e h. h)
