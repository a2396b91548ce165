use Rattle.std.proofs.Common.{[], ◌∷◌}
use Rattle.pb_command_io.proofs.PageLemmas.{OnErr-of}
use Rattle.pb_accept.specs.Sayings.{Accepted}
use Rattle.pb_voice.proofs.TellingLemmas.{breaking_at, breaking_sooner}
use Rattle.pb_accept.proofs.WarnedLemmas.{broken_before, told_before}
use Rattle.pb_accept.proofs.check.tell_acceptance.Goals as goal

pub returns-clause-told : goal.returns-clause-told
returns-clause-told g c = told_before g.T.Teller.tells _ _ _ Accepted _ c.tell_warnings.result c.in_ok-tell.ensures.told c.tell_warnings.ensures.told

pub returns-clause-broken : goal.returns-clause-broken
returns-clause-broken g c =
    broken_before g.T.Teller.tells g.T.Teller.breaks _ _ _ Accepted _ c.tell_warnings.result c.in_ok-tell.ensures.told c.tell_warnings.ensures.broken

pub returns-in_err-tell-clause-broken : goal.returns-in_err-tell-clause-broken
returns-in_err-tell-clause-broken g c =
    OnErr-of c.from_residual.result
    (breaking_sooner g.T.Teller.tells g.T.Teller.breaks _ _ (Accepted ∷ []) _
    (breaking_at g.T.Teller.tells g.T.Teller.breaks _ _ Accepted c.in_err-tell.ensures.broken))
