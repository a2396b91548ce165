use Rattle.std.proofs.Common.{true, [], ◌∷◌, refl}
use Rattle.pb_accept.specs.Checks.{ill}
use Rattle.pb_accept.specs.Sayings.{Refused}
use Rattle.pb_voice.proofs.TellingLemmas.{breaking_at}
use Rattle.pb_voice.specs.Held.{at}
use Rattle.pb_accept.proofs.check.tell_refusal.Goals as goal

pub returns-in-Ok : goal.returns-in-Ok
returns-in-Ok g c = λ warn. (
  Refused c.args.fault.now ∷ [],
  ill c.args.fault.now c.in_default.not-Memory c.requires,
  ((at g.O.Output.written g.O.Output.failures c.tell.new.self c.tell.new.output), c.in-Ok.ensures.told, refl),
)

pub returns-in-Err : goal.returns-in-Err
returns-in-Err g c = λ warn. (
  Refused c.args.fault.now ∷ [],
  true,
  ill c.args.fault.now c.in_default.not-Memory c.requires,
  breaking_at g.T.Teller.tells g.T.Teller.breaks _ _ _ c.in-Err.ensures.broken,
)
