use Rattle.std.proofs.Common.{refl}
use Rattle.pb_voice.specs.Tellings.{whole, broken}
use Rattle.pb_voice.proofs.TellingLemmas.{breaking_at}
use Rattle.pb_voice.specs.Held.{at}
use Rattle.pb_plan_engine.proofs.teller.tell_last.Goals as goal

pub returns-in-Ok : goal.returns-in-Ok
returns-in-Ok g c = whole c.requires ((at g.O.Output.written g.O.Output.failures c.tell.new.self c.tell.new.output), c.in-Ok.ensures.told, refl)

pub returns-in-Err : goal.returns-in-Err
returns-in-Err g c = broken (breaking_at g.T.Teller.tells g.T.Teller.breaks _ _ _ c.in-Err.ensures.broken)
