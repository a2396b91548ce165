use Rattle.pb_voice.specs.Tellings.{whole, broken}
use Rattle.pb_plan_engine.proofs.teller.tell_all.Goals as goal

pub returns-in-Ok : goal.returns-in-Ok
returns-in-Ok g c = whole c.requires c.in-Ok.ensures.told

pub returns-in-Err : goal.returns-in-Err
returns-in-Err g c = broken c.in-Err.ensures.broken
