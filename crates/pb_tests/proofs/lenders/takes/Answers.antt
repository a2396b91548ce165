use Rattle.pb_tests.proofs.lenders.takes.Goals as goal

pub returns-in-Did-Granted : goal.returns-in-Did-Granted
returns-in-Did-Granted c = (c.requires.0, c.step.ensures.machine c.requires.0 c.requires.1)
