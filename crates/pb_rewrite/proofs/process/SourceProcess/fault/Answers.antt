use Rattle.pb_rewrite.proofs.process.SourceProcess.fault.Goals as goal

pub returns : goal.returns
returns g c = search
