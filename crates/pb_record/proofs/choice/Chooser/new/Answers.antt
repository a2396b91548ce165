use Rattle.pb_record.proofs.choice.Chooser.new.Goals as goal

pub returns : goal.returns
returns c = search depth 0
