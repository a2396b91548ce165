use Rattle.pb_bank_engine.proofs.line.Line.as_slice.Goals as goal

pub shared_ref_as_front-result : goal.shared_ref_as_front-result
shared_ref_as_front-result c = search depth 0
