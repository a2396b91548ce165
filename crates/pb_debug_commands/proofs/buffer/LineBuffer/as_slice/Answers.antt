use Rattle.pb_debug_commands.proofs.buffer.LineBuffer.as_slice.Goals as goal

pub shared_ref_as_front-result : goal.shared_ref_as_front-result
shared_ref_as_front-result c = search depth 0
