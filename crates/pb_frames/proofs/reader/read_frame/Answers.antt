use Rattle.std.proofs.Common.{Option, Some, IfSome, ℕ, arith, subst}
use Rattle.pb_frames.specs.Frames.{IsHeadRead}
use Rattle.pb_frames.proofs.ContentLemmas.{frame_part}
use Rattle.pb_frames.proofs.reader.read_frame.Goals as goal

pub returns-in-Err-clause-part : goal.returns-in-Err-clause-part
returns-in-Err-clause-part g c = λ device.
    frame_part (g.I.Input.rest c.args.input.now) (g.I.Input.rest c.read_head.new.input) (g.I.Input.rest c.read_content.new.input) c.in-Some.size (omega arith)
    (subst (λ (o : Option ℕ). IfSome (g.I.Input.rest c.args.input.now) (λ bytes. IsHeadRead bytes o (g.I.Input.rest c.read_head.new.input)))
    c.in-Some.is c.in_ok-size.ensures.size)
    (c.in-Err.ensures.part device)
