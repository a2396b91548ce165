use Rattle.std.proofs.Common.{ap}
use Rattle.pb_accept.proofs.InputLemmas.{of_fault}
use Rattle.pb_draw_engine.specs.Draws.{SaysOfDraw, no_text}
use Rattle.pb_draw_engine.proofs.DrawLemmas.{lines_told}
use Rattle.pb_voice.specs.Held.{at}
use Rattle.pb_draw_engine.proofs.draw.draw_bytes.Goals as goal

pub returns-in-Ok : goal.returns-in-Ok
returns-in-Ok g c =
    lines_told g.T.Teller.tells g.T.Teller.breaks (at g.O.Output.written g.O.Output.failures c.args.teller.now c.args.output.now)
    (at g.O.Output.written g.O.Output.failures c.draw_lines-status.new.teller c.draw_lines-status.new.output) c.draw_lines-status.result
    c.args.lending c.args.size c.args.bytes.now c.two_parts.result.0.now c.two_parts.result.1.now _ _ _ _
    c.requires c.two_parts.ensures c.in-Ok.ensures.compiled (ap (λ v. v.code) c.verified.ensures) c.labels.ensures.labels
    c.draw_lines-status.ensures

pub returns-in-Err : goal.returns-in-Err
returns-in-Err g c =
    of_fault g.T.Teller.tells g.T.Teller.breaks (SaysOfDraw c.args.lending c.args.size) (at g.O.Output.written g.O.Output.failures c.args.teller.now c.args.output.now)
    (at g.O.Output.written g.O.Output.failures c.tell_fault.new.teller c.tell_fault.new.output) c.tell_fault.result c.args.bytes.now c.in-Err.fault
    c.requires (λ not. no_text c.two_parts.result.0.now c.two_parts.result.1.now c.two_parts.ensures c.in-Err.fault not c.in-Err.ensures.refused)
    c.tell_fault.ensures.memory c.tell_fault.ensures.refused
