use Rattle.std.proofs.Common.{◌∙◌, arith}
use Rattle.pb_debug_engine.proofs.LiveLemmas.{device_told, live_answered, live_told, unread_answered, unread_device}
use Rattle.pb_debug_engine.proofs.LiveLemmas.{unread_told}
use Rattle.pb_debug_engine.proofs.PartLemmas.{takes_then}
use Rattle.pb_debug.proofs.LineParts.{takes_fewer}
use Rattle.pb_debug_engine.proofs.live.debug_live_engine.Goals as goal

pub returns-in-Ok-clause-text : goal.returns-in-Ok-clause-text
returns-in-Ok-clause-text g c =
    live_told c.args.lending (g.I.Input.rest c.args.input.now) (g.I.Input.rest c.read_first_parts.new.input) _ _ c.in-Ok.parts.source.items
    c.in-Ok.parts.lines.items c.as_slice.result.now c.as_slice-in-Ok.result.now c.debug_parts.result c.in-Ok.ensures.parts
    c.as_slice.ensures.value c.as_slice-in-Ok.ensures.value c.debug_parts.ensures.text

pub returns-in-Err-clause-text : goal.returns-in-Err-clause-text
returns-in-Err-clause-text g c =
    unread_told c.args.lending c.in-Err.fault (g.I.Input.rest c.args.input.now) _ _ c.tell_unread.result c.in-Err.ensures.long c.tell_unread.ensures.text

pub returns-in-Ok-clause-device : goal.returns-in-Ok-clause-device
returns-in-Ok-clause-device g c grew =
    device_told
    (record {
      reads = g.I.Input.failures c.read_first_parts.new.input;
      writes = g.O.Output.failures c.args.output.now;
      written = g.O.Output.written c.args.output.now;
    })
    (record {
      reads = g.I.Input.failures c.debug_parts.new.commands;
      writes = g.O.Output.failures c.debug_parts.new.output;
      written = g.O.Output.written c.debug_parts.new.output;
    })
    c.debug_parts.result c.debug_parts.ensures.faults (λ same. grew (same ∙ c.in-Ok.ensures.counted))

pub returns-in-Ok-clause-answered : goal.returns-in-Ok-clause-answered
returns-in-Ok-clause-answered g c grew =
    live_answered c.args.lending (g.I.Input.rest c.args.input.now) (g.I.Input.rest c.read_first_parts.new.input) _ _ _ c.in-Ok.parts.source.items
    c.in-Ok.parts.lines.items c.as_slice.result.now c.as_slice-in-Ok.result.now c.in-Ok.ensures.parts c.as_slice.ensures.value
    c.as_slice-in-Ok.ensures.value (c.debug_parts.ensures.answered (λ same. grew (same ∙ c.in-Ok.ensures.counted)))

pub returns-in-Err-clause-device : goal.returns-in-Err-clause-device
returns-in-Err-clause-device g c grew =
    unread_device _ _ _ _ c.tell_unread.result grew c.in-Err.fault c.in-Err.ensures.no_fault c.tell_unread.ensures.text

pub returns-in-Err-clause-answered : goal.returns-in-Err-clause-answered
returns-in-Err-clause-answered g c grew =
    unread_answered _ _ _ _ c.tell_unread.result grew c.args.lending c.in-Err.fault (g.I.Input.rest c.args.input.now) _ c.in-Err.ensures.no_fault
    c.in-Err.ensures.early c.tell_unread.ensures.text

pub returns-in-Ok-clause-taken : goal.returns-in-Ok-clause-taken
returns-in-Ok-clause-taken g c =
    takes_then (g.I.Input.rest c.args.input.now) (g.I.Input.rest c.read_first_parts.new.input) _ 8388608 4194304 _ c.in-Ok.ensures.within
    c.debug_parts.ensures.taken (omega arith)

pub returns-in-Err-clause-taken : goal.returns-in-Err-clause-taken
returns-in-Err-clause-taken g c =
    takes_fewer (g.I.Input.rest c.args.input.now) (g.I.Input.rest c.read_first_parts.new.input) 8388609 _ c.read_first_parts.ensures.taken (omega arith)
