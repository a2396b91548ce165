use Rattle.std.proofs.Common.{List, ℕ, subst}
use Rattle.pb_accept.proofs.ReplayLemmas.{text_is_short}
use Rattle.pb_command_io.specs.Answers.{Tells}
use Rattle.pb_debug_engine.specs.Debugs.{SaysOfParts}
use Rattle.pb_debug_engine.proofs.DebugLemmas.{bytes_told, only_writes_fail}
use Rattle.pb_debug_engine.proofs.debug.debug_bytes.Goals as goal

pub debug_parts-requires : goal.debug_parts-requires
debug_parts-requires g c =
    text_is_short c.args.bytes.now c.two_parts.result.0.now c.two_parts.result.1.now c.two_parts.ensures c.requires

pub returns-clause-text : goal.returns-clause-text
returns-clause-text g c =
    let source = c.two_parts.result.0.now in
    let lines = c.two_parts-2.result.0.now in
    let old = g.O.Output.written c.args.output.now in
    let new = g.O.Output.written c.debug_parts.new.output in
    bytes_told c.args.bytes.now source c.two_parts.result.1.now lines c.two_parts-2.result.1.now old new
    c.debug_parts.result c.requires c.two_parts.ensures c.two_parts-2.ensures
    (subst (λ (commands : List ℕ). Tells (SaysOfParts c.args.lending source lines commands) old new c.debug_parts.result) c.new.ensures
    c.debug_parts.ensures.text)

pub returns-clause-faults : goal.returns-clause-faults
returns-clause-faults g c =
    only_writes_fail _ _ (g.O.Output.written c.args.output.now) (g.O.Output.written c.debug_parts.new.output) c.debug_parts.result
    c.debug_parts.ensures.faults
