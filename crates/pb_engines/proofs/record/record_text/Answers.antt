use Rattle.std.proofs.Common.{ap, subst, sym}
use Rattle.pb_accept.proofs.InputLemmas.{of_fault}
use Rattle.pb_engines.specs.Records.{SaysOfRecord, refused}
use Rattle.pb_options.specs.Lends.{lending_for}
use Rattle.pb_voice.specs.Held.{at}
use Rattle.pb_engines.proofs.RecordLemmas.{can_be_told, record_is_told}
use Rattle.pb_base.specs.Lines.{names_view}
use Rattle.pb_code.specs.Whole.{Code}
use Rattle.pb_codegen.specs.Compiled.{IsCompiled}
use Rattle.pb_verifier.specs.Verified.{VerifiedCode}
use Rattle.pb_engines.proofs.record.record_text.Goals as goal

pub returns-in-Err : goal.returns-in-Err
returns-in-Err g c =
    of_fault g.T.Teller.tells g.T.Teller.breaks (SaysOfRecord (lending_for c.args.options.lend) c.args.options.run.steps c.args.options.seed)
    (at g.O.Output.written g.O.Output.failures c.args.teller.now c.args.output.now)
    (at g.O.Output.written g.O.Output.failures c.tell_fault.new.teller c.tell_fault.new.output) c.tell_fault.result c.args.text.now c.in-Err.fault c.requires
    (λ not. refused c.in-Err.fault not c.in-Err.ensures.refused) c.tell_fault.ensures.memory c.tell_fault.ensures.refused

pub tell_made-status-requires : goal.tell_made-status-requires
tell_made-status-requires g c =
    can_be_told (lending_for c.args.options.lend) c.verified-verified.result.now.code c.in-Ok.compiled.labels c.args.options.run.steps c.args.options.seed c.args.text.now
    (names_view c.code.result.now.names) c.record_picks-made.result (ap (λ (code : Code). code.names) c.code.ensures.code) c.record_picks-made.ensures.picks
    c.code.ensures.verified.faultless c.args.options.run.steps_fit

pub returns-in-Ok : goal.returns-in-Ok
returns-in-Ok g c =
    let compiled : IsCompiled c.args.text.now c.verified-verified.result.now.code c.in-Ok.compiled.labels =
    subst (λ (v : VerifiedCode). IsCompiled c.args.text.now v.code c.in-Ok.compiled.labels) (sym c.verified-verified.ensures) c.in-Ok.ensures.compiled in
    record_is_told (lending_for c.args.options.lend) c.verified-verified.result.now.code c.in-Ok.compiled.labels c.args.options.run.steps c.args.options.seed c.args.text.now
    (names_view c.code.result.now.names) c.record_picks-made.result (ap (λ (code : Code). code.names) c.code.ensures.code) c.record_picks-made.ensures.picks
    c.requires compiled c.record_picks-made.ensures.fault g.T.Teller.tells g.T.Teller.breaks
    (at g.O.Output.written g.O.Output.failures c.args.teller.now c.args.output.now)
    (at g.O.Output.written g.O.Output.failures c.tell_made-status.new.teller c.tell_made-status.new.output) c.tell_made-status.result
    c.tell_made-status.ensures
