use Rattle.std.proofs.Common.{◌++◌, ℕ, List, ap, codes}
use Rattle.std.specs.List.{flat_map}
use Rattle.std.proofs.lemmas.Result.{on_ok_weaker, on_err_weaker}
use Rattle.pb_base.specs.Lines.{line, names_view}
use Rattle.pb_command_io.proofs.PageLemmas.{OnErr-of}
use Rattle.pb_picks.specs.PickLines.{pick_line}
use Rattle.pb_voice.specs.Held.{at}
use Rattle.pb_accept.proofs.RecordedLemmas.{line_by_line}
use Rattle.pb_accept.proofs.ShownLemmas.{first_breaks, second_breaks, third_breaks, three_added}
use Rattle.pb_accept.proofs.recorded.tell_recording_lines.Goals as goal

pub returns-in_err-say-clause-err : goal.returns-in_err-say-clause-err
returns-in_err-say-clause-err g c =
    let names = names_view c.args.recording.names.now in
    let before = at g.O.Output.written g.O.Output.failures c.args.voice.now c.args.output.now in
    let first = at g.O.Output.written g.O.Output.failures c.say.new.self c.say.new.output in
    OnErr-of c.from_residual.result
    (first_breaks before first first first (c.args.recording.text.now) (codes "%%\n") (flat_map (λ pick. line (pick_line names.processes pick)) c.args.recording.picks.now)
    _ (ap (λ (l : List ℕ). c.args.recording.text.now ++ (codes "%%\n" ++ l)) (line_by_line names.processes c.args.recording.picks.now))
    c.in_err-say.ensures.err)

pub returns-in_err-say-2-clause-err : goal.returns-in_err-say-2-clause-err
returns-in_err-say-2-clause-err g c =
    let names = names_view c.args.recording.names.now in
    let before = at g.O.Output.written g.O.Output.failures c.args.voice.now c.args.output.now in
    let first = at g.O.Output.written g.O.Output.failures c.say.new.self c.say.new.output in
    let second = at g.O.Output.written g.O.Output.failures c.say-2.new.self c.say-2.new.output in
    OnErr-of c.from_residual-in_err-say-2.result
    (second_breaks before first second second (c.args.recording.text.now) (codes "%%\n") (flat_map (λ pick. line (pick_line names.processes pick)) c.args.recording.picks.now)
    _ (ap (λ (l : List ℕ). c.args.recording.text.now ++ (codes "%%\n" ++ l)) (line_by_line names.processes c.args.recording.picks.now))
    c.in_ok-say.ensures.ok c.in_err-say-2.ensures.err)

pub returns-clause-ok : goal.returns-clause-ok
returns-clause-ok g c =
    let names = names_view c.args.recording.names.now in
    let before = at g.O.Output.written g.O.Output.failures c.args.voice.now c.args.output.now in
    let first = at g.O.Output.written g.O.Output.failures c.say.new.self c.say.new.output in
    let second = at g.O.Output.written g.O.Output.failures c.say-2.new.self c.say-2.new.output in
    let after = at g.O.Output.written g.O.Output.failures c.tell_pick_lines.new.voice c.tell_pick_lines.new.output in
    on_ok_weaker c.tell_pick_lines.result
    (λ last. three_added before first second after (c.args.recording.text.now) (codes "%%\n") (flat_map (λ pick. line (pick_line names.processes pick)) c.args.recording.picks.now)
    _ (ap (λ (l : List ℕ). c.args.recording.text.now ++ (codes "%%\n" ++ l)) (line_by_line names.processes c.args.recording.picks.now))
    c.in_ok-say.ensures.ok c.in_ok-say-2.ensures.ok last)
    c.tell_pick_lines.ensures.ok

pub returns-clause-err : goal.returns-clause-err
returns-clause-err g c =
    let names = names_view c.args.recording.names.now in
    let before = at g.O.Output.written g.O.Output.failures c.args.voice.now c.args.output.now in
    let first = at g.O.Output.written g.O.Output.failures c.say.new.self c.say.new.output in
    let second = at g.O.Output.written g.O.Output.failures c.say-2.new.self c.say-2.new.output in
    let after = at g.O.Output.written g.O.Output.failures c.tell_pick_lines.new.voice c.tell_pick_lines.new.output in
    on_err_weaker c.tell_pick_lines.result
    (λ last. third_breaks before first second after (c.args.recording.text.now) (codes "%%\n") (flat_map (λ pick. line (pick_line names.processes pick)) c.args.recording.picks.now)
    _ (ap (λ (l : List ℕ). c.args.recording.text.now ++ (codes "%%\n" ++ l)) (line_by_line names.processes c.args.recording.picks.now))
    c.in_ok-say.ensures.ok c.in_ok-say-2.ensures.ok last)
    c.tell_pick_lines.ensures.err
