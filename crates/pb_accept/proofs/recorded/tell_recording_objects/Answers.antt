use Rattle.std.proofs.Common.{codes, refl}
use Rattle.std.specs.List.{flat_map}
use Rattle.std.proofs.lemmas.Result.{on_ok_weaker, on_err_weaker}
use Rattle.pb_accept.specs.Recordings.{pick_json}
use Rattle.pb_base.specs.Lines.{names_view}
use Rattle.pb_command_io.proofs.PageLemmas.{OnErr-of}
use Rattle.pb_voice.specs.Held.{at}
use Rattle.pb_voice.specs.Texts.{lines_json}
use Rattle.pb_accept.proofs.ShownLemmas.{first_breaks, second_breaks, third_breaks, three_added}
use Rattle.pb_accept.proofs.recorded.tell_recording_objects.Goals as goal

pub returns-in_err-say_lines-clause-err : goal.returns-in_err-say_lines-clause-err
returns-in_err-say_lines-clause-err g c =
    let names = names_view c.args.recording.names.now in
    let before = at g.O.Output.written g.O.Output.failures c.args.voice.now c.args.output.now in
    let first = at g.O.Output.written g.O.Output.failures c.say_lines.new.voice c.say_lines.new.output in
    OnErr-of c.from_residual.result
    (first_breaks before first first first (lines_json (codes "source") c.args.recording.text.now) (codes "{\"kind\":\"picks follow\"}\n") (flat_map (pick_json names) c.args.recording.picks.now)
    _ (refl)
    c.in_err-say_lines.ensures.err)

pub returns-in_err-say-clause-err : goal.returns-in_err-say-clause-err
returns-in_err-say-clause-err g c =
    let names = names_view c.args.recording.names.now in
    let before = at g.O.Output.written g.O.Output.failures c.args.voice.now c.args.output.now in
    let first = at g.O.Output.written g.O.Output.failures c.say_lines.new.voice c.say_lines.new.output in
    let second = at g.O.Output.written g.O.Output.failures c.say.new.self c.say.new.output in
    OnErr-of c.from_residual-in_err-say.result
    (second_breaks before first second second (lines_json (codes "source") c.args.recording.text.now) (codes "{\"kind\":\"picks follow\"}\n") (flat_map (pick_json names) c.args.recording.picks.now)
    _ (refl)
    c.in_ok-say_lines.ensures.ok c.in_err-say.ensures.err)

pub returns-clause-ok : goal.returns-clause-ok
returns-clause-ok g c =
    let names = names_view c.args.recording.names.now in
    let before = at g.O.Output.written g.O.Output.failures c.args.voice.now c.args.output.now in
    let first = at g.O.Output.written g.O.Output.failures c.say_lines.new.voice c.say_lines.new.output in
    let second = at g.O.Output.written g.O.Output.failures c.say.new.self c.say.new.output in
    let after = at g.O.Output.written g.O.Output.failures c.tell_pick_objects.new.voice c.tell_pick_objects.new.output in
    on_ok_weaker c.tell_pick_objects.result
    (λ last. three_added before first second after (lines_json (codes "source") c.args.recording.text.now) (codes "{\"kind\":\"picks follow\"}\n") (flat_map (pick_json names) c.args.recording.picks.now)
    _ (refl)
    c.in_ok-say_lines.ensures.ok c.in_ok-say.ensures.ok last)
    c.tell_pick_objects.ensures.ok

pub returns-clause-err : goal.returns-clause-err
returns-clause-err g c =
    let names = names_view c.args.recording.names.now in
    let before = at g.O.Output.written g.O.Output.failures c.args.voice.now c.args.output.now in
    let first = at g.O.Output.written g.O.Output.failures c.say_lines.new.voice c.say_lines.new.output in
    let second = at g.O.Output.written g.O.Output.failures c.say.new.self c.say.new.output in
    let after = at g.O.Output.written g.O.Output.failures c.tell_pick_objects.new.voice c.tell_pick_objects.new.output in
    on_err_weaker c.tell_pick_objects.result
    (λ last. third_breaks before first second after (lines_json (codes "source") c.args.recording.text.now) (codes "{\"kind\":\"picks follow\"}\n") (flat_map (pick_json names) c.args.recording.picks.now)
    _ (refl)
    c.in_ok-say_lines.ensures.ok c.in_ok-say.ensures.ok last)
    c.tell_pick_objects.ensures.err
