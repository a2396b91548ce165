use Rattle.pb_call.specs.Calls.{CallTellsFaults, CallWrites}
use Rattle.pb_call.specs.Explained.{devices_of}
use Rattle.pb_json_lines.specs.Live.{LiveSink, seen_by_writers}
use Rattle.std.proofs.Common.{subst}
use Rattle.pb_voice.specs.declared.form.Form.TheVariants.{Lines}
use Rattle.pb_call.proofs.in_json.answer_live.Goals as goal

pub returns : goal.returns
returns g c =
    let given = c.answer-given.result in
    let heard : LiveSink = c.answer-given.new.output in
    let rest = g.I.Input.rest c.args.input.now in
    let left = g.I.Input.rest c.answer-given.new.input in
    record {
      given = given;
      heard = heard;
      writes = subst (λ (s : LiveSink). CallWrites g.C.Commands.tool g.C.Commands.MaySay Lines c.args.words.now rest (seen_by_writers s) (seen_by_writers heard) given)
          c.tell_lines.ensures c.answer-given.ensures.text;
      faults = subst (λ (s : LiveSink). CallTellsFaults g.C.Commands.tool (g.C.Commands.Leaves Lines) c.args.words.now rest left
          (devices_of (g.I.Input.failures c.args.input.now) s) (devices_of (g.I.Input.failures c.answer-given.new.input) heard) given)
          c.tell_lines.ensures c.answer-given.ensures.faults;
      ended = c.end_lines.ensures;
    }
