use Rattle.std.proofs.Common.{Some, map, refl, ap, subst}
use Rattle.std.specs.Borrow.{Bor}
use Rattle.clap.specs.Words.{Text}
use Rattle.pb_call.specs.Calls.{CallTellsFaults, CallWrites}
use Rattle.pb_command_io.specs.Faults.{Devices}
use Rattle.pb_json_lines.specs.Dialects.{dialect_of}
use Rattle.pb_json_lines.specs.Replies.{Gathering, ReadFailed, SaysInJson}
use Rattle.pb_json_lines.specs.declared.form.Dialect.{Dialect}
use Rattle.pb_json_lines.proofs.ReplyLemmas.{told_faults, told_text}
use Rattle.pb_call.proofs.JsonLemmas.{gathered_faults}
use Rattle.pb_voice.specs.declared.form.Form.TheVariants.{Lines}
use Rattle.pb_call.proofs.in_json.answer_at_the_end.Goals as goal

pub returns-clause-text : goal.returns-clause-text
returns-clause-text g c =
    let started : Gathering → Devices = λ m. record { reads = g.I.Input.failures c.args.input.now; writes = m.failures; written = Some m.bytes } in
    let ended : Devices =
    record { reads = g.I.Input.failures c.answer-given.new.input; writes = c.answer-given.new.output.failures; written = Some c.answer-given.new.output.bytes } in
    let faults = subst (λ (m : Gathering). CallTellsFaults g.C.Commands.tool (g.C.Commands.Leaves Lines) c.args.words.now (g.I.Input.rest c.args.input.now) (g.I.Input.rest c.answer-given.new.input)
    (started m) ended c.answer-given.result) c.new-gathered.ensures c.answer-given.ensures.faults in
    let tells = gathered_faults g.C.Commands.tool (g.C.Commands.Leaves Lines) c.args.words.now (g.I.Input.rest c.args.input.now) (g.I.Input.rest c.answer-given.new.input)
    (g.I.Input.failures c.args.input.now) (g.I.Input.failures c.answer-given.new.input) c.answer-given.new.output.failures
    c.answer-given.new.output.bytes c.answer-given.result faults in
    let writes = subst (λ (m : Gathering). CallWrites g.C.Commands.tool g.C.Commands.MaySay Lines c.args.words.now (g.I.Input.rest c.args.input.now) (Some m.bytes)
    (Some c.answer-given.new.output.bytes) c.answer-given.result) c.new-gathered.ensures c.answer-given.ensures.text in (
      c.answer-given.new.output.bytes,
      c.answer-given.result,
      writes,
      told_text (dialect_of (map (λ (w : Bor Text). w.now) c.args.words.now) c.answer-given.result) c.answer-given.new.output.bytes c.answer-given.result c.tell_json.result (g.I.Input.failures c.args.input.now)
          (g.I.Input.failures c.answer-given.new.input) c.answer-given.new.output.failures (record { reads = g.I.Input.failures c.args.input.now; writes = g.O.Output.failures c.args.output.now; written = g.O.Output.written c.args.output.now })
          (record { reads = g.I.Input.failures c.answer-given.new.input; writes = g.O.Output.failures c.tell_json.new.output; written = g.O.Output.written c.tell_json.new.output }) refl refl tells
          (λ r. (let nothing = c.tell_json.ensures.unread r in
          (ap (λ o. g.O.Output.failures o) nothing.0, ap (λ o. g.O.Output.written o) nothing.0, nothing.1)))
          (subst (λ (d : Dialect). (ReadFailed c.answer-given.result c.answer-given.new.output.failures → ⊥)
          → SaysInJson d c.answer-given.new.output.bytes c.answer-given.result (g.O.Output.written c.args.output.now)
          (g.O.Output.written c.tell_json.new.output) c.tell_json.result) c.dialect_of.ensures c.tell_json.ensures.text)
          c.tell_json.ensures.faults,
    )

pub returns-clause-faults : goal.returns-clause-faults
returns-clause-faults g c =
    let started : Gathering → Devices = λ m. record { reads = g.I.Input.failures c.args.input.now; writes = m.failures; written = Some m.bytes } in
    let ended : Devices =
    record { reads = g.I.Input.failures c.answer-given.new.input; writes = c.answer-given.new.output.failures; written = Some c.answer-given.new.output.bytes } in
    let faults = subst (λ (m : Gathering). CallTellsFaults g.C.Commands.tool (g.C.Commands.Leaves Lines) c.args.words.now (g.I.Input.rest c.args.input.now) (g.I.Input.rest c.answer-given.new.input)
    (started m) ended c.answer-given.result) c.new-gathered.ensures c.answer-given.ensures.faults in
    let tells = gathered_faults g.C.Commands.tool (g.C.Commands.Leaves Lines) c.args.words.now (g.I.Input.rest c.args.input.now) (g.I.Input.rest c.answer-given.new.input)
    (g.I.Input.failures c.args.input.now) (g.I.Input.failures c.answer-given.new.input) c.answer-given.new.output.failures
    c.answer-given.new.output.bytes c.answer-given.result faults in
    told_faults c.dialect_of.result c.answer-given.new.output.bytes c.answer-given.result c.tell_json.result (g.I.Input.failures c.args.input.now)
    (g.I.Input.failures c.answer-given.new.input) c.answer-given.new.output.failures (record { reads = g.I.Input.failures c.args.input.now; writes = g.O.Output.failures c.args.output.now; written = g.O.Output.written c.args.output.now })
    (record { reads = g.I.Input.failures c.answer-given.new.input; writes = g.O.Output.failures c.tell_json.new.output; written = g.O.Output.written c.tell_json.new.output }) refl refl tells
    (λ r. (let nothing = c.tell_json.ensures.unread r in
    (ap (λ o. g.O.Output.failures o) nothing.0, ap (λ o. g.O.Output.written o) nothing.0, nothing.1)))
    c.tell_json.ensures.text c.tell_json.ensures.faults
