use Rattle.std.proofs.Common.{◌≡◌, ◌∙◌, sym, subst}
use Rattle.std.specs.Prelude.{OnErr, OnOk}
use Rattle.pb_call.specs.Calls.{elsewhere}
use Rattle.pb_voice.specs.Held.{at}
use Rattle.pb_voice.specs.Voices.{Adds, Breaks}
use Rattle.pb_voice.specs.declared.form.Form.{Form}
use Rattle.pb_voice.specs.declared.form.Form.TheVariants.{Lines, Objects}
use Rattle.pb_call.proofs.answer.say_tool.Goals as goal

pub returns-in-Lines-clause-ok : goal.returns-in-Lines-clause-ok
returns-in-Lines-clause-ok g c =
    let form : c.args.voice.now.form ≡ Lines = sym c.form.ensures ∙ c.in-Lines.is in
    subst (λ (f : Form). OnOk c.say_all.result (Adds (at g.O.Output.written g.O.Output.failures c.args.voice.now c.args.output.now)
    (elsewhere f c.args.tool) (at g.O.Output.written g.O.Output.failures c.say_all.new.self c.say_all.new.output))) (sym form)
    (rw (c.as_bytes.ensures.value, c.name.ensures) at c.say_all.ensures.ok)

pub returns-in-Lines-clause-err : goal.returns-in-Lines-clause-err
returns-in-Lines-clause-err g c =
    let form : c.args.voice.now.form ≡ Lines = sym c.form.ensures ∙ c.in-Lines.is in
    subst (λ (f : Form). OnErr c.say_all.result (Breaks (at g.O.Output.written g.O.Output.failures c.args.voice.now c.args.output.now)
    (elsewhere f c.args.tool) (at g.O.Output.written g.O.Output.failures c.say_all.new.self c.say_all.new.output))) (sym form)
    (rw (c.as_bytes.ensures.value, c.name.ensures) at c.say_all.ensures.err)

pub returns-in-Objects-clause-ok : goal.returns-in-Objects-clause-ok
returns-in-Objects-clause-ok g c =
    let form : c.args.voice.now.form ≡ Objects = sym c.form.ensures ∙ c.in-Objects.is in
    subst (λ (f : Form). OnOk c.say_all-in-Objects.result (Adds (at g.O.Output.written g.O.Output.failures c.args.voice.now c.args.output.now)
    (elsewhere f c.args.tool) (at g.O.Output.written g.O.Output.failures c.say_all-in-Objects.new.self c.say_all-in-Objects.new.output))) (sym form)
    (rw (c.as_bytes-in-Objects.ensures.value, c.name-in-Objects.ensures) at c.say_all-in-Objects.ensures.ok)

pub returns-in-Objects-clause-err : goal.returns-in-Objects-clause-err
returns-in-Objects-clause-err g c =
    let form : c.args.voice.now.form ≡ Objects = sym c.form.ensures ∙ c.in-Objects.is in
    subst (λ (f : Form). OnErr c.say_all-in-Objects.result (Breaks (at g.O.Output.written g.O.Output.failures c.args.voice.now c.args.output.now)
    (elsewhere f c.args.tool) (at g.O.Output.written g.O.Output.failures c.say_all-in-Objects.new.self c.say_all-in-Objects.new.output))) (sym form)
    (rw (c.as_bytes-in-Objects.ensures.value, c.name-in-Objects.ensures) at c.say_all-in-Objects.ensures.err)
