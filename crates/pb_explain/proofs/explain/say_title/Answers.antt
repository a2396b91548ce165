use Rattle.std.proofs.Common.{◌≡◌, ◌∙◌, sym, subst}
use Rattle.std.specs.Prelude.{OnErr, OnOk}
use Rattle.pb_explain.specs.Explanation.{plain_entry}
use Rattle.pb_explain.specs.Pages.{title_in}
use Rattle.pb_voice.specs.Held.{at}
use Rattle.pb_voice.specs.Voices.{Adds, Breaks}
use Rattle.pb_voice.specs.declared.form.Form.{Form}
use Rattle.pb_voice.specs.declared.form.Form.TheVariants.{Objects}
use Rattle.pb_explain.proofs.explain.say_title.Goals as goal

pub returns-in-Objects-clause-ok : goal.returns-in-Objects-clause-ok
returns-in-Objects-clause-ok g c =
    let form : c.args.voice.now.form ≡ Objects = sym c.form.ensures ∙ c.in-Objects.is in
    subst (λ (f : Form). OnOk c.say_pieces.result (Adds (at g.O.Output.written g.O.Output.failures c.args.voice.now c.args.output.now)
    (title_in f c.args.code (plain_entry c.args.entry.now)) (at g.O.Output.written g.O.Output.failures c.say_pieces.new.voice c.say_pieces.new.output))) (sym form)
    (rw (c.as_bytes-in-Objects.ensures.value, c.name-in-Objects.ensures, c.as_bytes-in-Objects-2.ensures.value) at c.say_pieces.ensures.ok)

pub returns-in-Objects-clause-err : goal.returns-in-Objects-clause-err
returns-in-Objects-clause-err g c =
    let form : c.args.voice.now.form ≡ Objects = sym c.form.ensures ∙ c.in-Objects.is in
    subst (λ (f : Form). OnErr c.say_pieces.result (Breaks (at g.O.Output.written g.O.Output.failures c.args.voice.now c.args.output.now)
    (title_in f c.args.code (plain_entry c.args.entry.now)) (at g.O.Output.written g.O.Output.failures c.say_pieces.new.voice c.say_pieces.new.output))) (sym form)
    (rw (c.as_bytes-in-Objects.ensures.value, c.name-in-Objects.ensures, c.as_bytes-in-Objects-2.ensures.value) at c.say_pieces.ensures.err)
