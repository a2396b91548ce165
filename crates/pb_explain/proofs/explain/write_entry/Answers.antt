use Rattle.std.proofs.Common.{◌≡◌, ◌++◌, ◌∙◌, ℕ, List, ap, subst}
use Rattle.pb_command_io.specs.Answers.{Says}
use Rattle.pb_command_io.specs.declared.status.Status.TheVariants.{Done, Memory}
use Rattle.pb_explain.specs.Explanation.{Explanation, plain_entry}
use Rattle.pb_explain.specs.Pages.{body_text, explained, no_memory, page_of, page_of_entry, title_in}
use Rattle.pb_voice.specs.Texts.{memory_in, text_as}
use Rattle.pb_explain.proofs.explain.write_entry.Goals as goal

pub returns-in-Ok-clause-text : goal.returns-in-Ok-clause-text
returns-in-Ok-clause-text g c =
    let entry = plain_entry c.entry_for-entry.result in
    let body : c.deref.result.now ≡ body_text entry = c.deref.ensures.value ∙ c.in-Ok.ensures in
    let whole : title_in c.args.form c.args.code entry ++ text_as c.args.form c.deref.result.now ≡ page_of c.args.form c.args.code =
    ap (λ (t : List ℕ). title_in c.args.form c.args.code entry ++ text_as c.args.form t) body
    ∙ ap (λ (e : Explanation). page_of_entry c.args.form c.args.code e) c.entry_for-entry.ensures in (
      page_of c.args.form c.args.code,
      Done,
      explained,
      subst (λ (t : List ℕ). Says (g.O.Output.written c.args.output.now) (g.O.Output.written c.write_page.new.output) t Done c.write_page.result)
          whole c.write_page.ensures.text,
    )

pub returns-in-Err-clause-text : goal.returns-in-Err-clause-text
returns-in-Err-clause-text g c = (memory_in c.args.form, Memory, no_memory, c.write_memory.ensures.text)
