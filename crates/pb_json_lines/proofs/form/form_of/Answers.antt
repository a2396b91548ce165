use Rattle.std.proofs.Common.{List, ap, ◌∙◌}
use Rattle.pb_json_lines.specs.Forms.{first_of}
use Rattle.pb_json_lines.specs.PlainForms.{PlainForm, plain_form}
use Rattle.pb_json_lines.proofs.FormLemmas.{open_form, not_open_form}
use Rattle.pb_json_lines.proofs.form.form_of.Goals as goal

pub returns-then-is_open : goal.returns-then-is_open
returns-then-is_open c =
    let line = c.args.line.now in
    let alone = plain_form c.alone_form-alone.result.now in
    c.first_of.ensures
    ∙ (ap (λ (fs : List PlainForm). first_of fs alone line) c.parts.ensures
    ∙ open_form line c.args.dialect c.args.is_open alone c.if-is_open.true c.alone_form-alone.ensures)

pub returns-else-is_open : goal.returns-else-is_open
returns-else-is_open c =
    not_open_form c.args.line.now c.args.dialect c.args.is_open (plain_form c.alone_form-alone.result.now) c.if-is_open.false
    c.alone_form-alone.ensures
