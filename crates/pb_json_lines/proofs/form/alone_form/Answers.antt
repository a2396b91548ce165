use Rattle.std.proofs.Common.{List, ap, ◌∙◌}
use Rattle.pb_json_lines.specs.Forms.{first_of, forms_of}
use Rattle.pb_json_lines.specs.PlainForms.{PlainForm, plain_form}
use Rattle.pb_json_lines.proofs.form.alone_form.Goals as goal

pub returns : goal.returns
returns c =
    let line = c.args.line.now in
    c.first_of.ensures
    ∙ (ap (λ (fs : List PlainForm). first_of fs (plain_form c.other_of.result.now) line) c.forms_of.ensures
    ∙ ap (λ (f : PlainForm). first_of (forms_of c.args.dialect) f line) c.other_of.ensures)
