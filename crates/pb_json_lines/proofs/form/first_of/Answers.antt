use Rattle.std.proofs.Common.{List, ℕ, sym, ap, ◌∙◌, arith}
use Rattle.pb_json_lines.specs.PlainForms.{plain_form}
use Rattle.pb_json_lines.specs.Patterns.{fits}
use Rattle.pb_json_lines.proofs.FormLemmas.{form_found, form_missing}
use Rattle.pb_json_lines.proofs.form.first_of.Goals as goal

pub returns-then-fits : goal.returns-then-fits
returns-then-fits c =
    let fit = ap (λ (p : List ℕ). fits p c.args.line.now) (sym c.as_bytes.ensures.value) ∙ (sym c.fits.ensures ∙ c.if-fits.true) in
    form_found c.args.line.now (plain_form c.args.otherwise.now) c.args.forms.now c.loop-i.i _ (omega arith) fit c.loop-i.invariant

pub returns : goal.returns
returns c =
    form_missing c.args.line.now (plain_form c.args.otherwise.now) c.args.forms.now c.loop-i.i (omega arith) c.loop-i.invariant
