use Rattle.std.proofs.Common.{ℕ, List, sym, ap, subst, ◌∙◌}
use Rattle.std.specs.Str.{IsUtf8}
use Rattle.pb_picks.specs.PickLines.{is_plain}
use Rattle.pb_picks.proofs.Numbers.{decimal_utf8, parsed_again, parsed_is}
use Rattle.pb_picks.proofs.reader.parsed.Goals as goal

pub returns-in-Ok-parse-clause-complete : goal.returns-in-Ok-parse-clause-complete
returns-in-Ok-parse-clause-complete c = λ n few e.
    let h = parsed_again c.in-Ok.text.now c.parse.result n few (c.in-Ok.ensures.cases.0 ∙ e) c.parse.ensures.value.0 in
    cc (h, c.in-Ok-parse.is)

pub returns-in-Ok-parse-clause-sound : goal.returns-in-Ok-parse-clause-sound
returns-in-Ok-parse-clause-sound c = λ plain.
    let same = c.in-Ok.ensures.cases.0 in
    sym same
    ∙ parsed_is c.in-Ok.text.now c.parse.result c.in-Ok-parse.number c.parse.ensures.value.0 c.in-Ok-parse.is (ap is_plain same ∙ plain)

pub returns-in-Err-parse-clause-complete : goal.returns-in-Err-parse-clause-complete
returns-in-Err-parse-clause-complete c = λ n few e.
    let h = parsed_again c.in-Ok.text.now c.parse.result n few (c.in-Ok.ensures.cases.0 ∙ e) c.parse.ensures.value.0 in
    cc (h, c.in-Err-parse.is)

pub returns-in-Err-clause-complete : goal.returns-in-Err-clause-complete
returns-in-Err-clause-complete c = λ n few e.
    absurd (c.in-Err.ensures.cases.0 (subst (λ (w : List ℕ). IsUtf8 w) (sym e) (decimal_utf8 n few)))
