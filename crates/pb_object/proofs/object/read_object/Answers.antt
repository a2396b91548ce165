use Rattle.std.proofs.Common.{◌∙◌, sym}
use Rattle.std.proofs.lemmas.Result.{err_from_is_err_and}
use Rattle.pb_code.specs.declared.format.Format.TheVariants.{One}
use Rattle.pb_code.specs.View.{code_view}
use Rattle.pb_object.proofs.FoundObjects.{one_heading, one_found, err_one}
use Rattle.pb_object.proofs.object.read_object.Goals as goal

pub returns-then-branch-clause-only : goal.returns-then-branch-clause-only
returns-then-branch-clause-only c = λ code s few.
    let other = one_heading code c.args.text.now s in
    let two = sym c.in_ok-begins_two.ensures.two ∙ c.if-branch.true in
    absurd cc

pub returns-in_err-code-clause-only : goal.returns-in_err-code-clause-only
returns-in_err-code-clause-only c =
    let p = err_from_is_err_and c.from_residual-in_err-code.result c.from_residual-in_err-code.ensures.1 in
    rw (p.1, p.2) (λ code s few. err_one code s.0 c.in_err-code.field-0.0 (c.in_err-code.ensures.only One code s.0 s.1 few))

pub returns-clause-found : goal.returns-clause-found
returns-clause-found c =
    one_found c.args.text.now (code_view c.in_ok-code.code) _ (sym c.in_ok-begins_two.ensures.two ∙ c.if-branch.false) c.in_ok-code.ensures.found

pub returns-clause-writable : goal.returns-clause-writable
returns-clause-writable c =
    let s = one_found c.args.text.now (code_view c.in_ok-code.code) _ (sym c.in_ok-begins_two.ensures.two ∙ c.if-branch.false) c.in_ok-code.ensures.found in
    (s.0, (s.1.0, s.1.1))

pub returns-clause-only : goal.returns-clause-only
returns-clause-only c = λ code s few. (c.in_ok-code.ensures.only One code s.0 s.1 few).0
