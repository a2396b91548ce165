use Rattle.std.proofs.Common.{◌≡◌, ℤ, List, ℕ, Some, ap, sym, subst, ◌∙◌, w64, to_z, of_z}
use Rattle.std.specs.Str.{IsUtf8}
use Rattle.std.proofs.lemmas.Int.{to_z-of_z}
use Rattle.pb_search_engine.proofs.PrintLemmas.{read_again, signed_fits, signed_utf8}
use Rattle.pb_search_engine.proofs.print_lines.parsed.Goals as goal

pub returns-in-Ok-parse : goal.returns-in-Ok-parse
returns-in-Ok-parse c = λ v fits e.
    let h = read_again c.in-Ok.text.now c.parse.result v fits (c.in-Ok.ensures.cases.0 ∙ e) c.parse.ensures.value.0 in
    let n : c.in-Ok-parse.number ≡ v = cc (h, c.in-Ok-parse.is) in
    ap (λ (z : ℤ). Some (to_z w64 (of_z w64 z))) n ∙ ap (λ (z : ℤ). Some z) (to_z-of_z w64 v (signed_fits v fits))

pub returns-in-Err-parse : goal.returns-in-Err-parse
returns-in-Err-parse c = λ v fits e.
    let h = read_again c.in-Ok.text.now c.parse.result v fits (c.in-Ok.ensures.cases.0 ∙ e) c.parse.ensures.value.0 in
    cc (h, c.in-Err-parse.is)

pub returns-in-Err : goal.returns-in-Err
returns-in-Err c = λ v fits e.
    absurd (c.in-Err.ensures.cases.0 (subst (λ (w : List ℕ). IsUtf8 w) (sym e) (signed_utf8 v fits)))
