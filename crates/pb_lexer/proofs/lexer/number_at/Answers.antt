use Rattle.std.proofs.Common.{◌∙◌, ap, arith, refl, pos}
use Rattle.std.specs.Int.{w64}
use Rattle.std.proofs.lemmas.Int.{to_z_pos, ints}
use Rattle.pb_lexer.specs.Cutting.{large_number}
use Rattle.pb_lexer.proofs.Forms.{longest_digits}
use Rattle.pb_lexer.proofs.LongestTokens.{built, digits_form, beyond}
use Rattle.pb_lexer.proofs.lexer.number_at.Goals as goal

pub returns-in-Some : goal.returns-in-Some
returns-in-Some c =
    let run = c.digits_end-end.ensures in
    let past = beyond _ _ _ c.requires.digit run.stops c.requires.in_text run.within.0 in
    let longest = longest_digits _ _ _ past c.requires.digit run.stops in
    let is = c.in-Some.ensures in
    let same = to_z_pos w64 c.in-Some.number (omega (arith, is.1)) ∙ ap pos is.0 in
    let form = digits_form _ _ _ past run.within.1 run.each in (
      built _ _ _ _ _ past run.within.1 c.requires.line (rw same form) longest,
      rw same (omega (arith, ints, is.0, is.1)),
    )

pub returns-in-None : goal.returns-in-None
returns-in-None c =
    let run = c.digits_end-end.ensures in
    let past = beyond _ _ _ c.requires.digit run.stops c.requires.in_text run.within.0 in
    let longest = longest_digits _ _ _ past c.requires.digit run.stops in
    let form = digits_form _ _ _ past run.within.1 run.each in
    λ ts cut. large_number cut (built _ _ _ _ _ past run.within.1 c.requires.line form longest)
    refl (omega (arith, ints, c.in-None.ensures))
