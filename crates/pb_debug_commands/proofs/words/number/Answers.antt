use Rattle.std.proofs.Common.{◌≡◌, ◌<◌, ◌^◌, arith, rules, sym, ◌∙◌, true}
use Rattle.std.specs.Str.Parse.{digits_value}
use Rattle.std.proofs.lemmas.Str.Parse.{digits_value_short}
use Rattle.pb_code.specs.Numerals.{is_numeral}
use Rattle.pb_code.proofs.NumeralLemmas.{numeral_is, own}
use Rattle.pb_debug_commands.proofs.words.number.Goals as goal

pub returns-else-is_numeral : goal.returns-else-is_numeral
returns-else-is_numeral c = search rules fits 100

pub overflow_cast-result : goal.overflow_cast-result
overflow_cast-result c =
    let word = c.args.word.now in
    let numeral : is_numeral word ≡ true = sym c.is_numeral.ensures ∙ c.if-is_numeral.true in
    let small : digits_value 10 word < 10 ^ 8 = digits_value_short own word 8 (numeral_is word numeral).0 (omega (arith, c.if-word-lt9.true)) in
    omega (arith, small, c.value.ensures)
