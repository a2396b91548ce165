use Rattle.std.proofs.Common.{rules, ◌≡◌, ◌++◌, ℤ, w64, to_z, of_z, codes, ap, ◌∙◌}
use Rattle.std.specs.Fmt.{signed_decimal}
use Rattle.pb_base.proofs.Results.{on_ok}
use Rattle.pb_base.specs.Arithmetic.{is_zero}
use Rattle.pb_debug_texts.specs.Does.{turn_text}
use Rattle.pb_debug_texts.proofs.Pieces.{three}
use Rattle.pb_debug_texts.proofs.values.put_test.Goals as goal

pub returns : goal.returns
returns c =
    let value : to_z w64 (of_z w64 c.args.value) ≡ c.args.value = search rules in
    let tested = c.in_ok-put_number.ensures ∙ ap (λ (v : ℤ). c.args.text.now.items ++ (codes "tests " ++ signed_decimal v)) value in
    on_ok c.put_turn.result _ _ c.put_turn.ensures (λ e.
    three (codes "tests ") (signed_decimal c.args.value) (turn_text (is_zero c.args.value) c.args.if_false c.args.if_true)
    c.args.text.now.items c.put_number.new.out.items c.put_turn.new.text.items tested
    (e ∙ ap (λ (v : ℤ). c.put_number.new.out.items ++ turn_text (is_zero v) c.args.if_false c.args.if_true) value))
