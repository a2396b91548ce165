use Rattle.std.proofs.Common.{◌∙◌}
use Rattle.std.specs.Fmt.{signed_decimal}
use Rattle.pb_search_engine.proofs.PrintLemmas.{arm_parts, value_told}
use Rattle.pb_search_engine.proofs.print_lines.value_of_arm.Goals as goal

pub returns-in_err-rest-3 : goal.returns-in_err-rest-3
returns-in_err-rest-3 c = rw c.from_residual-in_err-rest-3.ensures (λ value fits whole.
    c.in_err-rest-3.ensures (signed_decimal value)
    (arm_parts c.args.text.now c.as_bytes.result.now c.in_ok-rest.rest.now c.in_ok-rest-2.rest.now c.args.arm value c.in_ok-rest.ensures
    c.in_ok-rest-2.ensures (c.as_bytes.ensures.value ∙ c.format.ensures.text) whole))

pub returns : goal.returns
returns c =
    value_told c.args.text.now c.as_bytes.result.now c.in_ok-rest.rest.now c.in_ok-rest-2.rest.now c.in_ok-rest-3.rest.now c.args.arm
    c.value_of.result c.in_ok-rest.ensures c.in_ok-rest-2.ensures (c.as_bytes.ensures.value ∙ c.format.ensures.text) c.in_ok-rest-3.ensures
    c.value_of.ensures
