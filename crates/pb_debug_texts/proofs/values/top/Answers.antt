use Rattle.std.proofs.Common.{rules, ◌≡◌, ◌∷◌, ◌-◌, ◌<◌, ℤ, w64, to_z, of_z, length, sym, ap, ◌∙◌, arith}
use Rattle.std.specs.Prelude.{pos, slice_index_or}
use Rattle.pb_debug_texts.proofs.Tops.{last_on_top}
use Rattle.pb_debug_texts.proofs.values.top.Goals as goal

pub returns-clause-some : goal.returns-clause-some
returns-clause-some c =
    let xs = c.args.operands.now in
    let test = c.if-count-lt1.false in
    let some : 0 < length xs = omega (arith, test) in
    let is = last_on_top xs some in
    let value : to_z w64 (of_z w64 (slice_index_or xs (length xs - 1) (pos 0))) ≡ slice_index_or xs (length xs - 1) (pos 0) = search rules in
    (is.0, is.1 ∙ ap (λ (v : ℤ). v ∷ is.0) (sym value))
