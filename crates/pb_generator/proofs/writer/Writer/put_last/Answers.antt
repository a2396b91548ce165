use Rattle.std.proofs.Common.{◌∷◌, ◌++◌, [], ap, refl}
use Rattle.pb_names.specs.View.{expr_view}
use Rattle.pb_code.proofs.BundleTables.{plain_same}
use Rattle.pb_generator.specs.Generate.{expr_code}
use Rattle.pb_generator.proofs.Parts.{adds_as}
use Rattle.pb_generator.proofs.Statements.{adds_last}
use Rattle.pb_generator.proofs.writer.Writer.put_last.Goals as goal

pub returns : goal.returns
returns g c =
    let e = expr_view c.args.value.now in
    adds_as (adds_last c.args.line e _ c.in_ok-put_expr.ensures c.in_ok-put.ensures)
    (ap (λ i. expr_code e ++ i ∷ []) (plain_same _ [] c.args.last c.requires.plain)) refl
