use Rattle.std.proofs.Common.{ap, ◌∙◌}
use Rattle.pb_tree.specs.View.{expr_view}
use Rattle.pb_tree.proofs.Views.{view-Binary}
use Rattle.pb_names.proofs.FirstCauses.{first_either}
use Rattle.pb_names.proofs.causes.+first_in_expr.Goals as goal

pub returns-in-Binary : goal.returns-in-Binary
returns-in-Binary g t c =
    rw (
      ap expr_view c.in-Binary.is ∙ view-Binary c.in-Binary.field-0 c.in-Binary.left c.in-Binary.right,
      ← c.deref-in-Binary.ensures,
      ← c.deref-in-Binary-2.ensures,
      c.earlier.ensures,
    )
    (first_either _ _ c.first_in_expr-in_left.ensures c.first_in_expr-in-Binary.ensures)
