use Rattle.std.proofs.Common.{ap, sym, ◌∙◌}
use Rattle.pb_tree.specs.View.{expr_view}
use Rattle.pb_tree.proofs.Views.{view-Number, view-Variable, view-Unary, view-Binary}
use Rattle.pb_tree.proofs.Shapes.{only_Number, only_Variable, only_Unary, only_Binary}
use Rattle.pb_tree.proofs.expr.Expr.+same.Goals as goal

pub returns-in_default : goal.returns-in_default
returns-in_default g t c =
    let a = c.in_default in (
      λ never. cc,
      λ same.
          absurd (
          only_Number _ _
          (sym same ∙ ap expr_view a.is-0 ∙ view-Number _ a.field-0-0)
          a.not-Number-1
          ),
    )

pub returns-in_default-2 : goal.returns-in_default-2
returns-in_default-2 g t c =
    let a = c.in_default in (
      λ never. cc,
      λ same.
          absurd (
          only_Variable _ _
          (sym same ∙ ap expr_view a.is-0 ∙ view-Variable a.field-0-0)
          a.not-Variable-1
          ),
    )

pub returns-in_default-3 : goal.returns-in_default-3
returns-in_default-3 g t c =
    let a = c.in_default in (
      λ never. cc,
      λ same.
          absurd (
          only_Unary _ _ _
          (sym same ∙ ap expr_view a.is-0 ∙ view-Unary a.field-0-0 a.field-1-0)
          a.not-Unary-1
          ),
    )

pub returns-in_default-4 : goal.returns-in_default-4
returns-in_default-4 g t c =
    let a = c.in_default in (
      λ never. cc,
      λ same.
          absurd (
          only_Binary _ _ _ _
          (sym same ∙ ap expr_view a.is-0 ∙ view-Binary a.field-0-0 a.field-1-0 a.field-2-0)
          a.not-Binary-1
          ),
    )
