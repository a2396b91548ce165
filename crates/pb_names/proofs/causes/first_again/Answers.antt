use Rattle.std.proofs.Common.{sym, ◌∙◌}
use Rattle.pb_tree.specs.View.{name_view}
use Rattle.pb_names.specs.declared.causes.Wrong.TheVariants.{Twice}
use Rattle.pb_names.proofs.NameNumbers.{first_own, first_other}
use Rattle.pb_names.proofs.causes.first_again.Goals as goal

pub returns-then-eq : goal.returns-then-eq
returns-then-eq g c =
    first_own Twice _ _ (name_view c.args.name.now) c.number_of.result (sym c.eq.ensures ∙ c.if-eq.true)
    (rw c.deref.ensures.value at c.number_of.ensures)

pub returns : goal.returns
returns g c =
    first_other Twice _ _ (name_view c.args.name.now) c.number_of.result c.requires (sym c.eq.ensures ∙ c.if-eq.false)
    (rw c.deref.ensures.value at c.number_of.ensures)
