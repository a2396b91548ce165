use Rattle.std.proofs.Common.{sym, subst}
use Rattle.pb_diagnostics.specs.Diagnostics.{Diagnoses, accepted, refused}
use Rattle.pb_diagnostics.proofs.diagnostic.diagnostics.Goals as goal

pub returns-in-Ok-clause-told : goal.returns-in-Ok-clause-told
returns-in-Ok-clause-told c =
    subst (Diagnoses c.args.text.now) (sym c.in_ok-no_diagnostics-in-Ok.ensures)
    (accepted _ _ c.in-Ok.ensures.compiled)

pub returns-clause-told : goal.returns-clause-told
returns-clause-told c =
    subst (Diagnoses c.args.text.now) (sym c.in_ok-list_of-in-Err.ensures)
    (refused _ c.in_ok-one-in-Err.ensures.told)
