use Rattle.pb_names.proofs.FirstCauses.{first_either}
use Rattle.pb_names.proofs.causes.first_cause.Goals as goal

pub returns : goal.returns
returns g c =
    rw c.earlier.ensures
    (first_either _ _ c.first_in_resources-in_resources.ensures
    (rw c.in_ok-names.ensures at c.in_ok-in_processes.ensures))
