use Rattle.pb_names.proofs.FirstCauses.{first_either}
use Rattle.pb_names.proofs.causes.first_in_process.Goals as goal

pub returns : goal.returns
returns g c =
    rw c.earlier.ensures
    (first_either _ _ c.first_in_integers-in_integers.ensures (rw c.in_ok-integers.ensures at c.first_in_list.ensures))
