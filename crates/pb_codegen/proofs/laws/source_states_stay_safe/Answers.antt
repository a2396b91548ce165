use Rattle.pb_codegen.proofs.ClaimsKept.{source_safe, source_well_formed}
use Rattle.pb_codegen.proofs.laws.source_states_stay_safe.Goals as goal

pub returns-clause-well_formed : goal.returns-clause-well_formed
returns-clause-well_formed c = source_well_formed

pub returns-clause-safe : goal.returns-clause-safe
returns-clause-safe c = source_safe
