use Rattle.pb_rewrite.proofs.ResolvedPrograms.{resolved_fits}
use Rattle.pb_rewrite.proofs.laws.resolved_programs_fit.Goals as goal

pub returns : goal.returns
returns c = resolved_fits
