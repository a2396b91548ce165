use Rattle.std.proofs.Common.{[], ap, rules}
use Rattle.pb_code.specs.View.{instr_view}
use Rattle.pb_verifier.proofs.peaks.peak_at.Goals as goal

pub sum_of_peaks-requires-clause-there : goal.sum_of_peaks-requires-clause-there
sum_of_peaks-requires-clause-there c = c.requires.there [] c.in-Join.first c.in-Join.count (ap (instr_view []) c.in-Join.is)

pub returns-in-Join : goal.returns-in-Join
returns-in-Join c = search rules fits 100
