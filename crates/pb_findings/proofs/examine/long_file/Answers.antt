use Rattle.std.proofs.Common.{refl}
use Rattle.pb_findings.specs.Reports.{long}
use Rattle.pb_findings.proofs.examine.long_file.Goals as goal

pub returns : goal.returns
returns c = rw (c.in_ok-push.ensures.items, c.new-said.ensures.items) (long _ refl c.in_ok-refusal.ensures)
