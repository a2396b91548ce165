use Rattle.std.proofs.Common.{◌<◌, not, nat_eq, get_or}
use Rattle.std.proofs.lemmas.Bool.{OnTrue_from}
use Rattle.pb_c_bank.proofs.FlagBytes.{used_at}
use Rattle.pb_c_bank.proofs.bank.has_job.Goals as goal

pub returns-clause-row : goal.returns-clause-row
returns-clause-row c =
    OnTrue_from (not (nat_eq (get_or c.args.bank.now.jobs c.args.job 0) 0)) (c.args.job < c.args.bank.now.accounts.processes)
    (λ u. c.requires.rows c.args.job (used_at c.args.bank.now.jobs c.args.job u))
