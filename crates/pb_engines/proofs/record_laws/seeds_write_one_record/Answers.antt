use Rattle.pb_engines.proofs.SeededRuns.{seeds_write_one_record}
use Rattle.pb_engines.proofs.record_laws.seeds_write_one_record.Goals as goal

pub returns : goal.returns
returns c = seeds_write_one_record
