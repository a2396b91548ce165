use Rattle.pb_engines.proofs.ReplayedRecords.{records_can_be_replayed}
use Rattle.pb_engines.proofs.record_laws.records_can_be_replayed.Goals as goal

pub returns : goal.returns
returns c = records_can_be_replayed
