use Rattle.pb_voice.proofs.LawLemmas.{writes_what_is_told, writes_first_part}
use Rattle.pb_voice.proofs.laws.what_is_told_is_written.Goals as goal

pub returns-clause-told : goal.returns-clause-told
returns-clause-told g c = writes_what_is_told _

pub returns-clause-broken : goal.returns-clause-broken
returns-clause-broken g c = writes_first_part _
