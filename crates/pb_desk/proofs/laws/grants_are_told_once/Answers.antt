use Rattle.pb_desk.proofs.NoticeLemmas.{grants_are_told_once}
use Rattle.pb_desk.proofs.laws.grants_are_told_once.Goals as goal

pub returns : goal.returns
returns c = grants_are_told_once
