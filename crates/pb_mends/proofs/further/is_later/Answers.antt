use Rattle.pb_mends.proofs.further.is_later.Goals as goal

pub returns-in-Claims-Claims : goal.returns-in-Claims-Claims
returns-in-Claims-Claims c = rw (c.in-Claims-Claims.is-0, c.in-Claims-Claims.is-1) c.has_later_claim.ensures
