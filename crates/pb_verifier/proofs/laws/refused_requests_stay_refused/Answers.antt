use Rattle.pb_verifier.proofs.Requests.{refused_stops, refused_stays}
use Rattle.pb_verifier.proofs.laws.refused_requests_stay_refused.Goals as goal

pub returns-clause-stops : goal.returns-clause-stops
returns-clause-stops c = refused_stops

pub returns-clause-stays : goal.returns-clause-stays
returns-clause-stays c = refused_stays
