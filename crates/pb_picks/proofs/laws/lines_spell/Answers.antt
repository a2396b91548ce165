use Rattle.pb_picks.proofs.PickSpellings.{lines_spell}
use Rattle.pb_picks.proofs.laws.lines_spell.Goals as goal

pub returns : goal.returns
returns c = lines_spell
