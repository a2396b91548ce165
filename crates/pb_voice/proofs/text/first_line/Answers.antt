use Rattle.std.proofs.Common.{sym, ◌∙◌}
use Rattle.pb_voice.proofs.LineLemmas.{ends_at, is_all}
use Rattle.pb_voice.proofs.text.first_line.Goals as goal

pub returns-in-Some-clause-lines : goal.returns-in-Some-clause-lines
returns-in-Some-clause-lines c = ends_at c.args.text.now c.in-Some.at c.requires (sym c.in-Some.is ∙ c.line_feed.ensures.place)

pub returns-in-None-clause-lines : goal.returns-in-None-clause-lines
returns-in-None-clause-lines c = is_all c.args.text.now c.requires (sym c.in-None.is ∙ c.line_feed.ensures.place)
