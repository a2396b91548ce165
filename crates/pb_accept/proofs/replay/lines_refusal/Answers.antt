use Rattle.std.proofs.Common.{ap, option_map, sym, ◌∙◌}
use Rattle.pb_accept.specs.Causes.{cause_line}
use Rattle.pb_accept.specs.ReplayLines.{SaysOfNoPicksBy, refused}
use Rattle.pb_accept.proofs.LoadLemmas.{of_refusal}
use Rattle.pb_accept.proofs.replay.lines_refusal.Goals as goal

pub returns : goal.returns
returns c lending code lines is =
    of_refusal c.refused.result c.in_ok-text.text.items (SaysOfNoPicksBy lending code lines)
    (refused c.args.fault is c.in_ok-text.text.items
    (ap (option_map cause_line) (sym c.lines_cause.ensures) ∙ c.in_ok-text.ensures)) c.refused.ensures
