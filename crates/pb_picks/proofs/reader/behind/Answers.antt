use Rattle.pb_picks.proofs.PickParts.{behind_is}
use Rattle.pb_picks.proofs.reader.behind.Goals as goal

pub returns : goal.returns
returns c =
    behind_is c.args.line.now c.args.name.now c.in_ok-rest.rest.now c.after-2.result c.in_ok-rest.ensures c.after-2.ensures
