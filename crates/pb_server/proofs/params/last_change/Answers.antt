use Rattle.std.proofs.Common.{option_map, ap, ◌∙◌}
use Rattle.serde_json.proofs.Views.{view_of_ref}
use Rattle.serde_json.specs.View.{view}
use Rattle.pb_server.proofs.ParamLemmas.{last_is}
use Rattle.pb_server.proofs.params.last_change.Goals as goal

pub returns : goal.returns
returns c = view_of_ref c.last.result ∙ (ap (option_map view) c.last.ensures.value ∙ last_is c.args.changes.now)
