use Rattle.std.proofs.Common.{sym, ap, ◌∙◌, codes}
use Rattle.serde_json.specs.Find.{get}
use Rattle.serde_json.specs.View.{view}
use Rattle.pb_adapter_requests.specs.Requests.{text_in}
use Rattle.pb_server.specs.Messages.{call_view, message_view}
use Rattle.pb_server.proofs.FloatFree.{heard_id, id_free}
use Rattle.pb_server.proofs.answer.answer_message.Goals as goal

pub answer_request-requires : goal.answer_request-requires
answer_request-requires g c =
    let said = c.requires.0 in
    id_free (view c.in-Request.id.now)
    (heard_id said (get (codes "id") said) (text_in (codes "method") said) (get (codes "params") said) (view c.in-Request.id.now)
    (call_view c.in-Request.call) (sym c.requires.1 ∙ ap message_view c.in-Request.is))
