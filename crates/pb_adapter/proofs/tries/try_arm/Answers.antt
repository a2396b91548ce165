use Rattle.std.proofs.Common.{◌≡◌, ◌∙◌, ap, rules, unwrap_or}
use Rattle.serde_json.specs.Data.{Data, null}
use Rattle.serde_json.specs.View.{view}
use Rattle.serde_json.specs.declared.value.Value.{Null, the_lemmas}
use Rattle.pb_adapter_requests.specs.Requests.{request_view}
use Rattle.pb_adapter_requests.specs.Responses.{done_data, told_by}
use Rattle.pb_adapter.proofs.ReplyLemmas.{tried}
use Rattle.pb_adapter.proofs.tries.try_arm.Goals as goal

pub returns : goal.returns
returns c client =
    let words : c.as_str.result.now ≡ c.in_ok-words.words.bytes.items = cc in
    let whose : c.unwrap_or-of.result ≡ unwrap_or c.args.thread 0 = cc in
    let nothing : view Null ≡ null = search (rules, the_lemmas) in
    let done = c.in_ok-response.ensures ∙ ap (λ (body : Data). done_data c.args.seq (request_view c.args.request) body) nothing in
    let said : c.as_slice.result.now ≡ c.in_ok-said.said.bytes = cc in
    tried c.args.debugger.now c.answer_lines.new.debugger client c.args.seq (request_view c.args.request) c.args.thread c.as_str.result.now
    c.in_ok-said.said.bytes c.as_slice.result.now c.tried_reason-reason.result.now
    (record { process = c.place_of.result.process; arm = c.place_of.result.arm }) c.unwrap_or-of.result c.position-before.result
    c.position.result (view c.in_ok-response.response) (view c.in_ok-event.event) (told_by c.with_event.result)
    (words ∙ c.in_ok-words.ensures) c.place_of.ensures c.in_ok-said.ensures done c.in_ok-event.ensures
    c.tried_reason-reason.ensures c.position-before.ensures.position c.position.ensures.position whose said c.with_event.ensures
