use Rattle.std.proofs.Common.{List, ℕ, [], ◌∷◌, ◌≡◌, ◌∙◌, IfOk, ap, refl, subst}
use Rattle.std.specs.Str.Lossy.{utf8_lossy}
use Rattle.pb_conversations.proofs.Replies.{told_known}
use Rattle.pb_adapter_requests.specs.Requests.{request_view}
use Rattle.pb_adapter_requests.specs.Responses.{refused_data, told_by}
use Rattle.pb_adapter_engine.specs.Waiting.{TellsUnfit, in_words}
use Rattle.pb_adapter_engine.proofs.waiting.tell_unfit.Goals as goal

pub returns : goal.returns
returns c =
    let r = request_view c.args.request in
    let message = c.in_ok-message.message.items in
    told_known c.refuse.result (refused_data c.args.seq r (utf8_lossy (in_words c.args.line.now message)) ∷ [])
    (TellsUnfit c.args.seq r c.args.words.now c.args.lending c.args.seed c.args.line.now)
    (subst (λ (t : List ℕ). IfOk c.refuse.result (λ reply. told_by reply ≡ refused_data c.args.seq r t ∷ []))
    (c.deref-2.ensures ∙ (c.in_ok-shown.ensures ∙ ap (λ (m : List ℕ). utf8_lossy (in_words c.args.line.now m)) c.deref.ensures.value))
    c.refuse.ensures)
    (message, c.in_ok-message.ensures, refl)
