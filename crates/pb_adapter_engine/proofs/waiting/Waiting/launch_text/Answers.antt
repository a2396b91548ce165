use Rattle.std.proofs.Common.{List, ℕ, Some, true, IfOk, ap, subst, sym}
use Rattle.std.proofs.lemmas.Result.{IfOk-weaker}
use Rattle.serde_json.specs.Data.{Data}
use Rattle.pb_adapter_requests.specs.declared.counting.Counting.{Counting}
use Rattle.pb_adapter_requests.specs.Requests.{request_view}
use Rattle.pb_adapter_requests.specs.Responses.{told_by}
use Rattle.pb_adapter_engine.specs.Waiting.{LaunchesText, TellsUnfit, WaitingValue, launched, launched_view, path_of, unfit}
use Rattle.pb_adapter_engine.specs.declared.launched.Launch.TheVariants.{Fit, Unfit}
use Rattle.pb_adapter_engine.proofs.LaunchLemmas.{comes_to}
use Rattle.pb_adapter_engine.proofs.waiting.Waiting.launch_text.Goals as goal

pub returns-in_ok-reply-in-Fit : goal.returns-in_ok-reply-in-Fit
returns-in_ok-reply-in-Fit c =
    let r = request_view c.args.request in
    let s = c.args.self.now in
    let l = launched_view c.in-Fit.launched in
    let comes =
    comes_to c.args.words.now c.as_bytes.result.now c.args.seed c.args.lending (path_of r) c.path_of-path.result.now s.counting
    c.self.inside.counting (Fit c.in-Fit.launched) c.in_ok-launch.launch c.as_bytes.ensures.value c.path_of-path.ensures
    (ap (λ (s : WaitingValue). s.counting) c.self.view_is) c.in-Fit.is c.in_ok-launch.ensures in
    subst (λ (n : Counting). LaunchesText s c.args.seq r c.args.words.now c.args.lending c.args.seed (told_by c.in_ok-reply-in-Fit.reply)
    (record { launched = Some l; over = true; counting = n })) (sym (ap (λ (s : WaitingValue). s.counting) c.self.view_is))
    (subst (λ (told : List Data). LaunchesText s c.args.seq r c.args.words.now c.args.lending c.args.seed told
    (record s { launched = Some l; over = true })) (sym c.in_ok-reply-in-Fit.ensures) (launched l comes))

pub returns-in-Unfit : goal.returns-in-Unfit
returns-in-Unfit c =
    let r = request_view c.args.request in
    let s = c.args.self.now in
    let line = c.in-Unfit.line in
    let comes =
    comes_to c.args.words.now c.as_bytes.result.now c.args.seed c.args.lending (path_of r) c.path_of-path.result.now s.counting
    c.self.inside.counting (Unfit line) c.in_ok-launch.launch c.as_bytes.ensures.value c.path_of-path.ensures
    (ap (λ (s : WaitingValue). s.counting) c.self.view_is) c.in-Unfit.is c.in_ok-launch.ensures in
    IfOk-weaker c.tell_unfit.result _ _ (λ reply. unfit line.items comes (told_by reply))
    (subst (λ (t : List ℕ). IfOk c.tell_unfit.result (λ reply.
    TellsUnfit c.args.seq r c.args.words.now c.args.lending c.args.seed t (told_by reply))) c.deref.ensures.value c.tell_unfit.ensures)
