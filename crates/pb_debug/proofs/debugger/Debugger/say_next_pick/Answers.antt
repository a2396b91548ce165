use Rattle.std.proofs.Common.{◌≡◌, ◌<◌, length, Some, refl, sym, ap, ◌∙◌, arith}
use Rattle.std.proofs.lemmas.List.{length-map}
use Rattle.std.proofs.lemmas.Option.{slice_get_read}
use Rattle.pb_base.proofs.Results.{on_ok}
use Rattle.pb_base.specs.Lines.{NameTable, names_view}
use Rattle.pb_code.specs.Code.{CodeProcess}
use Rattle.pb_code.specs.View.{process_labels_view, process_view}
use Rattle.pb_code.specs.Whole.{Code}
use Rattle.pb_debug_texts.specs.Does.{does_said}
use Rattle.pb_machine.proofs.GivenCode.{code_at, codes_number}
use Rattle.pb_machine.specs.Views.{proc_view}
use Rattle.pb_debug.specs.Value.{Debugging}
use Rattle.pb_debug.proofs.Lines.{labels_here}
use Rattle.pb_debug.proofs.Positions.{in_code, in_labels}
use Rattle.pb_debug.proofs.debugger.Debugger.say_next_pick.Goals as goal

pub index-requires : goal.index-requires
index-requires c =
    let d = c.args.self.now in
    let given = c.code-code.result.now in
    let same = c.code-code.ensures.code ∙ ap (λ (d : Debugging). d.verified.code) c.self.view_is in
    let lt = in_code d c.in-Ok.ensures.placed c.args.p _ c.in-Ok.ensures.shown in
    omega (arith, lt, codes_number given d.verified.code same, given.processes.ok.0)

pub index-requires-2 : goal.index-requires-2
index-requires-2 c =
    let d = c.args.self.now in
    let given = c.self.inside.labels.now in
    let lt = in_labels d c.in-Ok.ensures.placed c.args.p _ c.in-Ok.ensures.shown in
    let same = ap (λ (d : Debugging). length d.labels) c.self.view_is in
    omega (arith, lt, same, length-map given.processes.items process_labels_view, given.processes.ok.0)

pub say_does-requires : goal.say_does-requires
say_does-requires c =
    let has = c.requires.arm in
    let both : Some has.0 ≡ Some (proc_view c.in-Ok.process.now) = sym has.1 ∙ c.in-Ok.ensures.shown in
    let same : has.0 ≡ proc_view c.in-Ok.process.now = cc in
    let many = ap (λ (q : CodeProcess). length q.threads) same in
    omega (arith, many, has.2)

pub returns : goal.returns
returns c =
    let d = c.args.self.now in
    let p = c.args.p in
    let shown = c.in-Ok.ensures.shown in
    let code = c.code-code.result.now in
    let same = c.code-code.ensures.code ∙ ap (λ (d : Debugging). d.verified.code) c.self.view_is in
    let lt = in_code d c.in-Ok.ensures.placed p _ shown in
    let within : p < length code.processes.items = omega (arith, lt, codes_number code d.verified.code same) in
    let code_there = code_at code d.verified.code same p c.index.result.now within c.index.ensures in
    let given = c.self.inside.labels.now in
    let l = c.index-2.result.now in
    let labelled = in_labels d c.in-Ok.ensures.placed p _ shown in
    let many = ap (λ (d : Debugging). length d.labels) c.self.view_is in
    let in_given : p < length given.processes.items = omega (arith, labelled, many, length-map given.processes.items process_labels_view) in
    let l_there = slice_get_read given.processes.items (length given.processes.items) p l refl in_given c.index-2.ensures in
    let labels_there = labels_here d given l p (ap (λ (d : Debugging). d.labels) c.self.view_is) l_there in
    let names : names_view code.names ≡ d.verified.code.names = ap (λ (c : Code). c.names) same in
    let process = proc_view c.in-Ok.process.now in
    on_ok c.say_does.result _ _ c.say_does.ensures (λ e. (
      does_said (names_view code.names) p (process_labels_view l) (process_view c.index.result.now) process c.args.arm c.args.why.now,
      record {
        labels = process_labels_view l;
        code = process_view c.index.result.now;
        process = process;
        why = c.args.why.now;
        labels_there = labels_there;
        code_there = code_there;
        there = shown;
        why_is = c.requires.why;
        said_is =
            ap (λ (n : NameTable). does_said n p (process_labels_view l) (process_view c.index.result.now) process c.args.arm c.args.why.now) names;
      },
      e,
    ))
