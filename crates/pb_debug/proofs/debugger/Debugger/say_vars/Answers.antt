use Rattle.std.proofs.Common.{◌<◌, ℕ, List, length, map, inl, refl, sym, ap, ◌∙◌, arith, Vec, Global}
use Rattle.std.proofs.lemmas.List.{length-map}
use Rattle.std.proofs.lemmas.Option.{slice_get_read}
use Rattle.pb_code.specs.View.{process_labels_view}
use Rattle.pb_debug_texts.specs.Texts.{vars_text}
use Rattle.pb_debug.specs.Value.{Debugging}
use Rattle.pb_debug.proofs.Positions.{in_labels, named_vars}
use Rattle.pb_debug.proofs.Lines.{labels_here}
use Rattle.pb_base.proofs.Results.{on_ok}
use Rattle.pb_debug.proofs.debugger.Debugger.say_vars.Goals as goal

pub index-requires : goal.index-requires
index-requires c =
    let d = c.args.self.now in
    let given = c.self.inside.labels.now in
    let shown = c.in-Ok.ensures.shown in
    let lt = in_labels d c.in-Some.ensures.placed c.in-Some.p shown.0 shown.1 in
    let same = ap (λ (d : Debugging). length d.labels) c.self.view_is in
    omega (arith, lt, same, length-map given.processes.items process_labels_view, given.processes.ok.0)

pub put_vars-requires : goal.put_vars-requires
put_vars-requires c =
    let d = c.args.self.now in
    let given = c.self.inside.labels.now in
    let l = c.index.result.now in
    let shown = c.in-Ok.ensures.shown in
    let lt = in_labels d c.in-Some.ensures.placed c.in-Some.p shown.0 shown.1 in
    let same = ap (λ (d : Debugging). length d.labels) c.self.view_is in
    let within : c.in-Some.p < length given.processes.items = omega (arith, lt, same, length-map given.processes.items process_labels_view) in
    let l_there = slice_get_read given.processes.items (length given.processes.items) c.in-Some.p l refl within c.index.ensures in
    let labels_there = labels_here d given l c.in-Some.p (ap (λ (d : Debugging). d.labels) c.self.view_is) l_there in
    ap length c.deref.ensures.value ∙ (named_vars d c.in-Some.ensures.placed c.in-Some.p shown.0 shown.1 l labels_there ∙ ap length (sym shown.2))

pub returns : goal.returns
returns c =
    let d = c.args.self.now in
    let given = c.self.inside.labels.now in
    let l = c.index.result.now in
    let shown = c.in-Ok.ensures.shown in
    let lt = in_labels d c.in-Some.ensures.placed c.in-Some.p shown.0 shown.1 in
    let same = ap (λ (d : Debugging). length d.labels) c.self.view_is in
    let within : c.in-Some.p < length given.processes.items = omega (arith, lt, same, length-map given.processes.items process_labels_view) in
    let l_there = slice_get_read given.processes.items (length given.processes.items) c.in-Some.p l refl within c.index.ensures in
    let labels_there = labels_here d given l c.in-Some.p (ap (λ (d : Debugging). d.labels) c.self.view_is) l_there in
    let names : List (List ℕ) = map (λ name. name.items) c.deref.result.now in
    let said = vars_text names c.in-Ok.vars.now in
    on_ok c.put_vars.result _ _ c.put_vars.ensures (λ e. (
      said,
      inl (
        c.in-Some.p,
        c.in-Some.ensures.some,
        record {
          labels = process_labels_view l;
          process = shown.0;
          labels_there = labels_there;
          there = shown.1;
          text_is =
              ap (λ (ns : List (Vec ℕ Global)). vars_text (map (λ name. name.items) ns) c.in-Ok.vars.now) c.deref.ensures.value
              ∙ ap (vars_text (map (λ name. name.items) l.integers.items)) shown.2;
        },
      ),
      e,
    ))
