use Rattle.std.proofs.Common.{◌≡◌, ◌<◌, ◌≤◌, length, Some, None, option_map, slice_get, refl, sym, ap, ◌∙◌, arith}
use Rattle.std.proofs.Common.{get_or}
use Rattle.std.proofs.lemmas.List.{get_or_default, get_or_past}
use Rattle.std.proofs.lemmas.Option.{slice_get_read, slice_get-map}
use Rattle.pb_code.specs.View.{labels_view, process_labels_view}
use Rattle.pb_machine.specs.Views.{machine_view, place_of_thread, thread_view}
use Rattle.pb_debug_positions.proofs.Lines.{line_at_place, line_in_is}
use Rattle.pb_debug_positions.proofs.search.line_of_arm.Goals as goal

pub returns-then-len-place : goal.returns-then-len-place
returns-then-len-place c =
    let given = c.args.labels.now in
    let l = c.index.result.now in
    let p = c.args.p in
    let t = thread_view c.thread.result.now in
    let many = c.len.ensures in
    let not = c.if-len-p.false in
    let within : p < length given.processes.items = omega (arith, many, not, given.processes.ok.0) in
    let l_there = slice_get_read given.processes.items (length given.processes.items) p l refl within c.index.ensures in
    let labels_there : slice_get (labels_view given) p ≡ Some (process_labels_view l) =
    slice_get-map process_labels_view given.processes.items p ∙ ap (option_map process_labels_view) l_there in
    let place = c.in_ok-place.field-0 in
    let at : Some place ≡ place_of_thread t = c.in_ok-place.ensures in
    let from = c.from-place.ensures in
    let lines = c.len-2.ensures in
    let line = line_at_place l.lines.items t place at in
    let over = c.if-len-place.true in
    let past : length l.lines.items ≤ place = omega (arith, over, from, lines, l.lines.ok.0) in
    line_in_is (labels_view given) (machine_view c.args.machine.now).processes p c.args.arm (process_labels_view l) _ t None labels_there
    c.proc-process.ensures.state c.thread.ensures (line ∙ get_or_past l.lines.items place None past)

pub returns : goal.returns
returns c =
    let given = c.args.labels.now in
    let l = c.index.result.now in
    let p = c.args.p in
    let t = thread_view c.thread.result.now in
    let many = c.len.ensures in
    let not = c.if-len-p.false in
    let within : p < length given.processes.items = omega (arith, many, not, given.processes.ok.0) in
    let l_there = slice_get_read given.processes.items (length given.processes.items) p l refl within c.index.ensures in
    let labels_there : slice_get (labels_view given) p ≡ Some (process_labels_view l) =
    slice_get-map process_labels_view given.processes.items p ∙ ap (option_map process_labels_view) l_there in
    let place = c.in_ok-place.field-0 in
    let at : Some place ≡ place_of_thread t = c.in_ok-place.ensures in
    let from = c.from-place.ensures in
    let lines = c.len-2.ensures in
    let line = line_at_place l.lines.items t place at in
    let inside = c.if-len-place.false in
    let label : place < length l.lines.items = omega (arith, inside, from, lines, l.lines.ok.0) in
    let read = get_or_default l.lines.items place None c.index-2.result.now label
    ∙ (ap (λ n. get_or l.lines.items n c.index-2.result.now) (sym from) ∙ sym c.index-2.ensures) in
    line_in_is (labels_view given) (machine_view c.args.machine.now).processes p c.args.arm (process_labels_view l) _ t c.index-2.result.now labels_there
    c.proc-process.ensures.state c.thread.ensures (line ∙ read)
