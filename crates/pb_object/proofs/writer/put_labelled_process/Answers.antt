use Rattle.std.proofs.Common.{◌≡◌, ◌++◌, ◌∙◌, ap, sym, map, ℕ, length, slice_index_or, [], List, Option}
use Rattle.std.proofs.lemmas.List.{length-map}
use Rattle.pb_code.specs.declared.format.Format.TheVariants.{Two}
use Rattle.pb_code.specs.Code.{Instr, ProcessCode}
use Rattle.pb_code.specs.Whole.{ProcessLabels}
use Rattle.pb_object.specs.Instructions.{place_words}
use Rattle.pb_object.specs.Lines.{line_text}
use Rattle.pb_object.specs.Objects.{code_of_row, labels_of_row}
use Rattle.pb_object.specs.Rows.{side_by_side}
use Rattle.std.specs.List.{flat_map}
use Rattle.pb_code.specs.View.{process_view, process_labels_view, instr_view}
use Rattle.pb_object.proofs.WrittenRows.{two_written, named_at, viewed_at, between, names_line}
use Rattle.pb_object.proofs.writer.put_labelled_process.Goals as goal

pub put_lined_places-requires : goal.put_lined_places-requires
put_lined_places-requires c =
    let code = c.args.code.now in
    let body = c.index-body.result.now in
    let label = c.index-label.result.now in
    let row = c.requires.row.0 in
    let whole = viewed_at process_view code.processes.items c.args.p body (code_of_row row) c.requires.process c.index-body.ensures c.requires.row.1.code in
    let labels = viewed_at process_labels_view c.args.labels.now.processes.items c.args.p label (labels_of_row row)
    c.requires.labels c.index-label.ensures c.requires.row.2 in
    let lines : label.lines.items ≡ map (λ place. place.0) row.places = ap (λ (l : ProcessLabels). l.lines) labels in
    let instrs : map (instr_view body.bundles.items) body.instrs.items ≡ map (λ place. place.1) row.places = ap (λ (c : ProcessCode). c.instrs) whole in
    ap (λ (l : List (Option ℕ)). length l) (c.deref-3.ensures.value ∙ lines) ∙ length-map row.places (λ place. place.0)
    ∙ sym (length-map row.places (λ place. place.1)) ∙ sym (ap (λ (l : List Instr). length l) instrs) ∙ length-map
    body.instrs.items (instr_view body.bundles.items)

pub returns : goal.returns
returns c = λ row is are.
    let code = c.args.code.now in
    let p = c.args.p in
    let body = c.index-body.result.now in
    let label = c.index-label.result.now in
    let name = c.deref.ensures.value ∙ named_at (λ name. name.items) code.names.processes.items p c.index.result.now
    c.requires.name c.index.ensures ∙ is.name in
    let whole = viewed_at process_view code.processes.items p body (code_of_row row) c.requires.process c.index-body.ensures is.code in
    let labels = viewed_at process_labels_view c.args.labels.now.processes.items p label (labels_of_row row) c.requires.labels c.index-label.ensures are in
    let claims = slice_index_or code.claims p [] in
    let instrs = map (instr_view body.bundles.items) body.instrs.items in
    let count = sym (length-map body.instrs.items (instr_view body.bundles.items)) in
    let names = c.in_ok-put_integers.ensures ∙ names_line (λ name. name.items) c.put_name.new.out.items _ _ c.deref-2.ensures.value in
    let middle = c.in_ok-put_middle.ensures ∙ ap (λ (n : ℕ). c.put_integers.new.out.items ++ between body.entries.items claims n) count in
    let places = c.in_ok-put_lined_places.ensures
    ∙ ap (λ (l : List (Option ℕ)). c.put_middle.new.out.items ++ flat_map (λ p. line_text (place_words Two p))
    (side_by_side l instrs)) c.deref-3.ensures.value in
    two_written c.args.out.now.items c.put_name.new.out.items c.put_integers.new.out.items c.put_middle.new.out.items c.put_lined_places.new.out.items
    c.deref.result.now (map (λ name. name.items) label.integers.items) label.lines.items body.integers body.entries.items claims instrs row
    name is.claims whole labels c.in_ok-put_name.ensures names middle places
