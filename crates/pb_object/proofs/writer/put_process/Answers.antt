use Rattle.std.proofs.Common.{◌++◌, ◌∙◌, ap, sym, map, ℕ, slice_index_or, []}
use Rattle.std.proofs.lemmas.List.{length-map}
use Rattle.pb_object.specs.Objects.{code_of_row}
use Rattle.pb_code.specs.View.{process_view, instr_view}
use Rattle.pb_object.proofs.WrittenRows.{one_written, named_at, viewed_at, between}
use Rattle.pb_object.proofs.writer.put_process.Goals as goal

pub returns : goal.returns
returns c = λ row is.
    let code = c.args.code.now in
    let p = c.args.p in
    let body = c.index-body.result.now in
    let name = c.deref.ensures.value ∙ named_at (λ name. name.items) code.names.processes.items p c.index.result.now
    c.requires.name c.index.ensures ∙ is.name in
    let whole = viewed_at process_view code.processes.items p body (code_of_row row) c.requires.process c.index-body.ensures is.code in
    let claims = slice_index_or code.claims p [] in
    let count = sym (length-map body.instrs.items (instr_view body.bundles.items)) in
    let middle = c.in_ok-put_middle.ensures ∙ ap (λ (n : ℕ). c.put_counted.new.out.items ++ between body.entries.items claims n) count in
    one_written c.args.out.now.items c.put_name.new.out.items c.put_counted.new.out.items c.put_middle.new.out.items c.put_places.new.out.items
    c.deref.result.now body.integers body.entries.items claims (map (instr_view body.bundles.items) body.instrs.items) row
    name is.claims whole c.in_ok-put_name.ensures c.in_ok-put_counted.ensures middle c.in_ok-put_places.ensures
