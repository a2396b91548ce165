use Rattle.std.proofs.Common.{map, refl, sym, ap, ◌∙◌}
use Rattle.std.specs.Prelude.{slice_get}
use Rattle.pb_code.specs.View.{code_view, process_view}
use Rattle.pb_code.proofs.ListElements.{alike_read, read_alike, read_mapped}
use Rattle.pb_code.proofs.code.Code.same_process.Goals as goal

pub returns : goal.returns
returns c =
    let one = (code_view c.args.self.now).processes in
    let two = (code_view c.args.other.now).processes in
    let here = read_mapped process_view c.args.self.now.processes.items c.args.p c.index.result.now c.requires.here c.index.ensures in
    let there = read_mapped process_view c.args.other.now.processes.items c.args.p c.index-2.result.now c.requires.there c.index-2.ensures in
    let from = ap (λ xs. slice_get (map (λ name. name.items) xs) c.args.p) (sym c.deref.ensures.value) in
    let to = ap (λ xs. slice_get (map (λ name. name.items) xs) c.args.p) c.deref-2.ensures.value in (
      λ e. record {
        name = from ∙ c.if-not-same_name.ensures.0 refl ∙ to;
        claims = c.if-not-same_row.ensures.0 refl;
        code = alike_read one two c.args.p _ _ here there (c.same_code.ensures.0 e);
      },
      λ same. c.same_code.ensures.1 (read_alike one two c.args.p _ _ here there same.code),
    )
