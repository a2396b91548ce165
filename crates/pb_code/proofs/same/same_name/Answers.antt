use Rattle.std.proofs.Common.{◌<◌, map, length, sym, ◌∙◌, arith}
use Rattle.pb_code.proofs.AlikeCodes.{words_alike}
use Rattle.pb_code.proofs.ListElements.{alike_read, read_alike, read_mapped}
use Rattle.pb_code.proofs.same.same_name.Goals as goal

pub returns : goal.returns
returns c =
    let names = map (λ name. name.items) c.args.names.now in
    let others = map (λ name. name.items) c.args.others.now in
    let there : c.args.i < length c.args.others.now = omega arith in
    let one = read_mapped (λ name. name.items) c.args.names.now c.args.i c.index-names-i.result (omega arith) c.index-names-i.is in
    let two = read_mapped (λ name. name.items) c.args.others.now c.args.i c.index-others-i.result there c.index-others-i.is in
    let words = words_alike c.as_slice.result.now c.as_slice-2.result.now c.eq.result c.eq.ensures in (
      λ e. alike_read names others c.args.i _ _ one two (sym c.as_slice.ensures.value ∙ words.0 e ∙ c.as_slice-2.ensures.value),
      λ e. words.1 (c.as_slice.ensures.value ∙ read_alike names others c.args.i _ _ one two e ∙ sym c.as_slice-2.ensures.value),
    )
