use Rattle.std.proofs.Common.{◌++◌, ℕ, List, Option, sym, ap, ◌∙◌}
use Rattle.std.specs.Prelude.{slice_get}
use Rattle.pb_base.specs.Lines.{names_view}
use Rattle.pb_base.specs.declared.pair.Pair.{Pair}
use Rattle.pb_debug_texts.specs.Does.{amount_text, and_before}
use Rattle.pb_debug_texts.proofs.EachNumber.{each_next}
use Rattle.pb_debug_texts.proofs.listed.put_bundle.Goals as goal

pub loop-k-preserved : goal.loop-k-preserved
loop-k-preserved c =
    let names = names_view c.args.names.now in
    let bundle = c.args.bundle.now in
    let k = c.loop-k.k in
    let here = c.loop-k.text.items in
    let said : ℕ → List ℕ = λ j. and_before j ++ amount_text names (slice_get bundle j) in
    let pair = ap (λ (o : Option Pair). here ++ (and_before k ++ amount_text names o)) (sym c.get.ensures) in
    each_next said k c.args.text.now.items here c.put_pair_at.new.text.items c.loop-k.invariant
    (c.in_ok-put_pair_at.ensures ∙ pair)
