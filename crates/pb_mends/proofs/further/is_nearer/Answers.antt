use Rattle.std.proofs.Common.{◌<◌, sym, arith, ◌∙◌}
use Rattle.std.proofs.lemmas.Bool.{ltb-true}
use Rattle.pb_mends.specs.Mends.{nearer}
use Rattle.pb_mends.proofs.further.is_nearer.Goals as goal

pub returns-in-Some-Some : goal.returns-in-Some-Some
returns-in-Some-Some c = λ is.
    let less : c.saturating_sub.result < c.saturating_sub-in-Some-Some.result = ltb-true _ _ is in
    nearer c.in-Some-Some.at c.in-Some-Some.other_at
    (sym c.offset.ensures ∙ c.in-Some-Some.is-0) (sym c.offset-2.ensures ∙ c.in-Some-Some.is-1)
    (omega arith)
