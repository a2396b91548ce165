use Rattle.std.proofs.Common.{Bool, sym, ap, ◌∙◌}
use Rattle.std.specs.Prelude.{not, ◌&&◌}
use Rattle.pb_history.specs.Entries.{are_same}
use Rattle.pb_history.proofs.SpanEnds.{goes_on_last}
use Rattle.pb_history.proofs.spans.continues.Goals as goal

pub returns-then-not-last : goal.returns-then-not-last
returns-then-not-last c =
    let e = c.in-Some.last.now in
    c.are_same.ensures
    ∙ (ap (λ (b : Bool). not b && are_same e.pick c.args.pick) (sym c.if-not-last.true)
    ∙ sym (goes_on_last c.args.ends.now c.args.pick e (sym c.in-Some.ensures.value)))

pub returns-else-not-last : goal.returns-else-not-last
returns-else-not-last c =
    let e = c.in-Some.last.now in
    ap not c.if-not-last.false
    ∙ (ap (λ (b : Bool). not b && are_same e.pick c.args.pick) (sym c.if-not-last.false)
    ∙ sym (goes_on_last c.args.ends.now c.args.pick e (sym c.in-Some.ensures.value)))
