use Rattle.std.proofs.Common.{◌∙◌, sym}
use Rattle.pb_object.proofs.WordTurns.{from_here, from_end, among_here, among_on, among_none}
use Rattle.pb_object.proofs.line_reader.has_name.Goals as goal

pub returns-then-same : goal.returns-then-same
returns-then-same c =
    let same = rw c.other-item.is at (sym (rw c.deref.ensures.value at c.same.ensures) ∙ c.if-same.true) in
    let here = from_here (λ n. n.items) c.args.names.now c.loop-other.other-index _ c.loop-other-test.true in
    sym (c.loop-other.invariant ∙ among_here c.args.name.now _ _ _ here same)

pub loop-other-preserved : goal.loop-other-preserved
loop-other-preserved c =
    let same = rw c.other-item.is at (sym (rw c.deref.ensures.value at c.same.ensures) ∙ c.if-same.false) in
    let here = from_here (λ n. n.items) c.args.names.now c.loop-other.other-index _ c.loop-other-test.true in
    c.loop-other.invariant ∙ among_on c.args.name.now _ _ _ here same

pub returns : goal.returns
returns c =
    sym (c.loop-other.invariant
    ∙ among_none c.args.name.now _ (from_end (λ n. n.items) c.args.names.now c.loop-other.other-index c.loop-other-test.false))
