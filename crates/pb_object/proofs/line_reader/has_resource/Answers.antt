use Rattle.std.proofs.Common.{◌∙◌, sym, ap, List}
use Rattle.std.proofs.lemmas.Simd.{map-map}
use Rattle.pb_code.specs.Names.{Word, is_among}
use Rattle.pb_object.specs.Objects.{ResourceRow}
use Rattle.pb_object.specs.Rows.{resource_row}
use Rattle.pb_object.proofs.WordTurns.{from_here, from_end, among_here, among_on, among_none}
use Rattle.pb_object.proofs.line_reader.has_resource.Goals as goal

pub loop-other-init : goal.loop-other-init
loop-other-init c = ap (λ (l : List Word). is_among l c.args.name.now) (map-map (λ (r : ResourceRow). r.name) resource_row c.args.resources.now)

pub returns-then-same : goal.returns-then-same
returns-then-same c =
    let same = rw c.other-item.is at (sym (rw c.deref.ensures.value at c.same.ensures) ∙ c.if-same.true) in
    let here = from_here (λ r. r.name.items) c.args.resources.now c.loop-other.other-index _ c.loop-other-test.true in
    sym (c.loop-other.invariant ∙ among_here c.args.name.now _ _ _ here same)

pub loop-other-preserved : goal.loop-other-preserved
loop-other-preserved c =
    let same = rw c.other-item.is at (sym (rw c.deref.ensures.value at c.same.ensures) ∙ c.if-same.false) in
    let here = from_here (λ r. r.name.items) c.args.resources.now c.loop-other.other-index _ c.loop-other-test.true in
    c.loop-other.invariant ∙ among_on c.args.name.now _ _ _ here same

pub returns : goal.returns
returns c =
    sym (c.loop-other.invariant
    ∙ among_none c.args.name.now _ (from_end (λ r. r.name.items) c.args.resources.now c.loop-other.other-index c.loop-other-test.false))
