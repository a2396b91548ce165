use Rattle.std.proofs.Common.{◌≡◌, ◌++◌, ◌∷◌, [], map}
use Rattle.std.proofs.lemmas.Result.{err_from_is_err_and}
use Rattle.std.proofs.lemmas.List.{map_push}
use Rattle.pb_object.specs.Lines.{many}
use Rattle.pb_object.specs.Reading.{resource_at}
use Rattle.pb_object.specs.Rows.{resource_row}
use Rattle.pb_object.proofs.Loops.{goes_on, ends, is_done}
use Rattle.pb_object.proofs.reader.resources_of.Goals as goal

pub returns-in_err-resource : goal.returns-in_err-resource
returns-in_err-resource c =
    let p = err_from_is_err_and c.from_residual.result c.from_residual.ensures.1 in
    rw (p.1, p.2) (ends resource_at c.in_err-resource.field-0.0 (map resource_row c.loop.resources.items) c.args.count
    c.loop.counter c.loop.rest.now (many resource_at [] c.args.count c.args.text.now) c.loop-test.true (rw
    c.deref.ensures.value at c.in_err-resource.ensures) c.loop.invariant)

pub loop-preserved : goal.loop-preserved
loop-preserved c =
    let r = c.in_ok-resource.resource in
    let e : map resource_row c.push.new.self.items ≡ map resource_row c.loop.resources.items ++ resource_row r ∷ [] =
    rw c.in_ok-push.ensures.items (map_push _ c.loop.resources.items r) in
    rw e (goes_on resource_at (map resource_row c.loop.resources.items) c.args.count c.loop.counter c.loop.rest.now
    (resource_row r) c.in_ok-resource.after.now (many resource_at [] c.args.count c.args.text.now)
    c.loop-test.true (rw c.deref.ensures.value at c.in_ok-resource.ensures) c.loop.invariant)

pub returns : goal.returns
returns c = is_done resource_at (map resource_row c.loop.resources.items) c.args.count c.loop.counter c.loop.rest.now
    (many resource_at [] c.args.count c.args.text.now) c.loop-test.false c.loop.invariant
