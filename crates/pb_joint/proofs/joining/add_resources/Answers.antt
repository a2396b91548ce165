use Rattle.std.proofs.Common.{◌≡◌, [], length, sym, arith}
use Rattle.std.proofs.lemmas.List.{append-nil}
use Rattle.pb_joint.proofs.JoinLemmas.{adds_more, still_there}
use Rattle.pb_joint.specs.Joined.{none}
use Rattle.pb_tree.specs.View.{resource_view}
use Rattle.pb_joint.proofs.joining.add_resources.Goals as goal

pub loop-resource-init : goal.loop-resource-init
loop-resource-init g c = ([], none, sym (append-nil _))

pub add_resource-requires : goal.add_resource-requires
add_resource-requires g c =
    let so_far = c.loop-resource.invariant in
    let long = c.args.all.now.ok.0 in
    let told = c.len-count.ensures in
    let many : c.len-count.result ≡ length c.args.all.now.items = omega (arith, long, told) in
    still_there resource_view c.args.all.now.items c.loop-resource.all.items c.len-count.result many
    (so_far.0, _, so_far.1, so_far.2)

pub loop-resource-preserved : goal.loop-resource-preserved
loop-resource-preserved g c =
    let long = c.args.all.now.ok.0 in
    let told = c.len-count.ensures in
    let many : c.len-count.result ≡ length c.args.all.now.items = omega (arith, long, told) in
    adds_more resource_view c.args.all.now.items c.loop-resource.all.items c.add_resource.new.all.items c.loop-resource.yielded
    c.in-Some.resource c.len-count.result many c.loop-resource.invariant c.in_ok-add_resource.ensures
