use Rattle.std.proofs.Common.{map, length, [], ◌∷◌, length-append, ap, arith, refl}
use Rattle.pb_tree.specs.View.{demand_view}
use Rattle.pb_names.specs.Search.{names_in}
use Rattle.pb_base.proofs.Lists.{view_read}
use Rattle.pb_names.proofs.Holds.{amount_free, resource_free, number_new, room_for_one, zip_more, distinct_more}
use Rattle.pb_resolver.proofs.resolver.number_hold.Goals as goal

pub number_demand-first-requires-clause-amount : goal.number_demand-first-requires-clause-amount
number_demand-first-requires-clause-amount g c =
    let ds = c.args.demands.now.items in
    let read = view_read demand_view ds ds 0 c.index.result.now refl (omega arith) c.index.ensures in
    amount_free (names_in c.args.resources.now) (map demand_view ds) 0 (demand_view c.index.result.now) read c.requires.free

pub number_demand-first-requires-clause-known : goal.number_demand-first-requires-clause-known
number_demand-first-requires-clause-known g c =
    let ds = c.args.demands.now.items in
    let read = view_read demand_view ds ds 0 c.index.result.now refl (omega arith) c.index.ensures in
    resource_free (names_in c.args.resources.now) (map demand_view ds) 0 (demand_view c.index.result.now) read c.requires.free

pub number_demand-requires-clause-amount : goal.number_demand-requires-clause-amount
number_demand-requires-clause-amount g c =
    let ds = c.args.demands.now.items in
    let d = c.index-in-loop-i.result.now in
    let read = view_read demand_view ds ds c.loop-i.i d refl (omega arith) c.index-in-loop-i.ensures in
    amount_free (names_in c.args.resources.now) (map demand_view ds) c.loop-i.i (demand_view d) read c.requires.free

pub number_demand-requires-clause-known : goal.number_demand-requires-clause-known
number_demand-requires-clause-known g c =
    let ds = c.args.demands.now.items in
    let d = c.index-in-loop-i.result.now in
    let read = view_read demand_view ds ds c.loop-i.i d refl (omega arith) c.index-in-loop-i.ensures in
    resource_free (names_in c.args.resources.now) (map demand_view ds) c.loop-i.i (demand_view d) read c.requires.free

pub push-requires-clause-new : goal.push-requires-clause-new
push-requires-clause-new g c =
    let ds = c.args.demands.now.items in
    let d = c.index-in-loop-i.result.now in
    let read = view_read demand_view ds ds c.loop-i.i d refl (omega arith) c.index-in-loop-i.ensures in
    number_new (names_in c.args.resources.now) (map demand_view ds) c.loop-i.bundle c.loop-i.i (demand_view d) _
    read c.requires.free c.loop-i.invariant.each c.number_demand.ensures.resource

pub push-requires-clause-room : goal.push-requires-clause-room
push-requires-clause-room g c =
    let ds = c.args.demands.now.items in
    let d = c.index-in-loop-i.result.now in
    let read = view_read demand_view ds ds c.loop-i.i d refl (omega arith) c.index-in-loop-i.ensures in
    let number = c.number_demand.ensures.resource in
    let other =
    number_new (names_in c.args.resources.now) (map demand_view ds) c.loop-i.bundle c.loop-i.i (demand_view d) _
    read c.requires.free c.loop-i.invariant.each number in
    let room =
    room_for_one (names_in c.args.resources.now) _ c.loop-i.bundle (demand_view d) _ c.loop-i.invariant.each
    c.loop-i.invariant.distinct other number in
    omega arith

pub loop-i-preserved : goal.loop-i-preserved
loop-i-preserved g c =
    let ds = c.args.demands.now.items in
    let d = c.index-in-loop-i.result.now in
    let read = view_read demand_view ds ds c.loop-i.i d refl (omega arith) c.index-in-loop-i.ensures in
    let other =
    number_new (names_in c.args.resources.now) (map demand_view ds) c.loop-i.bundle c.loop-i.i (demand_view d) _
    read c.requires.free c.loop-i.invariant.each c.number_demand.ensures.resource in
    record {
      some = omega (arith, ap length c.push.ensures, length-append c.loop-i.bundle (c.number_demand.result ∷ []));
      each = zip_more _ (map demand_view ds) _ _ c.loop-i.i _ _ read c.push.ensures c.loop-i.invariant.each
          c.number_demand.ensures;
      distinct = distinct_more _ _ _ c.push.ensures c.loop-i.invariant.distinct other;
    }
