use Rattle.std.proofs.Common.{arith, map}
use Rattle.std.proofs.lemmas.List.{length-map}
use Rattle.pb_tree.specs.View.{demand_view}
use Rattle.pb_names.specs.Causes.{InDemand}
use Rattle.pb_names.specs.Search.{names_in}
use Rattle.pb_base.proofs.Lists.{view_read}
use Rattle.pb_names.proofs.FirstCauses.{first_either, among_more, among_all}
use Rattle.pb_names.proofs.causes.first_in_hold.Goals as goal

pub loop-i-preserved : goal.loop-i-preserved
loop-i-preserved g c =
    rw (c.earlier-first.ensures, c.earlier-here.ensures, c.earlier-of_name.ensures)
    (among_more (InDemand (names_in c.args.resources.now))
    (map demand_view c.args.demands.now.items) c.loop-i.i (demand_view c.demand-item.result) _ _
    (view_read demand_view _ _ _ _ c.deref-demand-items.ensures.value (omega arith) c.demand-item.is)
    c.loop-i.invariant
    (first_either _ _ c.first_in_number.ensures
    (first_either _ _ c.first_in_name.ensures c.first_repeated.ensures)))

pub returns : goal.returns
returns g c =
    among_all (InDemand (names_in c.args.resources.now)) _ _ _
    (omega (arith, length-map c.args.demands.now.items demand_view)) c.loop-i.invariant
