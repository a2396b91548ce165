use Rattle.std.proofs.Common.{◌≤◌, length, map, take}
use Rattle.std.specs.List.{AllZip}
use Rattle.pb_base.specs.Bundle.{IsDistinct}
use Rattle.pb_tree.specs.View.{demand_view}
use Rattle.pb_names.specs.Resolves.{ResolvesDemand}
use Rattle.pb_names.specs.Search.{names_in}
use Rattle.pb_resolver.proofs.resolver.number_hold.Given as goal

abbrev pub invariant-loop-i : goal.invariant-loop-i
invariant-loop-i g l = record {
  some : 1 ≤ length l.bundle;
  each : AllZip (ResolvesDemand (names_in l.resources)) (take l.i (map demand_view l.demands.items)) l.bundle;
  distinct : IsDistinct l.bundle;
}
