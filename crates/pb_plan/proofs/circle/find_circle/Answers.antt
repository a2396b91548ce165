use Rattle.std.proofs.Common.{ℕ, List, length, map, subst, sym, arith, vec_len}
use Rattle.std.specs.Prelude.{All}
use Rattle.std.proofs.lemmas.List.{length-map}
use Rattle.std.proofs.lemmas.Bool.{eqb-true}
use Rattle.std.proofs.lemmas.List.Elements.{All-weaker}
use Rattle.pb_names.specs.View.{process_view}
use Rattle.pb_plan.specs.Circles.{IsBelow, IsEdge, JoinsThese}
use Rattle.pb_plan.specs.Nests.{IsAmong, IsInside}
use Rattle.pb_plan.specs.declared.nest.Nest.{Nest}
use Rattle.pb_plan.proofs.CircleLemmas.{edge_below, joins_more}
use Rattle.pb_plan.proofs.OrderLemmas.{all_followed, left_among}
use Rattle.pb_plan.proofs.circle.find_circle.Goals as goal

pub returns-then-is_empty-clause-none : goal.returns-then-is_empty-clause-none
returns-then-is_empty-clause-none g c =
    let n = eqb-true (vec_len c.in_ok-sorted.sorted.left) 0 (sym c.if-is_empty.ensures) in
    let l = c.in_ok-sorted.sorted.left.ok.0 in (
      c.in_ok-sorted.sorted.order.items,
      all_followed (map process_view c.args.processes.now) c.args.resources c.requires c.args.among.now
          c.in_ok-sorted.sorted.order.items c.in_ok-sorted.sorted.left.items (omega (arith, n, l)) c.in_ok-sorted.ensures.begun,
    )

pub follow-requires-clause-inside : goal.follow-requires-clause-inside
follow-requires-clause-inside g c =
    subst (λ (xs : List ℕ). (r : ℕ) → IsAmong xs r → (found : Nest) × IsInside (map process_view c.args.processes.now) xs r found)
    (sym c.deref.ensures.value) c.in_ok-sorted.ensures.left

pub returns-clause-circle : goal.returns-clause-circle
returns-clause-circle g c =
    let left = subst (λ (xs : List ℕ). All (JoinsThese xs) c.in_ok-follow.field-0.items) c.deref.ensures.value
    c.in_ok-follow.ensures.1 in (
      c.in_ok-follow.ensures.0,
      joins_more c.in_ok-sorted.sorted.left.items c.args.among.now c.in_ok-follow.field-0.items
          (λ r among.
          left_among c.args.among.now c.in_ok-sorted.sorted.order.items c.in_ok-sorted.sorted.left.items r
          c.in_ok-sorted.ensures.begun.all among) left,
    )

pub returns-clause-below : goal.returns-clause-below
returns-clause-below g c =
    let processes = map process_view c.args.processes.now in
    subst (λ (n : ℕ). All (IsBelow n c.args.resources) c.in_ok-follow.field-0.items) (length-map c.args.processes.now process_view)
    (All-weaker (IsEdge processes) (IsBelow (length processes) c.args.resources)
    (λ edge is. edge_below c.args.resources processes edge c.requires is) c.in_ok-follow.field-0.items c.in_ok-follow.ensures.0.each)
