use Rattle.std.proofs.Common.{◌<◌, ℕ, List, length, sym, ◌∙◌, subst, arith, vec_len}
use Rattle.std.specs.Prelude.{All}
use Rattle.std.proofs.lemmas.Bool.{eqb-true}
use Rattle.std.proofs.lemmas.List.Elements.{All-weaker}
use Rattle.pb_machine.specs.Views.{machine_view}
use Rattle.pb_circles.specs.Circles.{EachLinks, IsFreeAt}
use Rattle.pb_circles.specs.Links.{HasNamesOf, IsLink}
use Rattle.pb_circles.proofs.Bounds.{link_names}
use Rattle.pb_circles.proofs.CircleLemmas.{HasCircles, circles_kept, none_left}
use Rattle.pb_circles.proofs.Lists.{all_removed}
use Rattle.pb_circles.proofs.circle.find_circle.Goals as goal

pub loop-i-preserved : goal.loop-i-preserved
loop-i-preserved c =
    let code = c.args.verified.now.code in
    let s = machine_view c.args.machine.now in
    let left = c.loop-i.left.items in
    let free = subst (λ (xs : List ℕ). IsFreeAt code s xs c.in-Some.i) c.deref.ensures.value c.in-Some.ensures.some in
    let removed = c.remove.ensures.items in
    record {
      below = subst (All (λ p. p < length s.processes)) (sym removed) (all_removed (λ p. p < length s.processes) left c.in-Some.i c.loop-i.invariant.below);
      circles = subst (HasCircles code s) (sym removed) (circles_kept code s left c.in-Some.i free c.loop-i.invariant.circles);
    }

pub returns-then-is_empty-clause-none : goal.returns-then-is_empty-clause-none
returns-then-is_empty-clause-none c =
    let n = eqb-true (vec_len c.loop-i.left) 0 (sym c.if-is_empty.ensures) in
    let l = c.loop-i.left.ok.0 in
    none_left c.args.verified.now.code (machine_view c.args.machine.now) c.loop-i.left.items (omega (arith, n, l)) c.loop-i.invariant.circles

pub follow-requires-clause-links : goal.follow-requires-clause-links
follow-requires-clause-links c =
    subst (EachLinks c.args.verified.now.code (machine_view c.args.machine.now)) (c.deref.ensures.value ∙ sym c.deref-2.ensures.value) c.in_default.ensures.none

pub returns-clause-names : goal.returns-clause-names
returns-clause-names c =
    let v = c.args.verified.now in
    let s = machine_view c.args.machine.now in
    let is = c.requires.1 in
    All-weaker (IsLink v.code s) (HasNamesOf v.code.names) (link_names c.requires.0 v is.verified s is.reached) c.in_ok-follow.field-0.items c.in_ok-follow.ensures.each
