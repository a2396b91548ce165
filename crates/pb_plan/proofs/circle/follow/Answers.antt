use Rattle.std.proofs.Common.{◌≡◌, ◌⊎◌, ◌+◌, ◌∷◌, ℕ, List, take, Some, ⊎_elim, map, sym, ap, ◌∙◌, subst, arith}
use Rattle.std.specs.Prelude.{slice_get, remove}
use Rattle.std.proofs.lemmas.Option.{slice_get_within}
use Rattle.pb_names.specs.View.{process_view}
use Rattle.pb_plan.specs.Circles.{IsCircleAmong, IsEdgeAmong, IsOnPath, IsPath}
use Rattle.pb_plan.specs.Nests.{IsAmong}
use Rattle.pb_plan.specs.declared.edge.Edge.{Edge}
use Rattle.pb_plan.proofs.CircleLemmas.{circle_at, cover_more, path_more}
use Rattle.pb_plan.proofs.circle.follow.Goals as goal

pub returns-in-Some : goal.returns-in-Some
returns-in-Some g c =
    let processes = map process_view c.args.processes.now in
    let path = c.loop-k.path.items in
    let k = c.in-Some.k in
    let found = c.in-Some.ensures.some in
    let items : c.in_ok-from_slice.field-0.items ≡ take (k + 1) path =
    c.in_ok-from_slice.ensures.items ∙ ap (take (k + 1)) c.deref-in-Some.ensures.value in
    subst (IsCircleAmong c.args.among.now processes) (sym items)
    (circle_at processes c.args.among.now path c.loop-k.at k found.0 c.loop-k.invariant.path
    (subst (λ (xs : List Edge). slice_get xs k ≡ Some found.0) c.deref.ensures.value found.1) found.2)

pub unreachable-requires : goal.unreachable-requires
unreachable-requires g c = ⊎_elim
    (λ left.
    c.in_default-place_in.ensures.none left.0 (subst (λ (xs : List ℕ). slice_get xs left.0 ≡ Some c.loop-k.at) (sym c.deref-in-loop-k.ensures.value) left.1))
    (λ on. c.in_default.ensures.none (subst (λ (xs : List Edge). IsOnPath xs c.loop-k.at) (sym c.deref.ensures.value) on))
    (c.loop-k.invariant.covers c.loop-k.at c.loop-k.invariant.there)

pub remove-requires : goal.remove-requires
remove-requires g c =
    let w = slice_get_within c.deref-in-loop-k.result.now c.in-Some-place_in.i _ c.in-Some-place_in.ensures.some in
    let l = c.deref-in-loop-k.ensures.len in
    omega (arith, w, l)

pub unreachable-requires-in_default-edge_into : goal.unreachable-requires-in_default-edge_into
unreachable-requires-in_default-edge_into g c =
    let made = c.requires.inside c.loop-k.at c.loop-k.invariant.there in
    c.in_default-edge_into.ensures.none made.0 made.1

pub loop-k-preserved : goal.loop-k-preserved
loop-k-preserved g c =
    let processes = map process_view c.args.processes.now in
    let path = c.loop-k.path.items in
    let rest = c.loop-k.rest.items in
    let edge = c.in-Some-edge_into.edge in
    let is = c.in-Some-edge_into.ensures.some in
    let i = c.in-Some-place_in.i in
    let there = subst (λ (xs : List ℕ). slice_get xs i ≡ Some c.loop-k.at) c.deref-in-loop-k.ensures.value c.in-Some-place_in.ensures.some in
    let pushed : c.insert.new.self.items ≡ edge ∷ path = c.in_ok-insert.ensures.items in
    let removed = c.remove.ensures.items in
    let among = c.args.among.now in
    record {
      path = subst (λ (xs : List Edge). IsPath (IsEdgeAmong processes among) xs edge.nest.outer) (sym pushed)
          (path_more (IsEdgeAmong processes among) path c.loop-k.at edge c.loop-k.invariant.path
          (is.is, (is.member, subst (IsAmong among) (sym is.inner_is) c.loop-k.invariant.there)) is.inner_is
          (λ on. c.in_default.ensures.none (subst (λ (xs : List Edge). IsOnPath xs c.loop-k.at) (sym c.deref.ensures.value) on)));
      there = is.member;
      covers = λ q in'.
          subst (λ (xs : List ℕ). IsAmong xs q ⊎ IsOnPath c.insert.new.self.items q) (sym removed)
          (subst (λ (xs : List Edge). IsAmong (remove rest i) q ⊎ IsOnPath xs q) (sym pushed)
          (cover_more rest path edge i c.loop-k.at q there is.inner_is (c.loop-k.invariant.covers q in')));
    }
