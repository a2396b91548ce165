use Rattle.std.proofs.Common.{◌≡◌, ◌⊎◌, ◌<◌, ℕ, List, length, drop, Some, ⊎_elim, sym, ap, ◌∙◌, subst, arith}
use Rattle.std.specs.Prelude.{slice_get, remove}
use Rattle.std.proofs.lemmas.List.{take_rest}
use Rattle.std.proofs.lemmas.Option.{slice_get_within}
use Rattle.pb_base.proofs.Lists.{all_at}
use Rattle.pb_machine.specs.Views.{machine_view}
use Rattle.pb_circles.specs.Circles.{IsCircle, IsPath, IsOnPath}
use Rattle.pb_circles.specs.Links.{IsAmong, IsLink}
use Rattle.pb_circles.specs.declared.link.Link.{Link}
use Rattle.pb_circles.proofs.Paths.{circle_at, cover_more, path_more}
use Rattle.pb_circles.proofs.circle.follow.Goals as goal

pub returns-in-Some : goal.returns-in-Some
returns-in-Some c =
    let code = c.args.verified.now.code in
    let s = machine_view c.args.machine.now in
    let path = c.loop-k.path.items in
    let k = c.in-Some.k in
    let found = c.in-Some.ensures.some in
    let items : c.in_ok-from_slice.field-0.items ≡ drop k path =
    c.in_ok-from_slice.ensures.items ∙ (take_rest c.deref-in-Some.result.now k ∙ ap (drop k) c.deref-in-Some.ensures.value) in
    subst (IsCircle code s) (sym items)
    (circle_at code s path c.loop-k.at k found.0 c.loop-k.invariant.path
    (subst (λ (xs : List Link). slice_get xs k ≡ Some found.0) c.deref.ensures.value found.1) found.2)

pub unreachable-requires : goal.unreachable-requires
unreachable-requires c = ⊎_elim
    (λ left.
    c.in_default-place_in.ensures.none left.0 (subst (λ (xs : List ℕ). slice_get xs left.0 ≡ Some c.loop-k.at) (sym c.deref-in-loop-k.ensures.value) left.1))
    (λ on. c.in_default.ensures.none (subst (λ (xs : List Link). IsOnPath xs c.loop-k.at) (sym c.deref.ensures.value) on))
    (c.loop-k.invariant.covers c.loop-k.at c.loop-k.invariant.there)

pub remove-requires : goal.remove-requires
remove-requires c =
    let w = slice_get_within c.deref-in-loop-k.result.now c.in-Some-place_in.i _ c.in-Some-place_in.ensures.some in
    let l = c.deref-in-loop-k.ensures.len in
    omega (arith, w, l)

pub link_to-requires-clause-process : goal.link_to-requires-clause-process
link_to-requires-clause-process c =
    let there = c.loop-k.invariant.there in
    all_at (λ q. q < length (machine_view c.args.machine.now).processes) c.args.among.now there.0 c.loop-k.at c.requires.among there.1

pub unreachable-requires-in_default-link_to : goal.unreachable-requires-in_default-link_to
unreachable-requires-in_default-link_to c =
    let made = c.requires.links c.loop-k.at c.loop-k.invariant.there in
    c.in_default-link_to.ensures.none made.0 made.1

pub loop-k-preserved : goal.loop-k-preserved
loop-k-preserved c =
    let code = c.args.verified.now.code in
    let s = machine_view c.args.machine.now in
    let path = c.loop-k.path.items in
    let rest = c.loop-k.rest.items in
    let link = c.in-Some-link_to.link in
    let is = c.in-Some-link_to.ensures.some in
    let i = c.in-Some-place_in.i in
    let there = subst (λ (xs : List ℕ). slice_get xs i ≡ Some c.loop-k.at) c.deref-in-loop-k.ensures.value c.in-Some-place_in.ensures.some in
    let pushed = c.in_ok-push.ensures.items in
    let removed = c.remove.ensures.items in
    record {
      path = subst (λ (xs : List Link). IsPath (IsLink code s) xs link.holder) (sym pushed)
          (path_more (IsLink code s) path c.loop-k.at link c.loop-k.invariant.path is.links is.process_is
          (λ on. c.in_default.ensures.none (subst (λ (xs : List Link). IsOnPath xs c.loop-k.at) (sym c.deref.ensures.value) on)));
      there = is.member;
      covers = λ q in'.
          subst (λ (xs : List ℕ). IsAmong xs q ⊎ IsOnPath c.push.new.self.items q) (sym removed)
          (subst (λ (xs : List Link). IsAmong (remove rest i) q ⊎ IsOnPath xs q) (sym pushed)
          (cover_more rest path link i c.loop-k.at q there is.process_is (c.loop-k.invariant.covers q in')));
    }
