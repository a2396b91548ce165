use Rattle.std.proofs.Common.{◌≡◌, ◌∙◌, ◌+◌, ◌++◌, ◌∷◌, [], List, ℕ, ap, arith, subst, sym, take}
use Rattle.std.proofs.lemmas.List.{take_more}
use Rattle.pb_messages.specs.Details.{AreSpots, more, none}
use Rattle.pb_messages.proofs.worded.show_spots.Goals as goal
use Rattle.pb_mistakes.specs.declared.wording.Spot.{Spot}

pub loop-spot-init : goal.loop-spot-init
loop-spot-init c =
    subst (λ (told : List ℕ). AreSpots c.args.label.now c.args.text.now [] told) (sym c.new-out.ensures.items) none

pub loop-spot-preserved : goal.loop-spot-preserved
loop-spot-preserved c =
    let label = c.args.label.now in
    let text = c.args.text.now in
    let spots = c.args.spots.now in
    let i = c.loop-spot.spot-index in
    let spot : Spot = c.spot-item.result in
    let test = c.loop-spot-test.true in
    let is = c.spot-item.is in
    let one = take_more spots i spot test in
    let taken : take (i + 1) spots ≡ take i spots ++ spot ∷ [] = grind (arith, one, is) in
    let told : c.extend_from_slice.new.self.items ≡ c.loop-spot.out.items ++ c.in_ok-shown.shown.items =
    c.in_ok-extend_from_slice.ensures.items ∙ ap (λ (s : List ℕ). c.loop-spot.out.items ++ s) c.deref.ensures.value in
    subst (λ (those : List Spot). AreSpots label text those c.extend_from_slice.new.self.items) (sym taken)
    (subst (λ (said : List ℕ). AreSpots label text (take i spots ++ spot ∷ []) said) (sym told)
    (more (take i spots) spot c.loop-spot.out.items c.in_ok-shown.shown.items c.loop-spot.invariant c.in_ok-shown.ensures))
