use Rattle.std.proofs.Common.{◌≡◌, ◌-◌, ◌+◌, true, List, get_or, refl, sym, subst, length, rules, arith}
use Rattle.pb_history.specs.Positions.{state_after}
use Rattle.pb_draw.specs.Lanes.{AreAlike, IsStandingAfter, ShowsStandings}
use Rattle.pb_draw.specs.declared.drawing.LaneStep.{LaneStep}
use Rattle.pb_draw.specs.declared.drawing.Standing.{Standing}
use Rattle.pb_draw.specs.declared.drawing.Standing.TheVariants.{Away}
use Rattle.pb_draw.proofs.Curves.{curve_changes_at, curve_stays_at, shown_at_end}
use Rattle.pb_draw.proofs.Standings.{alike_stands}
use Rattle.pb_draw.proofs.lanes.add_step.Goals as goal

pub returns-clause-shows : goal.returns-clause-shows
returns-clause-shows c = λ lending code picks arm is shows.
    let Stands = IsStandingAfter lending code picks arm in
    let step : LaneStep = record { at = c.args.at; standing = c.args.standing } in
    let steps = c.args.steps.now.items in
    let last = c.index-last.result.now in
    let len = c.len.ensures in
    let some = c.requires.some in
    let many : length steps - 1 + 1 ≡ length steps = omega (arith, some) in
    let here : last ≡ get_or steps (length steps - 1) last = search rules in
    let shown = shown_at_end (λ (s : LaneStep). s.at) (λ (s : LaneStep). s.standing) Away steps (length steps - 1) last
    (c.args.at - 1) many here shows.early in
    subst (λ (steps : List LaneStep). ShowsStandings Stands c.args.at steps) (sym c.in_ok-push.ensures.items)
    (curve_changes_at (λ (s : LaneStep). s.at) (λ (s : LaneStep). s.standing) Away AreAlike Stands c.args.at steps step c.requires.later shows refl is
    (λ alike. (let t : c.are_alike.result ≡ true = c.are_alike.ensures.1 (subst (λ (x : Standing). AreAlike x c.args.standing) shown alike) in
    let f = c.if-are_alike.false in cc)))

pub returns-then-are_alike-clause-shows : goal.returns-then-are_alike-clause-shows
returns-then-are_alike-clause-shows c = λ lending code picks arm is shows.
    let Stands = IsStandingAfter lending code picks arm in
    let steps = c.args.steps.now.items in
    let last = c.index-last.result.now in
    let len = c.len.ensures in
    let some = c.requires.some in
    let many : length steps - 1 + 1 ≡ length steps = omega (arith, some) in
    let here : last ≡ get_or steps (length steps - 1) last = search rules in
    let shown = shown_at_end (λ (s : LaneStep). s.at) (λ (s : LaneStep). s.standing) Away steps (length steps - 1) last
    (c.args.at - 1) many here shows.early in
    let so : Stands c.args.at last.standing =
    alike_stands lending code (state_after code picks c.args.at) arm last.standing c.args.standing (c.are_alike.ensures.0 c.if-are_alike.true) is in
    curve_stays_at (λ (s : LaneStep). s.at) (λ (s : LaneStep). s.standing) Away AreAlike Stands c.args.at steps c.requires.later shows
    (subst (λ (x : Standing). Stands c.args.at x) (sym shown) so)
