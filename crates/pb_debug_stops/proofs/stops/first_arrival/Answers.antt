use Rattle.std.proofs.Common.{◌≡◌, inl, inr, ℕ, subst, arith}
use Rattle.std.proofs.lemmas.Bool.{cases_lt}
use Rattle.std.proofs.lemmas.List.{length-map}
use Rattle.pb_code.specs.View.{labels_view}
use Rattle.pb_history.specs.Entries.{picks_of}
use Rattle.pb_debug_stops.specs.Stops.{Arrives}
use Rattle.pb_debug_positions.proofs.Searches.{not_true}
use Rattle.pb_debug_stops.proofs.stops.first_arrival.Goals as goal

pub loop-walker-preserved : goal.loop-walker-preserved
loop-walker-preserved c =
    let inv = c.loop-walker.invariant in
    let at = c.loop-walker.walker.at in
    let later = inv.later in
    let next = c.arrives_next.ensures.at in
    let holds : ℕ → Type 0 =
    Arrives c.args.verified.now.code (labels_view c.args.labels.now) (picks_of c.args.trace.now.entries) c.args.lines.now in
    record {
      walks = c.arrives_next.ensures.walks;
      behind = c.arrives_next.ensures.behind;
      together = c.arrives_next.ensures.together;
      later = omega (arith, later, next);
      none = λ j le lt does. elim (cases_lt j at) [
        | inl before ↦ inv.none j le before does
        | inr past ↦ (
            let same : j ≡ at = omega (arith, past, lt, next) in
            not_true c.arrives_next.result c.if-arrives_next.false (c.arrives_next.ensures.arrives.1 (subst holds same does)))
      ];
    }

pub returns : goal.returns
returns c = λ k le lt does.
    let test = c.loop-walker-test.false in
    let size = length-map c.args.trace.now.entries (λ e. e.pick) in
    let many = c.len.ensures in
    c.loop-walker.invariant.none k le (omega (arith, lt, test, size, many)) does
