use Rattle.std.proofs.Common.{◌≡◌, inl, inr, ℕ, subst, arith}
use Rattle.std.proofs.lemmas.Bool.{cases_lt}
use Rattle.pb_code.specs.View.{labels_view}
use Rattle.pb_history.specs.Entries.{picks_of}
use Rattle.pb_debug_positions.specs.Searches.{Does}
use Rattle.pb_debug_positions.proofs.Searches.{not_true}
use Rattle.pb_debug_positions.proofs.search.first_in.Goals as goal

pub loop-walker-preserved : goal.loop-walker-preserved
loop-walker-preserved c =
    let inv = c.loop-walker.invariant in
    let at = c.loop-walker.walker.at in
    let later = inv.later in
    let next = c.does.ensures.at in
    let holds : ℕ → Type 0 =
    Does c.args.verified.now.code (labels_view c.args.labels.now) (picks_of c.args.trace.now.entries) c.args.watch in
    record {
      walks = c.does.ensures.walks;
      later = omega (arith, later, next);
      none = λ j le lt does. elim (cases_lt j at) [
        | inl before ↦ inv.none j le before does
        | inr past ↦
            let same : j ≡ at = omega (arith, past, lt, next) in
            not_true c.does.result c.if-does.false (c.does.ensures.does.1 (subst holds same does))
      ];
    }
