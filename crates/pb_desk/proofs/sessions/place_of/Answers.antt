use Rattle.std.proofs.Common.{◌≡◌, eqb, List, true, false, sym, ap, ◌∙◌, arith}
use Rattle.std.proofs.lemmas.List.{drop_all}
use Rattle.pb_desk.specs.Sessions.{SessionValue, session_place}
use Rattle.pb_desk.proofs.SessionPlaces.{place_next}
use Rattle.pb_desk.proofs.sessions.place_of.Goals as goal

pub returns-then-is-clause-place : goal.returns-then-is-clause-place
returns-then-is-clause-place c =
    let same : eqb c.index-sessions-i.result.id c.args.id ≡ true = sym c.is_of-is.ensures ∙ c.if-is.true in
    sym (c.loop-i.invariant
    ∙ place_next c.args.sessions.now c.args.id c.loop-i.i c.index-sessions-i.result true (omega arith) c.index-sessions-i.is same)

pub loop-i-preserved : goal.loop-i-preserved
loop-i-preserved c =
    let same : eqb c.index-sessions-i.result.id c.args.id ≡ false = sym c.is_of-is.ensures ∙ c.if-is.false in
    c.loop-i.invariant
    ∙ place_next c.args.sessions.now c.args.id c.loop-i.i c.index-sessions-i.result false (omega arith) c.index-sessions-i.is same

pub returns-clause-place : goal.returns-clause-place
returns-clause-place c =
    sym (c.loop-i.invariant
    ∙ ap (λ (ss : List SessionValue). session_place c.loop-i.i ss c.args.id) (drop_all c.loop-i.i c.args.sessions.now (omega arith)))
