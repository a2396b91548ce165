use Rattle.std.proofs.Common.{◌≢◌, ℕ, List, [], eqb, inr, ap, length}
use Rattle.pb_search_engine.proofs.RequirementLemmas.{one_requirement_more}
use Rattle.pb_search_engine.proofs.asked.read_requirements.Goals as goal

pub loop-line-preserved : goal.loop-line-preserved
loop-line-preserved c =
    let before = c.loop-line.requirements.items in
    let rest = c.loop-line.rest.now in
    let some : rest ≢ [] = λ e. let t = ap (λ (xs : List ℕ). eqb (length xs) 0) e in cc (t, c.is_empty.ensures, c.loop-line-test.true) in
    rw c.in_ok-push.ensures.items
    (one_requirement_more c.args.text.now before rest c.in-Some.requirement c.first_line.result.0.now
    c.first_line.result.1.now c.loop-line.invariant some c.first_line.ensures c.in-Some.ensures)

pub returns-in_default : goal.returns-in_default
returns-in_default c = record {
  reads = c.loop-line.invariant;
  others = inr (c.first_line.result.0.now, c.first_line.result.1.now, c.first_line.ensures, c.in_default.ensures);
}
