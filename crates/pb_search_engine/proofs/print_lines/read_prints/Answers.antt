use Rattle.std.proofs.Common.{◌≢◌, ℕ, List, [], eqb, arith, ap, length}
use Rattle.pb_code.specs.View.{code_view}
use Rattle.pb_picks.proofs.PickParts.{behind_line}
use Rattle.pb_search_engine.proofs.PrintLemmas.{one_print_more}
use Rattle.pb_search_engine.proofs.print_lines.read_prints.Goals as goal

pub loop-rest-preserved : goal.loop-rest-preserved
loop-rest-preserved c =
    let before = c.loop-rest.prints.items in
    let rest = c.loop-rest.rest.now in
    let some : rest ≢ [] = λ e. let t = ap (λ (xs : List ℕ). eqb (length xs) 0) e in cc (t, c.is_empty.ensures, c.loop-rest-test.true) in
    let shorter = behind_line rest c.first_line.result.0.now c.first_line.result.1.now c.first_line.ensures in
    rw c.in_ok-push.ensures.items (record {
      reads = one_print_more (code_view c.args.code.now) c.args.text.now before rest c.in-Some.print c.first_line.result.0.now
          c.first_line.result.1.now c.loop-rest.invariant.reads some c.first_line.ensures c.in-Some.ensures;
      within = omega (arith, shorter);
    })

pub returns-in_default-clause-refused : goal.returns-in_default-clause-refused
returns-in_default-clause-refused c =
    let rest = c.loop-rest.rest.now in
    let some : rest ≢ [] = λ e. let t = ap (λ (xs : List ℕ). eqb (length xs) 0) e in cc (t, c.is_empty.ensures, c.loop-rest-test.true) in
    let within = c.loop-rest.invariant.within in (
      c.loop-rest.prints.items,
      c.first_line.result.0.now,
      c.first_line.result.1.now,
      rest,
      c.loop-rest.invariant.reads,
      some,
      c.first_line.ensures,
      omega (arith, within),
      c.in_default.ensures,
    )
