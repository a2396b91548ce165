use Rattle.std.proofs.Common.{arith, map}
use Rattle.pb_claims.proofs.Rows.{stored_some, stored_resources, found_width, found_one_length, IfOk-capped}
use Rattle.pb_claims.proofs.Rows.{IfOk-exact}
use Rattle.pb_claims.proofs.inference.infer.Goals as goal

pub claims_with-requires-clause-few_resources : goal.claims_with-requires-clause-few_resources
claims_with-requires-clause-few_resources g c =
    let width = found_width c.len.result c.args.program.now.processes.items (map (λ row. row.items) c.in_ok-rows.rows.items)
    c.in_ok-rows.ensures (stored_some c.args.program.now c.requires.some_processes) in
    let few = stored_resources c.args.program.now in
    omega (arith, width, few, c.len.ensures)

pub claims_with-requires-clause-one_length : goal.claims_with-requires-clause-one_length
claims_with-requires-clause-one_length g c =
    found_one_length c.len.result c.args.program.now.processes.items (map (λ row. row.items) c.in_ok-rows.rows.items)
    c.in_ok-rows.ensures (stored_some c.args.program.now c.requires.some_processes)

pub returns-clause-exact : goal.returns-clause-exact
returns-clause-exact g c =
    IfOk-exact c.args.program.now c.len.result (map (λ row. row.items) c.in_ok-rows.rows.items) c.claims_with.result
    (omega arith) c.in_ok-rows.ensures c.claims_with.ensures

pub returns-clause-capped : goal.returns-clause-capped
returns-clause-capped g c =
    IfOk-capped c.args.program.now c.len.result (map (λ row. row.items) c.in_ok-rows.rows.items) c.claims_with.result
    (omega arith) c.in_ok-rows.ensures c.claims_with.ensures
