use Rattle.std.proofs.Common.{◌≤◌, ℕ, length, arith, replicate}
use Rattle.std.proofs.lemmas.List.{take-replicate}
use Rattle.pb_banker.proofs.TableCells.{resources_of}
use Rattle.pb_banker.proofs.Seats.{state_of-seated, IsSound-seated}
use Rattle.pb_banker.proofs.jobs.seat.Goals as goal

pub returns-clause-sound : goal.returns-clause-sound
returns-clause-sound c =
    let long : 64 ≤ length c.args.accounts.now.claims = omega arith in
    let long' : 64 ≤ length c.args.accounts.now.loans = omega arith in
    let narrow : c.args.accounts.now.resources ≤ 16 =
    (let e = resources_of c.args.accounts.now c.requires.sound in let f = c.requires.sound.well_formed.few_resources in omega (arith, e, f)) in
    IsSound-seated c.args.accounts.now c.requires.sound c.rows_with-accounts.result c.args.p c.args.claims.now c.row_with-row.result
    (replicate {A = ℕ} 16 0) c.requires.newcomer c.rows_with-accounts.ensures long long' c.row_with-row.ensures
    (take-replicate {X = ℕ} c.args.accounts.now.resources 16 0 narrow)

pub returns-clause-state : goal.returns-clause-state
returns-clause-state c =
    let long : 64 ≤ length c.args.accounts.now.claims = omega arith in
    let long' : 64 ≤ length c.args.accounts.now.loans = omega arith in
    let narrow : c.args.accounts.now.resources ≤ 16 =
    (let e = resources_of c.args.accounts.now c.requires.sound in let f = c.requires.sound.well_formed.few_resources in omega (arith, e, f)) in
    state_of-seated c.args.accounts.now c.requires.sound c.rows_with-accounts.result c.args.p c.args.claims.now c.row_with-row.result
    (replicate {A = ℕ} 16 0) c.requires.newcomer c.rows_with-accounts.ensures long long' c.row_with-row.ensures
    (take-replicate {X = ℕ} c.args.accounts.now.resources 16 0 narrow)
