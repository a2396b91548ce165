-- What a step changes in the row of the process that makes it.
use Rattle.std.proofs.Common.{◌≡◌, ⊎_elim, ℕ, ◌≤◌, List, [], length, map}
use Rattle.std.proofs.Common.{get_or, set, ap, arith, length-set, get_or-set_same}
use Rattle.std.proofs.Math.ListN.{get_or-map}
use Rattle.std.proofs.lemmas.Bool.{cases_lt}
use Rattle.std.proofs.lemmas.List.{get_or_past}
use Rattle.pb_base.specs.declared.operators.FaultKind.{FaultKind}
use Rattle.pb_base.specs.Banker.{cell, row_of}
use Rattle.pb_base.specs.Steppers.{Table, Faults}
use Rattle.pb_base.specs.Steppers.{loans_after}

row_at : (loans : Table) (p : ℕ) (row : List ℕ) (r : ℕ) → cell (set loans p row) p r ≤ get_or row r 0
row_at loans p row r =
    ⊎_elim
    (λ l. let e = ap (λ (x : List ℕ). get_or x r 0) (get_or-set_same loans p row [] l) in omega (arith, e))
    (λ l.
    let e =
    ap (λ (x : List ℕ). get_or x r 0)
    (get_or_past (set loans p row) p [] (omega (arith, l, length-set loans p row)))
    in
    omega (arith, e))
    (cases_lt p (length loans))

-- a fault hands back all
pub none_here : (loans : Table) (p r : ℕ) (kind : FaultKind) → cell (loans_after loans p (Faults kind)) p r ≡ 0
none_here loans p r kind =
    let none : ℕ → ℕ = λ _. 0 in
    let a = row_at loans p (map none (row_of loans p)) r in
    let b : get_or (map none (row_of loans p)) r 0 ≡ 0 = get_or-map none (row_of loans p) r 0 in
    omega (arith, a, b)
