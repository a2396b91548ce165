-- The rows of the one pass are the claims.
use Rattle.std.proofs.Common.{◌≡◌, ℕ, zero, suc, ◌+◌, ◌<◌, ◌≤◌, ◌^◌, List, [], ◌∷◌, ◌++◌, length, map, get_or, Some}
use Rattle.std.proofs.Common.{arith, ap, sym, subst, refl, ◌∙◌}
use Rattle.std.specs.Prelude.{slice_get, IfOk, Result, Ok, Err}
use Rattle.std.proofs.lemmas.List.{length-map, get_or-map}
use Rattle.std.proofs.lemmas.List.FromFn.{length-map-range_with_len, get_or-map-range_with_len}
use Rattle.std.proofs.lemmas.List.FromFn.{map-range_with_len_more}
use Rattle.std.proofs.lemmas.Option.{slice_get_within, get_or_from_slice_get}
use Rattle.pb_base.specs.Banker.{cell, row_of}
use Rattle.pb_base.specs.Steppers.{Table}
use Rattle.pb_base.specs.Tables.{HasWidth, width_of}
use Rattle.pb_names.specs.Claims.{IsClaim, peak}
use Rattle.pb_names.specs.Meaning.{AreClaims}
use Rattle.pb_names.specs.Program.{Block, Process, Program}
use Rattle.pb_names.specs.View.{block_view, process_view, resource_view, resolved_view}
use Rattle.pb_names.specs.declared.resolved.Process.{Process as Stored}
use Rattle.pb_names.specs.declared.resolved.Resolved.{Resolved}
use Rattle.pb_tree.specs.Measure.{saturated}
use Rattle.pb_claims.specs.Inferred.{capped_peaks, AreCappedClaims, HaveSmallClaims}
use Rattle.pb_claims.proofs.OnePass.{is_claim}

-- what the one pass finds for each process
abbrev pub rows_of : ℕ → List Process → Table
rows_of n processes = map (λ process. capped_peaks n process.body) processes

-- the same of processes in memory
pub rows_of-view : {A : Type 0} (n : ℕ) (processes : List (Stored A))
    → map (λ process. capped_peaks n (block_view process.body.items)) processes ≡ rows_of n (map process_view processes)
rows_of-view n [] = refl
rows_of-view n (process ∷ processes) =
    ap (λ rows. capped_peaks n (block_view process.body.items) ∷ rows) (rows_of-view n processes)

row_width : (n : ℕ) (processes : List Process) (p : ℕ) (d : List ℕ) → p < length processes
    → length (get_or (rows_of n processes) p d) ≡ n
row_width n [] p d h = absurd (omega arith)
row_width n (process ∷ processes) zero d h = length-map-range_with_len (λ r. saturated (peak r process.body)) 0 n
row_width n (process ∷ processes) (suc p) d h = row_width n processes p d (omega arith)

row_at : (n : ℕ) (processes : List Process) (p : ℕ) (process : Process) → slice_get processes p ≡ Some process
    → row_of (rows_of n processes) p ≡ capped_peaks n process.body
row_at n processes p process at =
    let row : Process → List ℕ = λ q. capped_peaks n q.body in
    get_or-map row processes p process [] (slice_get_within processes p process at)
    ∙ ap row (get_or_from_slice_get processes p process process at)

cell_at : (n : ℕ) (processes : List Process) (p r : ℕ) (process : Process) → slice_get processes p ≡ Some process
    → r < n → cell (rows_of n processes) p r ≡ saturated (peak r process.body)
cell_at n processes p r process at within =
    ap (λ row. get_or row r 0) (row_at n processes p process at)
    ∙ get_or-map-range_with_len (λ k. saturated (peak k process.body)) 0 n r r 0 within (omega arith)

-- so the rows have one length
pub width_of-rows : (n : ℕ) (processes : List Process) (table : Table) → table ≡ rows_of n processes
    → 0 < length processes → width_of table ≡ n
width_of-rows n processes table same some = rw same (row_width n processes 0 [] some)

pub HasWidth-rows : (n : ℕ) (processes : List Process) (table : Table) → table ≡ rows_of n processes
    → 0 < length processes → HasWidth (width_of table) table
HasWidth-rows n processes table same some k d within =
    let long : length table ≡ length processes = ap (length {A = List ℕ}) same ∙ length-map processes _ in
    let here : length (get_or table k d) ≡ n = rw same (row_width n processes k d (omega arith)) in
    here ∙ sym (width_of-rows n processes table same some)

-- and are claims, as far as 64 bits go
pub capped_claims : (program : Program) (table : Table) → table ≡ rows_of (length program.resources) program.processes
    → AreCappedClaims program table
capped_claims program table same =
    let n = length program.resources in
    let long : length table ≡ length program.processes =
    ap (length {A = List ℕ}) same ∙ length-map program.processes _ in
    record {
      height = long;
      width = λ p within. rw same (row_width n program.processes p [] (omega arith));
      each = λ p r process at within. (
        peak r process.body,
        is_claim process r,
        ap (λ rows. cell rows p r) same ∙ cell_at n program.processes p r process at within,
      );
    }

-- and all of them if each is a number of 64 bits
pub exact_claims : (program : Program) (table : Table) → HaveSmallClaims program → AreCappedClaims program table
    → AreClaims program table
exact_claims program table small h = record {
  height = h.height;
  width = h.width;
  each = λ p r process at within.
      let found = h.each p r process at within in
      let low : found.0 < 2 ^ 64 = small.small p r found.0 process at within found.1 in
      let kept : found.0 ≡ cell table p r = omega (arith, found.2, low) in
      subst (IsClaim process r) kept found.1;
}

-- ---- one more amount of a row

pub row_more : (block : Block) (r amount : ℕ) (before after : List ℕ) → before ≡ capped_peaks r block
    → amount ≡ saturated (peak r block) → after ≡ before ++ amount ∷ [] → after ≡ capped_peaks (r + 1) block
row_more block r amount before after so_far next pushed =
    let more = map-range_with_len_more (λ k. saturated (peak k block)) 0 r r (omega arith) in
    pushed ∙ ap (λ row. row ++ amount ∷ []) so_far ∙ ap (λ x. capped_peaks r block ++ x ∷ []) next ∙ sym more

-- ---- what is returned for a program in memory

pub stored_resources : {A : Type 0} (program : Resolved A)
    → length (resolved_view program).resources ≡ length program.resources.items
stored_resources program = length-map program.resources.items resource_view

pub stored_processes : {A : Type 0} (program : Resolved A)
    → length (resolved_view program).processes ≡ length program.processes.items
stored_processes program = length-map program.processes.items process_view

pub stored_some : {A : Type 0} (program : Resolved A) → 1 ≤ length (resolved_view program).processes
    → 0 < length program.processes.items
stored_some program some = let same = stored_processes program in omega (arith, some, same)

-- if rows were found for its processes, and a table has these rows
pub found_claims : {A : Type 0} (program : Resolved A) (n : ℕ) (rows table : Table)
    → n ≡ length program.resources.items
    → rows ≡ map (λ process. capped_peaks n (block_view process.body.items)) program.processes.items → table ≡ rows
    → AreCappedClaims (resolved_view program) table
found_claims program n rows table width found same =
    let long : n ≡ length (resolved_view program).resources =
    width ∙ sym (stored_resources program) in
    capped_claims (resolved_view program) table
    (same ∙ found ∙ rows_of-view n program.processes.items
    ∙ ap (λ k. rows_of k (map process_view program.processes.items)) long)

pub found_width : {A : Type 0} (n : ℕ) (processes : List (Stored A)) (rows : Table)
    → rows ≡ map (λ process. capped_peaks n (block_view process.body.items)) processes → 0 < length processes
    → width_of rows ≡ n
found_width n processes rows found some =
    width_of-rows n (map process_view processes) rows (found ∙ rows_of-view n processes)
    (let long = length-map processes process_view in omega (arith, long, some))

pub found_one_length : {A : Type 0} (n : ℕ) (processes : List (Stored A)) (rows : Table)
    → rows ≡ map (λ process. capped_peaks n (block_view process.body.items)) processes → 0 < length processes
    → HasWidth (width_of rows) rows
found_one_length n processes rows found some =
    HasWidth-rows n (map process_view processes) rows (found ∙ rows_of-view n processes)
    (let long = length-map processes process_view in omega (arith, long, some))

-- a result that is one of these tables
pub IfOk-capped : {A E : Type 0} (program : Resolved A) (n : ℕ) (rows : Table) (result : Result Table E)
    → n ≡ length program.resources.items
    → rows ≡ map (λ process. capped_peaks n (block_view process.body.items)) program.processes.items
    → IfOk result (λ claims. claims ≡ rows) → IfOk result (AreCappedClaims (resolved_view program))
IfOk-capped program n rows (Ok table) width found same = found_claims program n rows table width found same
IfOk-capped program n rows (Err e) width found same = same

pub IfOk-exact : {A E : Type 0} (program : Resolved A) (n : ℕ) (rows : Table) (result : Result Table E)
    → n ≡ length program.resources.items
    → rows ≡ map (λ process. capped_peaks n (block_view process.body.items)) program.processes.items
    → IfOk result (λ claims. claims ≡ rows) → HaveSmallClaims (resolved_view program)
    → IfOk result (AreClaims (resolved_view program))
IfOk-exact program n rows (Ok table) width found same small =
    exact_claims (resolved_view program) table small (found_claims program n rows table width found same)
IfOk-exact program n rows (Err e) width found same small = same
