-- The arms of a code as loops over its processes find them.
use Rattle.std.proofs.Common.{◌≡◌, ℕ, zero, suc, ◌+◌, ◌<◌, ◌≤◌, List, [], ◌∷◌, ◌++◌, length, map, drop, get_or, Some, refl, sym, ap, ◌∙◌, arith, append_assoc}
use Rattle.std.specs.Prelude.{slice_get}
use Rattle.std.proofs.lemmas.List.{length-map}
use Rattle.std.proofs.lemmas.List.{append-nil, map-append}
use Rattle.pb_base.specs.declared.pick.Pick.{Pick}
use Rattle.pb_code.specs.Code.{ProcessCode}
use Rattle.pb_code.specs.View.{code_view, process_view}
use Rattle.pb_code.specs.Whole.{Code}
use Rattle.pb_code.specs.declared.code.Code.{Code as GivenCode}
use Rattle.pb_code.specs.declared.code.ProcessCode.{ProcessCode as GivenProcess}
use Rattle.pb_base.proofs.Lists.{some_same, view_read}
use Rattle.pb_draw.specs.Arms.{arms_before, arms_from}
use Rattle.pb_draw.specs.declared.drawing.Lane.{Lane}

-- one arm more
pub arms_push : (before : List Pick) (lanes : List Lane) (lane : Lane) (p n : ℕ) → map (λ (l : Lane). l.pick) lanes ≡ before ++ arms_before p n
    → lane.pick ≡ record { process = p; arm = n } → map (λ (l : Lane). l.pick) (lanes ++ lane ∷ []) ≡ before ++ arms_before p (n + 1)
arms_push before lanes lane p n are is =
    map-append (λ (l : Lane). l.pick) lanes (lane ∷ [])
    ∙ (ap (λ (ps : List Pick). ps ++ lane.pick ∷ []) are
    ∙ (ap (λ (x : Pick). (before ++ arms_before p n) ++ x ∷ []) is
    ∙ ((simp append_assoc) ∙ ap (λ (k : ℕ). before ++ arms_before p k) (let e : suc n ≡ n + 1 = omega arith in e))))

-- the processes from one on
drop_at : (xs : List ProcessCode) (i : ℕ) (x : ProcessCode) → slice_get xs i ≡ Some x → drop i xs ≡ x ∷ drop (suc i) xs
drop_at [] i x h = cc
drop_at (y ∷ xs) zero x h = let e : y ≡ x = cc in cc
drop_at (y ∷ xs) (suc i) x h = drop_at xs i x h

-- one process more
pub arms_step : (all : List Pick) (lanes lanes' : List Lane) (processes : List ProcessCode) (p : ℕ) (code : ProcessCode)
    → map (λ (l : Lane). l.pick) lanes ++ arms_from p (drop p processes) ≡ all → slice_get processes p ≡ Some code
    → map (λ (l : Lane). l.pick) lanes' ≡ map (λ (l : Lane). l.pick) lanes ++ arms_before p (length code.entries)
    → map (λ (l : Lane). l.pick) lanes' ++ arms_from (p + 1) (drop (p + 1) processes) ≡ all
arms_step all lanes lanes' processes p code before there is =
    let e : suc p ≡ p + 1 = omega arith in
    ap (λ (ps : List Pick). ps ++ arms_from (p + 1) (drop (p + 1) processes)) is
    ∙ ((simp append_assoc)
    ∙ (sym (ap (λ (cs : List ProcessCode). map (λ (l : Lane). l.pick) lanes ++ arms_from p cs)
    (drop_at processes p code there ∙ ap (λ (k : ℕ). code ∷ drop k processes) e)) ∙ before))

-- after the last process there is none
pub arms_over : (all : List Pick) (lanes : List Lane) (processes : List ProcessCode) (p : ℕ) → length processes ≤ p
    → map (λ (l : Lane). l.pick) lanes ++ arms_from p (drop p processes) ≡ all → map (λ (l : Lane). l.pick) lanes ≡ all
arms_over all lanes processes p past before =
    sym (append-nil (map (λ (l : Lane). l.pick) lanes))
    ∙ (ap (λ (cs : List ProcessCode). map (λ (l : Lane). l.pick) lanes ++ arms_from p cs) (sym (none processes p past)) ∙ before)
  where
    none : (xs : List ProcessCode) (n : ℕ) → length xs ≤ n → drop n xs ≡ []
    none [] zero le = refl
    none [] (suc n) le = refl
    none (x ∷ xs) zero le = absurd (omega (arith, le))
    none (x ∷ xs) (suc n) le = none xs n (omega (arith, le))

-- ---- code as it is given

-- how many processes it has
pub many_processes : (given : GivenCode) (code : Code) → code_view given ≡ code → length code.processes ≡ length given.processes.items
many_processes given code is = ap (λ (c : Code). length c.processes) (sym is) ∙ length-map given.processes.items process_view

-- how many arms a process has
pub many_arms : (given : GivenCode) (code : Code) (p : ℕ) (process : GivenProcess) (seen : ProcessCode) → code_view given ≡ code
    → p < length given.processes.items → process ≡ get_or given.processes.items p process → slice_get code.processes p ≡ Some seen
    → length seen.entries ≡ length process.entries.items
many_arms given code p process seen is within at there =
    let found : slice_get code.processes p ≡ Some (process_view process) =
    ap (λ (c : Code). slice_get c.processes p) (sym is)
    ∙ view_read process_view given.processes.items given.processes.items p process refl within at in
    ap (λ (c : ProcessCode). length c.entries) (some_same (sym there ∙ found))
