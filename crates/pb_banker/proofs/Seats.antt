-- The tables after a slot has other claims and no loans.
use Rattle.std.proofs.Common.{◌≡◌, ℕ, suc, ◌+◌, ◌-◌, ◌<◌, ◌≤◌, List, [], ◌∷◌, ◌++◌, length, get_or, set, take, drop, map, arith}
use Rattle.std.proofs.Common.{sym, ap, subst, ◌∙◌, inl, inr, replicate}
use Rattle.std.proofs.lemmas.Bool.{cases_eq, cases_lt}
use Rattle.std.proofs.lemmas.List.{ext_get_or, length-set, get_or-set_same, get_or-set_other, take-set, drop-set-lt}
use Rattle.std.proofs.lemmas.List.{get_or-map, length-replicate, take-replicate}
use Rattle.pb_base.specs.Banker.{BankerState, row_of, processes, resources, cash, Finishes, IsSafe, IsLeastFirst}
use Rattle.pb_base.specs.Banker.{IsWellFormed, without_loans}
use Rattle.pb_banker.specs.declared.accounts.Accounts.{Accounts}
use Rattle.pb_banker.specs.Accounts.{state_of, corner, IsSound}
use Rattle.pb_banker.specs.Askers.{others_than}
use Rattle.pb_banker.specs.Jobs.{put_row, joined, left, MayJoin}
use Rattle.pb_banker.proofs.KeptOrders.{Finishes-without_loans}
use Rattle.pb_banker.proofs.TableCorners.{row_of-corner, length-corner}
use Rattle.pb_banker.proofs.TableCells.{processes_of, resources_of}
use Rattle.pb_banker.proofs.Newcomers.{length-put_row, row-put_row_same, row-put_row_other, cash-joined, IsWellFormed-joined, zeros_at}
use Rattle.pb_banker.proofs.Newcomers.{many_joined, last_finishes, kept_finishes}

abbrev pub seated : Accounts → ℕ → ℕ → List ℕ → List ℕ → Accounts
seated a n p row none = record a { processes = n; claims = set a.claims p row; loans = set a.loans p none }

corner-put : (n k m : ℕ) (table : List (List ℕ)) (p : ℕ) (row : List ℕ) → p ≤ k → k ≤ length table → p < length table
    → n ≡ p + suc (k - suc p) → corner n m (set table p row) ≡ put_row (corner k m table) p (take m row)
corner-put n k m table p row pk few inside is =
    let lk : length (corner k m table) ≡ k = length-corner k m table few in
    let ls : length (set table p row) ≡ length table = length-set table p row in
    let ln : length (corner n m (set table p row)) ≡ n = length-corner n m (set table p row) (omega (arith, ls, pk, few, inside, is)) in
    let pin : p ≤ length (corner k m table) = omega (arith, lk, pk) in
    let lp : length (put_row (corner k m table) p (take m row)) ≡ p + suc (length (corner k m table) - suc p) =
    length-put_row (corner k m table) p (take m row) pin in
    ext_get_or [] (corner n m (set table p row)) (put_row (corner k m table) p (take m row))
    (ln ∙ is ∙ ap (λ (j : ℕ). p + suc (j - suc p)) (sym lk) ∙ sym lp)
    (λ q l.
    let lq : q < n = omega (arith, l, ln) in
    let cut : row_of (corner n m (set table p row)) q ≡ take m (row_of (set table p row) q) =
    row_of-corner n m (set table p row) q lq (omega (arith, ls, pk, few, inside, is)) in
    elim (cases_eq q p) [
      | inl e ↦
          (let a : row_of (set table p row) q ≡ row = ap (row_of (set table p row)) e ∙ get_or-set_same table p row [] inside in
          cut ∙ ap (take m) a ∙ sym (row-put_row_same (corner k m table) p (take m row) pin)
          ∙ ap (row_of (put_row (corner k m table) p (take m row))) (sym e))
      | inr ne ↦
          (let lqk : q < k = omega (arith, lq, is, pk, ne) in
          let a : row_of (set table p row) q ≡ row_of table q = get_or-set_other table p q row [] ne in
          cut ∙ ap (take m) a ∙ sym (row_of-corner k m table q lqk few)
          ∙ sym (row-put_row_other (corner k m table) p q (take m row) pin ne))
    ])

module _ (a : Accounts) (h : IsSound a) (n p : ℕ) (claims row none : List ℕ) (may : MayJoin (state_of a) p claims)
    (is : n ≡ p + 1 + (a.processes - (p + 1))) (long : 64 ≤ length a.claims) (long' : 64 ≤ length a.loans)
    (cut : take (length claims) row ≡ claims) (zero : take a.resources none ≡ replicate {A = ℕ} a.resources 0) where
  slot : p ≤ a.processes
  slot = (let e = processes_of a h in let s = may.slot in omega (arith, e, s))

  is' : n ≡ p + suc (a.processes - suc p)
  is' = (let e = is in omega (arith, e))

  in_claims : p < length a.claims
  in_claims = (let e = may.room in let l = long in omega (arith, e, l))

  in_loans : p < length a.loans
  in_loans = (let e = may.room in let l = long' in omega (arith, e, l))

  claims_put : corner n a.resources (set a.claims p row) ≡ put_row (corner a.processes a.resources a.claims) p claims
  claims_put =
      corner-put n a.processes a.resources a.claims p row slot h.claims_length in_claims is'
      ∙ ap (put_row (corner a.processes a.resources a.claims) p)
      (ap (λ (m : ℕ). take m row) (sym (resources_of a h) ∙ sym may.width) ∙ cut)

  loans_put : corner n a.resources (set a.loans p none)
      ≡ put_row (corner a.processes a.resources a.loans) p (replicate {A = ℕ} (resources (state_of a)) 0)
  loans_put =
      corner-put n a.processes a.resources a.loans p none slot h.loans_length in_loans is'
      ∙ ap (put_row (corner a.processes a.resources a.loans) p)
      (zero ∙ ap (λ (m : ℕ). replicate {A = ℕ} m 0) (sym (resources_of a h)))

  pub state_of-seated : state_of (seated a n p row none) ≡ joined (state_of a) p claims
  state_of-seated =
      ap (λ (t : List (List ℕ)). record (state_of a) { claims = t; loans = corner n a.resources (set a.loans p none) }) claims_put
      ∙ ap (λ (t : List (List ℕ)). record (state_of a) { claims = put_row (corner a.processes a.resources a.claims) p claims; loans = t }) loans_put

  pub IsSound-seated : IsSound (seated a n p row none)
  IsSound-seated =
      let room = may.room in
      let few = h.few in
      let e = is in
      let l = long in
      let l' = long' in
      let lc : length (set a.claims p row) ≡ length a.claims = length-set a.claims p row in
      let ll : length (set a.loans p none) ≡ length a.loans = length-set a.loans p none in
      record {
        capital_width = h.capital_width;
        claims_length = omega (arith, room, few, e, l, lc);
        loans_length = omega (arith, room, few, e, l', ll);
        few = omega (arith, room, few, e);
        well_formed = subst IsWellFormed (sym state_of-seated) (IsWellFormed-joined (state_of a) h.well_formed p claims may);
        cash = λ r lr.
            let k : r < resources (state_of a) = (let f = resources_of a h in omega (arith, f, lr)) in
            h.cash r lr
            ∙ sym (cash-joined (state_of a) h.well_formed p claims may r k)
            ∙ ap (λ (s : BankerState). cash s r) (sym state_of-seated);
      }

-- a search of a safe state finds everybody
pub found_least : (a : Accounts) → IsSafe (state_of a) → (n : ℕ) (order : List ℕ) → n ≤ a.processes
    → (n ≡ a.processes → IsLeastFirst (state_of a) (take n order)) → (n < a.processes → ¬ IsSafe (state_of a))
    → IsLeastFirst (state_of a) (take a.processes order)
found_least a safe n order few found short =
    elim (cases_lt n a.processes) [
      | inl l ↦ absurd (short l safe)
      | inr l ↦
          (let e : n ≡ a.processes = omega (arith, l, few) in
          subst (λ (k : ℕ). IsLeastFirst (state_of a) (take k order)) e (found e))
    ]

-- a newcomer who comes last
pub finishes_seated : (a b : Accounts) (p : ℕ) (claims order next : List ℕ) → IsSound a → IsSound b
    → Finishes (state_of a) (take a.processes order) → MayJoin (state_of a) p claims → state_of b ≡ joined (state_of a) p claims
    → take (p + 1 + (a.processes - (p + 1))) next ≡ others_than p (take a.processes order) ++ p ∷ []
    → Finishes (state_of b) (take b.processes next)
finishes_seated a b p claims order next h g f may is last =
    let many : b.processes ≡ p + 1 + (a.processes - (p + 1)) =
    (let e = processes_of a h in
    let d = processes_of b g in
    let n : processes (state_of b) ≡ processes (joined (state_of a) p claims) = ap processes is in
    let m = many_joined (state_of a) h.well_formed p claims may in
    omega (arith, e, d, n, m)) in
    subst (λ (s : BankerState). Finishes s (take b.processes next)) (sym is)
    (subst (λ (xs : List ℕ). Finishes (joined (state_of a) p claims) xs)
    (sym (ap (λ (m : ℕ). take m next) many ∙ last))
    (last_finishes (state_of a) h.well_formed p claims may (take a.processes order) f))

-- ---- leaving

put_row-set : (table : List (List ℕ)) (p : ℕ) (old row : List ℕ) → put_row (set table p old) p row ≡ put_row table p row
put_row-set table p old row =
    ap (λ (t : List (List ℕ)). t ++ row ∷ drop (suc p) (set table p old)) (take-set table p old)
    ∙ ap (λ (t : List (List ℕ)). take p table ++ row ∷ t) (drop-set-lt (suc p) table p old (omega arith))

pub joined-emptied : (s : BankerState) (p : ℕ) (claims : List ℕ) → joined (without_loans s p) p claims ≡ joined s p claims
joined-emptied s p claims =
    let row : List ℕ = map {A = ℕ} {B = ℕ} (λ _. 0) (row_of s.loans p) in
    let none : List ℕ = replicate {A = ℕ} (resources s) 0 in
    let e : put_row (set s.loans p (map {A = ℕ} {B = ℕ} (λ _. 0) (row_of s.loans p))) p (replicate {A = ℕ} (resources s) 0)
    ≡ put_row s.loans p (replicate {A = ℕ} (resources s) 0) =
    put_row-set s.loans p (map {A = ℕ} {B = ℕ} (λ _. 0) (row_of s.loans p)) (replicate {A = ℕ} (resources s) 0) in
    ap (λ (t : List (List ℕ)). record s { claims = put_row s.claims p claims; loans = t }) e

-- who holds nothing may leave
pub may_leave : (s : BankerState) (p : ℕ) (claims : List ℕ) → IsWellFormed s → p < processes s → claims ≡ replicate {A = ℕ} (resources s) 0
    → MayJoin (without_loans s p) p claims
may_leave s p claims good l is =
    let lp : p < length s.loans = (let e = good.all_loans in omega (arith, e, l)) in
    let few = good.few_processes in
    record {
      slot = omega (arith, l);
      room = omega (arith, l, few);
      width = ap (λ (c : List ℕ). length c) is ∙ length-replicate {A = ℕ} (resources s) 0;
      fits = λ r lr.
          (let e : get_or claims r 0 ≡ 0 = ap (λ (c : List ℕ). get_or c r 0) is ∙ zeros_at (resources s) r in
          omega (arith, e));
      nothing = λ r lr.
          (let w : length (row_of s.loans p) ≡ resources s = good.loan_width p l in
          ap (λ (t : List ℕ). get_or t r 0) (get_or-set_same s.loans p (map {A = ℕ} {B = ℕ} (λ _. 0) (row_of s.loans p)) [] lp)
          ∙ get_or-map (λ _. 0) (row_of s.loans p) r 0 0 (omega (arith, w, lr)));
    }

-- claims of nothing
no_claims : (a b : Accounts) (p : ℕ) → IsSound b → state_of b ≡ without_loans (state_of a) p
    → take b.resources (replicate {A = ℕ} 16 0) ≡ replicate {A = ℕ} (resources (state_of a)) 0
no_claims a b p g back =
    let er : b.resources ≡ resources (state_of a) = sym (resources_of b g) ∙ ap (λ (s : BankerState). resources s) back in
    let narrow : b.resources ≤ 16 = (let e = resources_of b g in let f = g.well_formed.few_resources in omega (arith, e, f)) in
    take-replicate {X = ℕ} b.resources 16 0 narrow ∙ ap (λ (m : ℕ). replicate {A = ℕ} m 0) er

-- the tables after all is taken back, and then the claims
pub left_is : (a b x : Accounts) → IsSound b → (p : ℕ) → state_of b ≡ without_loans (state_of a) p
    → state_of x ≡ joined (state_of b) p (take b.resources (replicate {A = ℕ} 16 0)) → state_of x ≡ left (state_of a) p
left_is a b x g p back is =
    is
    ∙ ap (λ (claims : List ℕ). joined (state_of b) p claims) (no_claims a b p g back)
    ∙ ap (λ (s : BankerState). joined s p (replicate {A = ℕ} (resources (state_of a)) 0)) back
    ∙ joined-emptied (state_of a) p (replicate {A = ℕ} (resources (state_of a)) 0)

-- who leaves stays where he is in the order
pub left_finishes : (a b x : Accounts) → IsSound a → IsSound b → IsSound x → (p : ℕ) (order : List ℕ) → p < a.processes
    → Finishes (state_of a) (take a.processes order) → state_of b ≡ without_loans (state_of a) p
    → state_of x ≡ joined (state_of b) p (take b.resources (replicate {A = ℕ} 16 0)) → Finishes (state_of x) (take x.processes order)
left_finishes a b x h g j p order l f back is =
    let n = processes_of a h in
    let lp : p < processes (state_of a) = omega (arith, n, l) in
    let claims : List ℕ = take b.resources (replicate {A = ℕ} 16 0) in
    let may : MayJoin (without_loans (state_of a) p) p (take b.resources (replicate {A = ℕ} 16 0)) =
    may_leave (state_of a) p (take b.resources (replicate {A = ℕ} 16 0)) h.well_formed lp (no_claims a b p g back) in
    let good : IsWellFormed (without_loans (state_of a) p) = subst IsWellFormed back g.well_formed in
    let state : state_of x ≡ joined (without_loans (state_of a) p) p (take b.resources (replicate {A = ℕ} 16 0)) =
    is ∙ ap (λ (s : BankerState). joined s p (take b.resources (replicate {A = ℕ} 16 0))) back in
    let many : x.processes ≡ a.processes =
    (let d = processes_of x j in
    let e : processes (state_of x) ≡ processes (joined (without_loans (state_of a) p) p (take b.resources (replicate {A = ℕ} 16 0))) = ap processes state in
    let m = many_joined (without_loans (state_of a) p) good p (take b.resources (replicate {A = ℕ} 16 0)) may in
    omega (arith, n, l, d, e, m)) in
    let zeros : (r : ℕ) → r < resources (state_of a) → get_or (take b.resources (replicate {A = ℕ} 16 0)) r 0 ≡ 0 =
    λ r lr. ap (λ (c : List ℕ). get_or c r 0) (no_claims a b p g back) ∙ zeros_at (resources (state_of a)) r in
    subst (λ (s : BankerState). Finishes s (take x.processes order)) (sym state)
    (subst (λ (m : ℕ). Finishes (joined (without_loans (state_of a) p) p (take b.resources (replicate {A = ℕ} 16 0))) (take m order)) (sym many)
    (kept_finishes (without_loans (state_of a) p) good p (take b.resources (replicate {A = ℕ} 16 0)) may zeros lp (take a.processes order)
    (Finishes-without_loans (state_of a) p (take a.processes order) h.well_formed lp f)))
