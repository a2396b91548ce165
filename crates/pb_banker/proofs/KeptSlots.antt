-- What a bank keeps, when jobs come and go.
use Rattle.std.proofs.Common.{◌≡◌, ℕ, zero, suc, ◌+◌, ◌-◌, ◌<◌, ◌≤◌, Bool, true, false, List, [], length, get_or, set, take, arith}
use Rattle.std.proofs.Common.{sym, ap, ◌∙◌, refl, inl, inr, replicate}
use Rattle.std.proofs.lemmas.Bool.{cases_eq, cases_lt}
use Rattle.std.proofs.lemmas.List.{length-set, get_or-set_same, get_or-set_other, get_or_past, get_or-replicate, length-replicate}
use Rattle.pb_base.specs.Banker.{BankerState, claim, loan, row_of, processes, resources, Finishes}
use Rattle.pb_base.specs.declared.pair.Pair.{Pair}
use Rattle.pb_banker.specs.declared.accounts.Accounts.{Accounts}
use Rattle.pb_banker.specs.declared.answer.Answer.{Answer}
use Rattle.pb_banker.specs.declared.answer.Answer.TheVariants.{Granted, NotNow, OverClaim}
use Rattle.pb_banker.specs.Asking.{state_after}
use Rattle.pb_banker.specs.Accounts.{state_of, IsSound}
use Rattle.pb_banker.specs.Jobs.{joined, left, MayJoin, IsWithinCapital, IsFirstFree, IsUsed, IsKept}
use Rattle.pb_banker.proofs.TableCells.{processes_of, resources_of}
use Rattle.pb_banker.proofs.Newcomers.{many_joined, claim-joined_other, length-put_row, row-put_row_same, row-put_row_other, zeros_at}

-- the first free slot is at most the one after the last row
slot_of : (a : Accounts) (order : List ℕ) (used : List Bool) → IsKept a order used → (p : ℕ) → IsFirstFree used p → p ≤ a.processes
slot_of a order used k zero free = omega arith
slot_of a order used k (suc p) free = (let l = k.rows p (free.first p (omega arith)) in omega (arith, l))

nothing_at : (a : Accounts) (order : List ℕ) (used : List Bool) → IsKept a order used → (p : ℕ) → IsFirstFree used p
    → (r : ℕ) → r < resources (state_of a) → loan (state_of a) p r ≡ 0
nothing_at a order used k p free r lr =
    let n = processes_of a k.sound in
    let m = resources_of a k.sound in
    elim (cases_lt p a.processes) [
      | inl l ↦
          (let lp : p < processes (state_of a) = omega (arith, n, l) in
          let c = k.free p r l free.free (omega (arith, m, lr)) in
          let f = k.sound.well_formed.loans_fit p r lp lr in
          omega (arith, c, f))
      | inr l ↦
          (let e = k.sound.well_formed.all_loans in
          let past : row_of (state_of a).loans p ≡ [] = get_or_past (state_of a).loans p [] (omega (arith, e, n, l)) in
          ap (λ (row : List ℕ). get_or row r 0) past)
    ]

pub newcomer : (a : Accounts) (order : List ℕ) (used : List Bool) → IsKept a order used → (p : ℕ) (claims : List ℕ)
    → length claims ≡ resources (state_of a) → IsWithinCapital (state_of a) claims → IsFirstFree used p → MayJoin (state_of a) p claims
newcomer a order used k p claims width fits free =
    record {
      slot = (let n = processes_of a k.sound in let s = slot_of a order used k p free in omega (arith, n, s));
      room = free.there;
      width = width;
      fits = fits;
      nothing = nothing_at a order used k p free;
    }

pub kept_joined : (a : Accounts) (order : List ℕ) (used : List Bool) → IsKept a order used → (p : ℕ) (claims : List ℕ)
    → MayJoin (state_of a) p claims
    → (b : Accounts) (next : List ℕ) → IsSound b → state_of b ≡ joined (state_of a) p claims
    → Finishes (state_of b) (take b.processes next) → IsKept b next (set used p true)
kept_joined a order used k p claims may b next sound is finishes =
    let good = k.sound.well_formed in
    let room = may.room in
    let long = k.long in
    let slot = may.slot in
    let n = processes_of a k.sound in
    let n' = processes_of b sound in
    let m : processes (state_of b) ≡ processes (joined (state_of a) p claims) = ap (λ (s : BankerState). processes s) is in
    let many = many_joined (state_of a) good p claims may in
    let mr : resources (state_of b) ≡ resources (state_of a) = ap (λ (s : BankerState). resources s) is in
    let r' = resources_of b sound in
    let r0 = resources_of a k.sound in
    let inside : p < length used = omega (arith, room, long) in
    record {
      sound = sound;
      finishes = finishes;
      long = (let l = length-set used p true in omega (arith, l, long));
      rows = λ q u.
          elim (cases_eq q p) [
            | inl e ↦ omega (arith, e, n', m, many)
            | inr ne ↦
                (let old : get_or used q false ≡ true = sym (get_or-set_other used p q true false ne) ∙ u in
                let l = k.rows q old in
                omega (arith, l, n, n', m, many, slot))
          ];
      free = λ q r lq fresh lr.
          elim (cases_eq q p) [
            | inl e ↦ absurd (fresh (ap (λ (j : ℕ). get_or (set used p true) j false) e ∙ get_or-set_same used p true false inside))
            | inr ne ↦
                (let old : ¬ IsUsed used q = λ u. fresh (get_or-set_other used p q true false ne ∙ u) in
                let c = k.free q r (omega (arith, lq, n, n', m, many, slot, ne)) old (omega (arith, lr, r', r0, mr)) in
                ap (λ (s : BankerState). claim s q r) is ∙ claim-joined_other (state_of a) good p claims may q r ne ∙ c)
          ];
    }

pub kept_left : (a : Accounts) (order : List ℕ) (used : List Bool) → IsKept a order used → (p : ℕ) → p < a.processes
    → (b : Accounts) (next : List ℕ) → IsSound b → state_of b ≡ left (state_of a) p
    → Finishes (state_of b) (take b.processes next) → IsKept b next (set used p false)
kept_left a order used k p slot b next sound is finishes =
    let s : BankerState = state_of a in
    let none : List ℕ = replicate {A = ℕ} (resources (state_of a)) 0 in
    let few = k.sound.few in
    let long = k.long in
    let n = processes_of a k.sound in
    let n' = processes_of b sound in
    let lp : p ≤ length (state_of a).claims = omega (arith, n, slot) in
    let m : processes (state_of b) ≡ processes (left (state_of a) p) = ap (λ (s : BankerState). processes s) is in
    let many : processes (left (state_of a) p) ≡ p + suc (processes (state_of a) - suc p) =
    length-put_row (state_of a).claims p (replicate {A = ℕ} (resources (state_of a)) 0) lp in
    let mr : resources (state_of b) ≡ resources (state_of a) = ap (λ (s : BankerState). resources s) is in
    let r' = resources_of b sound in
    let r0 = resources_of a k.sound in
    let inside : p < length used = omega (arith, few, slot, long) in
    record {
      sound = sound;
      finishes = finishes;
      long = (let l = length-set used p false in omega (arith, l, long));
      rows = λ q u.
          elim (cases_eq q p) [
            | inl e ↦ omega (arith, e, n', m, many)
            | inr ne ↦
                (let old : get_or used q false ≡ true = sym (get_or-set_other used p q false false ne) ∙ u in
                let l = k.rows q old in
                omega (arith, l, n, n', m, many, slot))
          ];
      free = λ q r lq fresh lr.
          elim (cases_eq q p) [
            | inl e ↦
                ap (λ (s : BankerState). claim s q r) is
                ∙ ap (λ (j : ℕ). claim (left (state_of a) p) j r) e
                ∙ ap (λ (row : List ℕ). get_or row r 0)
                (row-put_row_same (state_of a).claims p (replicate {A = ℕ} (resources (state_of a)) 0) lp)
                ∙ zeros_at (resources (state_of a)) r
            | inr ne ↦
                (let old : ¬ IsUsed used q = λ u. fresh (get_or-set_other used p q false false ne ∙ u) in
                let c = k.free q r (omega (arith, lq, n, n', m, many, slot, ne)) old (omega (arith, lr, r', r0, mr)) in
                ap (λ (s : BankerState). claim s q r) is
                ∙ ap (λ (row : List ℕ). get_or row r 0)
                (row-put_row_other (state_of a).claims p q (replicate {A = ℕ} (resources (state_of a)) 0) lp ne)
                ∙ c)
          ];
    }

-- neither the claims nor the number of resources changed
pub kept_same : (a : Accounts) (order : List ℕ) (used : List Bool) → IsKept a order used
    → (b : Accounts) (next : List ℕ) → IsSound b → (state_of b).claims ≡ (state_of a).claims → resources (state_of b) ≡ resources (state_of a)
    → Finishes (state_of b) (take b.processes next) → IsKept b next used
kept_same a order used k b next sound claims mr finishes =
    let n = processes_of a k.sound in
    let n' = processes_of b sound in
    let m : processes (state_of b) ≡ processes (state_of a) = ap (λ (t : List (List ℕ)). length t) claims in
    let r' = resources_of b sound in
    let r0 = resources_of a k.sound in
    record {
      sound = sound;
      finishes = finishes;
      long = k.long;
      rows = λ q u. (let l = k.rows q u in omega (arith, l, n, n', m));
      free = λ q r lq fresh lr.
          ap (λ (t : List (List ℕ)). get_or (get_or t q []) r 0) claims
          ∙ k.free q r (omega (arith, lq, n, n', m)) fresh (omega (arith, lr, r', r0, mr));
    }

-- nothing but loans changed
pub kept_lent : (a : Accounts) (order : List ℕ) (used : List Bool) → IsKept a order used
    → (b : Accounts) (next : List ℕ) → IsSound b → (state_of b).claims ≡ (state_of a).claims → (state_of b).capital ≡ (state_of a).capital
    → Finishes (state_of b) (take b.processes next) → IsKept b next used
kept_lent a order used k b next sound claims money finishes =
    kept_same a order used k b next sound claims (ap (λ (t : List ℕ). length t) money) finishes

-- an answer changes neither the claims nor the capital
pub after_claims : (s : BankerState) (p : ℕ) (pairs : List Pair) (answer : Answer) → (state_after s p pairs answer).claims ≡ s.claims
after_claims s p pairs Granted = refl
after_claims s p pairs NotNow = refl
after_claims s p pairs OverClaim = refl

pub after_capital : (s : BankerState) (p : ℕ) (pairs : List Pair) (answer : Answer) → (state_after s p pairs answer).capital ≡ s.capital
after_capital s p pairs Granted = refl
after_capital s p pairs NotNow = refl
after_capital s p pairs OverClaim = refl

-- at first no slot is used
pub none_used : (p : ℕ) → get_or (replicate {A = Bool} 64 false) p false ≡ false
none_used p =
    elim (cases_lt p 64) [
      | inl l ↦ get_or-replicate {A = Bool} 64 p false false l
      | inr l ↦ get_or_past (replicate {A = Bool} 64 false) p false (let e = length-replicate {A = Bool} 64 false in omega (arith, e, l))
    ]
