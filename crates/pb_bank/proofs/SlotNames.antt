-- Slots and their names, when jobs come and go.
use Rattle.std.proofs.Common.{◌≡◌, ℕ, zero, suc, ◌<◌, ◌≤◌, Bool, true, false, List, [], length, get_or, set, replicate}
use Rattle.std.proofs.Common.{sym, ap, ◌∙◌, subst, arith, inl, inr}
use Rattle.std.proofs.lemmas.Bool.{cases_eq}
use Rattle.std.proofs.lemmas.List.{length-set, get_or-set_same, get_or-set_other, get_or_past, length-replicate}
use Rattle.pb_base.specs.Banker.{processes, resources}
use Rattle.pb_banker.specs.Claims.{with_claim}
use Rattle.pb_banker.specs.Jobs.{BankValue, HasJob, IsUsed, IsFirstFree, joined, left}
use Rattle.pb_banker.specs.Value.{start_state}
use Rattle.pb_banker.proofs.ChangedClaims.{many-with, claim-with_other}
use Rattle.pb_banker.proofs.KeptSlots.{none_used}
use Rattle.pb_banker.proofs.Newcomers.{length-put_row, row-put_row_same, row-put_row_other, zeros_at}
use Rattle.pb_bank.specs.Desks.{AreSlots, IsUsableName}
use Rattle.pb_bank.proofs.NamesApart.{apart_cleared, apart_set, cleared}

-- a bank with the same slots and claims
pub slots_same : (b c : BankValue) (names : List (List ℕ)) → c.state.claims ≡ b.state.claims → resources c.state ≡ resources b.state
    → c.used ≡ b.used → AreSlots b names → AreSlots c names
slots_same b c names claims money used are =
    let back : (p : ℕ) → HasJob c p → HasJob b p = λ p. subst (λ (u : List Bool). IsUsed u p) used in
    let forth : (p : ℕ) → HasJob b p → HasJob c p = λ p. subst (λ (u : List Bool). IsUsed u p) (sym used) in
    let rows : processes c.state ≡ processes b.state = ap (λ (t : List (List ℕ)). length t) claims in
    record {
      marks = ap (λ (u : List Bool). length u) used ∙ are.marks;
      rows = λ p has. (let l = are.rows p (back p has) in omega (arith, l, rows));
      free = λ p r free. ap (λ (t : List (List ℕ)). get_or (get_or t p []) r 0) claims ∙ are.free p r (λ has. free (forth p has));
      named = λ p has. are.named p (back p has);
      nameless = λ p free. are.nameless p (λ has. free (forth p has));
      apart = are.apart;
      some = λ l. (let h = are.some (omega (arith, l, rows)) in omega (arith, h, money));
    }

-- a bank in which a job claims another amount
pub slots_claimed : (b c : BankValue) (names : List (List ℕ)) (p r amount : ℕ) → c.state ≡ with_claim b.state p r amount → c.used ≡ b.used
    → HasJob b p → AreSlots b names → AreSlots c names
slots_claimed b c names p r amount state used has are =
    let next : BankValue = record { state = with_claim b.state p r amount; used = b.used } in
    let rows = many-with b.state p r amount in
    let are' : AreSlots next names = record {
      marks = are.marks;
      rows = λ q h. (let l = are.rows q h in omega (arith, l, rows));
      free = λ q j free. claim-with_other b.state p r amount q j (λ e. free (subst (λ (k : ℕ). HasJob b k) (sym e) has)) ∙ are.free q j free;
      named = are.named;
      nameless = are.nameless;
      apart = are.apart;
      some = λ l. are.some (omega (arith, l, rows));
    } in
    slots_same next c names
    (ap (λ s. s.claims) state)
    (ap (λ s. resources s) state)
    used
    are'

-- the first free slot is at most the one after the last row
pub first_slot : (b : BankValue) (names : List (List ℕ)) → AreSlots b names → (p : ℕ) → IsFirstFree b.used p → p ≤ processes b.state
first_slot b names are zero free = omega arith
first_slot b names are (suc p) free = (let l = are.rows p (free.first p (omega arith)) in omega (arith, l))

-- a bank that a job has joined
pub slots_joined : (b c : BankValue) (names : List (List ℕ)) (p : ℕ) (row word : List ℕ)
    → c ≡ record { state = joined b.state p row; used = set b.used p true } → IsFirstFree b.used p → length names ≡ 64 → IsUsableName word
    → ((j : ℕ) → get_or names j [] ≡ word → ⊥) → 0 < resources b.state → AreSlots b names → AreSlots c (set names p word)
slots_joined b c names p row word is free many name fresh money are =
    let slot = first_slot b names are p free in
    let rows = length-put_row b.state.claims p row slot in
    let there = free.there in
    let marks = are.marks in
    let inside : p < length b.used = omega (arith, there, marks) in
    let in_names : p < length names = omega (arith, there, many) in
    let used : get_or (set b.used p true) p false ≡ true = get_or-set_same b.used p true false inside in
    let here : get_or (set names p word) p [] ≡ word = get_or-set_same names p word [] in_names in
    subst (λ (e : BankValue). AreSlots e (set names p word)) (sym is) (record {
      marks = length-set b.used p true ∙ are.marks;
      rows = λ q has.
          elim (cases_eq q p) [
            | inl e ↦ omega (arith, e, rows)
            | inr ne ↦
                (let old : get_or b.used q false ≡ true = sym (get_or-set_other b.used p q true false ne) ∙ has in
                let l = are.rows q old in
                omega (arith, l, rows, slot))
          ];
      free = λ q r fresh'.
          elim (cases_eq q p) [
            | inl e ↦ absurd (fresh' (ap (λ (j : ℕ). get_or (set b.used p true) j false) e ∙ used))
            | inr ne ↦
                ap (λ (line : List ℕ). get_or line r 0) (row-put_row_other b.state.claims p q row slot ne)
                ∙ are.free q r (λ u. fresh' (get_or-set_other b.used p q true false ne ∙ u))
          ];
      named = λ q has.
          elim (cases_eq q p) [
            | inl e ↦ subst IsUsableName (sym (ap (λ (j : ℕ). get_or (set names p word) j []) e ∙ here)) name
            | inr ne ↦
                subst IsUsableName (sym (get_or-set_other names p q word [] ne))
                (are.named q (sym (get_or-set_other b.used p q true false ne) ∙ has))
          ];
      nameless = λ q fresh'.
          elim (cases_eq q p) [
            | inl e ↦ absurd (fresh' (ap (λ (j : ℕ). get_or (set b.used p true) j false) e ∙ used))
            | inr ne ↦
                get_or-set_other names p q word [] ne
                ∙ are.nameless q (λ u. fresh' (get_or-set_other b.used p q true false ne ∙ u))
          ];
      apart = apart_set names p word in_names fresh are.apart;
      some = λ l. money;
    })

-- a bank that a job has left
pub slots_left : (b c : BankValue) (names : List (List ℕ)) (p : ℕ) → c ≡ record { state = left b.state p; used = set b.used p false }
    → p < processes b.state → p < 64 → AreSlots b names → AreSlots c (set names p [])
slots_left b c names p is slot few are =
    let none : List ℕ = replicate {A = ℕ} (resources b.state) 0 in
    let low : p ≤ length b.state.claims = omega (arith, slot) in
    let rows = length-put_row b.state.claims p none low in
    let marks = are.marks in
    let inside : p < length b.used = omega (arith, few, marks) in
    let gone : get_or (set b.used p false) p false ≡ false = get_or-set_same b.used p false false inside in
    subst (λ (e : BankValue). AreSlots e (set names p [])) (sym is) (record {
      marks = length-set b.used p false ∙ are.marks;
      rows = λ q has.
          elim (cases_eq q p) [
            | inl e ↦ omega (arith, e, rows)
            | inr ne ↦
                (let old : get_or b.used q false ≡ true = sym (get_or-set_other b.used p q false false ne) ∙ has in
                let l = are.rows q old in
                omega (arith, l, rows, slot))
          ];
      free = λ q r fresh.
          elim (cases_eq q p) [
            | inl e ↦
                ap (λ (j : ℕ). get_or (get_or (left b.state p).claims j []) r 0) e
                ∙ (ap (λ (line : List ℕ). get_or line r 0) (row-put_row_same b.state.claims p none low) ∙ zeros_at (resources b.state) r)
            | inr ne ↦
                ap (λ (line : List ℕ). get_or line r 0) (row-put_row_other b.state.claims p q none low ne)
                ∙ are.free q r (λ u. fresh (get_or-set_other b.used p q false false ne ∙ u))
          ];
      named = λ q has.
          elim (cases_eq q p) [
            | inl e ↦ absurd (both (sym (ap (λ (j : ℕ). get_or (set b.used p false) j false) e ∙ gone) ∙ has))
            | inr ne ↦
                subst IsUsableName (sym (get_or-set_other names p q [] [] ne))
                (are.named q (sym (get_or-set_other b.used p q false false ne) ∙ has))
          ];
      nameless = λ q fresh.
          elim (cases_eq q p) [
            | inl e ↦ ap (λ (j : ℕ). get_or (set names p []) j []) e ∙ cleared names p
            | inr ne ↦
                get_or-set_other names p q [] [] ne
                ∙ are.nameless q (λ u. fresh (get_or-set_other b.used p q false false ne ∙ u))
          ];
      apart = apart_cleared names p are.apart;
      some = λ l. are.some (omega (arith, slot));
    })
  where
    both : false ≡ true → ⊥
    both e = cc

-- a bank without rows has no jobs, so no slot has a name
pub all_nameless : (b : BankValue) (names : List (List ℕ)) → AreSlots b names → processes b.state ≡ 0 → (p : ℕ) → get_or names p [] ≡ []
all_nameless b names are none p = are.nameless p (λ has. (let l = are.rows p has in omega (arith, l, none)))

-- a bank that no job has joined
pub slots_start : (c : BankValue) (capital : List ℕ) (names : List (List ℕ)) → c.state ≡ start_state capital []
    → c.used ≡ replicate {A = Bool} 64 false → ((p : ℕ) → get_or names p [] ≡ []) → AreSlots c names
slots_start c capital names state used empty =
    let none : (p : ℕ) → HasJob c p → ⊥ =
    λ p has. both (sym (ap (λ (u : List Bool). get_or u p false) used ∙ none_used p) ∙ has) in
    let rows : processes c.state ≡ 0 = ap (λ s. processes s) state in
    record {
      marks = ap (λ (u : List Bool). length u) used ∙ length-replicate {A = Bool} 64 false;
      rows = λ p has. absurd (none p has);
      free = λ p r free.
          ap (λ s. get_or (get_or s.claims p []) r 0) state
          ∙ (ap (λ (line : List ℕ). get_or line r 0) (get_or_past {X = List ℕ} [] p [] (omega arith)) ∙ get_or_past {X = ℕ} [] r 0 (omega arith));
      named = λ p has. absurd (none p has);
      nameless = λ p free. empty p;
      apart = λ p q some same.
          (let z : length (get_or names p []) ≡ 0 = ap (λ (w : List ℕ). length w) (empty p) in absurd (omega (arith, z, some)));
      some = λ l. absurd (omega (arith, l, rows));
    }
  where
    both : false ≡ true → ⊥
    both e = cc
