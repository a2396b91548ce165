-- Names of which no two are the same.
use Rattle.std.proofs.Common.{◌≡◌, ◌⊎◌, ℕ, zero, suc, ◌<◌, ◌≤◌, Bool, true, cond, List, [], ◌∷◌, ◌++◌, length, get_or, set}
use Rattle.std.proofs.Common.{Some, None, sym, ap, ◌∙◌, subst, arith, inl, inr}
use Rattle.std.proofs.lemmas.Bool.{cases_eq, cases_lt}
use Rattle.std.proofs.lemmas.List.{get_or_past, get_or_append_left, get_or-set_same, get_or-set_other, length_push}
use Rattle.std.proofs.Math.Seq.{get_or-append_seam}
use Rattle.std.proofs.lemmas.List.Elements.{All-push}
use Rattle.std.proofs.lemmas.Slice.Eq.{bytes_eq-Decides}
use Rattle.std.specs.Str.{bytes_eq}
use Rattle.pb_base.proofs.Cases.{bool_cases}
use Rattle.pb_bank.specs.Desks.{AreApart, AreUsableNames, IsUsableName, place_from, place_of}

found_none : (i : ℕ) → Some i ≡ None → ⊥
found_none i e = cc

absent_from : (names : List (List ℕ)) (word : List ℕ) (i j : ℕ) → place_from i names word ≡ None → 0 < length word
    → get_or names j [] ≡ word → ⊥
absent_from [] word i j none some same =
    let e : length (get_or {A = List ℕ} [] j []) ≡ length word = ap (λ (w : List ℕ). length w) same in
    let z : length (get_or {A = List ℕ} [] j []) ≡ 0 = ap (λ (w : List ℕ). length w) (get_or_past {X = List ℕ} [] j [] (omega arith)) in
    omega (arith, e, z, some)
absent_from (x ∷ xs) word i zero none some same =
    let is : bytes_eq x word ≡ true = (bytes_eq-Decides x word).1 same in
    found_none i (ap (λ (b : Bool). cond b (Some i) (place_from (suc i) xs word)) (sym is) ∙ none)
absent_from (x ∷ xs) word i (suc j) none some same =
    elim (bool_cases (bytes_eq x word)) [
      | inl is ↦ absurd (found_none i (ap (λ (b : Bool). cond b (Some i) (place_from (suc i) xs word)) (sym is) ∙ none))
      | inr isnt ↦
          absent_from xs word (suc i) j (ap (λ (b : Bool). cond b (Some i) (place_from (suc i) xs word)) (sym isnt) ∙ none) some same
    ]

-- a word that has no place is no name
pub absent : (names : List (List ℕ)) (word : List ℕ) → place_of names word ≡ None → 0 < length word → (j : ℕ) → get_or names j [] ≡ word → ⊥
unfolding place_of
absent names word none some j same = absent_from names word 0 j none some same

-- one name is another, which is new
pub apart_set : (names : List (List ℕ)) (p : ℕ) (word : List ℕ) → p < length names → ((j : ℕ) → get_or names j [] ≡ word → ⊥)
    → AreApart names → AreApart (set names p word)
apart_set names p word inside fresh apart =
    λ i j some same.
    let here : get_or (set names p word) p [] ≡ word = get_or-set_same names p word [] inside in
    elim (cases_eq i p) [
      | inl e ↦
          elim (cases_eq j p) [
            | inl f ↦ e ∙ sym f
            | inr ne ↦
                absurd (fresh j
                (sym (get_or-set_other names p j word [] ne)
                ∙ (sym same ∙ (ap (λ (k : ℕ). get_or (set names p word) k []) e ∙ here))))
          ]
      | inr ne ↦
          elim (cases_eq j p) [
            | inl f ↦
                absurd (fresh i
                (sym (get_or-set_other names p i word [] ne) ∙ (same ∙ (ap (λ (k : ℕ). get_or (set names p word) k []) f ∙ here))))
            | inr nf ↦
                (let a = get_or-set_other names p i word [] ne in
                let b = get_or-set_other names p j word [] nf in
                apart i j (subst (λ (w : List ℕ). 0 < length w) a some) (sym a ∙ (same ∙ b)))
          ]
    ]

pub cleared : (names : List (List ℕ)) (p : ℕ) → get_or (set names p []) p [] ≡ []
cleared names p =
    elim (cases_lt p (length names)) [
      | inl l ↦ get_or-set_same names p [] [] l
      | inr l ↦ past names p l
    ]
  where
    past : (names : List (List ℕ)) (p : ℕ) → length names ≤ p → get_or (set names p []) p [] ≡ []
    past [] p l = get_or_past {X = List ℕ} [] p [] (omega arith)
    past (x ∷ xs) zero l = absurd (omega (arith, l))
    past (x ∷ xs) (suc p) l = past xs p (omega (arith, l))

nothing_there : (names : List (List ℕ)) (p k : ℕ) → k ≡ p → 0 < length (get_or (set names p []) k []) → ⊥
nothing_there names p k e some =
    let z : length (get_or (set names p []) k []) ≡ 0 =
    ap (λ (j : ℕ). length (get_or (set names p []) j [])) e ∙ ap (λ (w : List ℕ). length w) (cleared names p) in
    omega (arith, z, some)

-- one name is gone
pub apart_cleared : (names : List (List ℕ)) (p : ℕ) → AreApart names → AreApart (set names p [])
apart_cleared names p apart =
    λ i j some same.
    elim (cases_eq i p) [
      | inl e ↦ absurd (nothing_there names p i e some)
      | inr ne ↦
          elim (cases_eq j p) [
            | inl f ↦ absurd (nothing_there names p j f (subst (λ (w : List ℕ). 0 < length w) same some))
            | inr nf ↦
                (let a = get_or-set_other names p i [] [] ne in
                let b = get_or-set_other names p j [] [] nf in
                apart i j (subst (λ (w : List ℕ). 0 < length w) a some) (sym a ∙ (same ∙ b)))
          ]
    ]

-- a name in a list to which a word is added: it is one of the old names, or the word
which_name : (names : List (List ℕ)) (word : List ℕ) (i : ℕ) → 0 < length (get_or (names ++ word ∷ []) i [])
    → (get_or (names ++ word ∷ []) i [] ≡ get_or names i []) ⊎ ((i ≡ length names) × (get_or (names ++ word ∷ []) i [] ≡ word))
which_name names word i some =
    elim (cases_lt i (length names)) [
      | inl l ↦ inl (get_or_append_left names (word ∷ []) [] i l)
      | inr l ↦
          elim (cases_eq i (length names)) [
            | inl e ↦ inr (e, ap (λ (k : ℕ). get_or (names ++ word ∷ []) k []) e ∙ get_or-append_seam names word [] [])
            | inr ne ↦
                (let n = length_push names word in
                let past : get_or (names ++ word ∷ []) i [] ≡ [] = get_or_past (names ++ word ∷ []) i [] (omega (arith, n, l, ne)) in
                let z : length (get_or (names ++ word ∷ []) i []) ≡ 0 = ap (λ (w : List ℕ). length w) past in
                absurd (omega (arith, z, some)))
          ]
    ]

pub apart_push : (names : List (List ℕ)) (word : List ℕ) → ((j : ℕ) → get_or names j [] ≡ word → ⊥) → AreApart names → AreApart (names ++ word ∷ [])
apart_push names word fresh apart =
    λ i j some same.
    elim (which_name names word i some) [
      | inl a ↦
          elim (which_name names word j (subst (λ (w : List ℕ). 0 < length w) same some)) [
            | inl b ↦ apart i j (subst (λ (w : List ℕ). 0 < length w) a some) (sym a ∙ (same ∙ b))
            | inr (f, b) ↦ absurd (fresh i (sym a ∙ (same ∙ b)))
          ]
      | inr (e, a) ↦
          elim (which_name names word j (subst (λ (w : List ℕ). 0 < length w) same some)) [
            | inl b ↦ absurd (fresh j (sym b ∙ (sym same ∙ a)))
            | inr (f, b) ↦ e ∙ sym f
          ]
    ]

-- one more name of a resource
pub names_pushed : (names : List (List ℕ)) (word : List ℕ) → IsUsableName word → place_of names word ≡ None → AreUsableNames names
    → AreUsableNames (names ++ word ∷ [])
names_pushed names word name none are = record {
  each = All-push IsUsableName names word are.each name;
  apart = apart_push names word (absent names word none name.some) are.apart;
}
