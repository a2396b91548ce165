-- The entries of a list, told one after another.
use Rattle.std.proofs.Common.{◌≡◌, ◌+◌, ◌<◌, ◌≤◌, ◌++◌, ℕ, List, [], ◌∷◌, length, take, drop, get_or, refl, sym, ap, ◌∙◌, subst}
use Rattle.std.proofs.Common.{append_assoc, append-nil}
use Rattle.std.specs.Prelude.{Bool, true, false, cond}
use Rattle.std.proofs.lemmas.List.{get_or_default, take-append-drop, take_all, take_more}
use Rattle.pb_search_engine.specs.ItemObjects.{comma_unless, entries, still_first}
use Rattle.pb_voice.specs.Held.{At, Held}
use Rattle.pb_voice.specs.Voices.{Adds, Breaks}
use Rattle.pb_voice.proofs.VoiceLemmas.{adds_more, breaks_later, breaks_sooner}

module _ {X : Type 0} (is : X → Bool) (say : X → List ℕ) where
  -- those of some elements, and then of others
  pub entries_then : (first : Bool) (xs ys : List X)
      → entries is say first (xs ++ ys) ≡ entries is say first xs ++ entries is say (still_first is first xs) ys
  entries_then first [] ys = refl
  entries_then first (x ∷ xs) ys = go (is x) (entries_then false xs ys) (entries_then first xs ys)
    where
      go : (b : Bool) → entries is say false (xs ++ ys) ≡ entries is say false xs ++ entries is say (still_first is false xs) ys
          → entries is say first (xs ++ ys) ≡ entries is say first xs ++ entries is say (still_first is first xs) ys
          → cond b (comma_unless first ++ (say x ++ entries is say false (xs ++ ys))) (entries is say first (xs ++ ys))
          ≡ cond b (comma_unless first ++ (say x ++ entries is say false xs)) (entries is say first xs)
          ++ entries is say (cond b (still_first is false xs) (still_first is first xs)) ys
      go true told untold =
          let rest = entries is say (still_first is false xs) ys in
          ap (λ (l : List ℕ). comma_unless first ++ (say x ++ l)) told
          ∙ (ap (λ (l : List ℕ). comma_unless first ++ l) (sym (append_assoc (say x) (entries is say false xs) rest))
          ∙ sym (append_assoc (comma_unless first) (say x ++ entries is say false xs) rest))
      go false told untold = untold

  pub still_then : (first : Bool) (xs ys : List X)
      → still_first is first (xs ++ ys) ≡ still_first is (still_first is first xs) ys
  still_then first [] ys = refl
  still_then first (x ∷ xs) ys = go (is x) (still_then false xs ys) (still_then first xs ys)
    where
      go : (b : Bool) → still_first is false (xs ++ ys) ≡ still_first is (still_first is false xs) ys
          → still_first is first (xs ++ ys) ≡ still_first is (still_first is first xs) ys
          → cond b (still_first is false (xs ++ ys)) (still_first is first (xs ++ ys))
          ≡ still_first is (cond b (still_first is false xs) (still_first is first xs)) ys
      go true told untold = told
      go false told untold = untold

  -- an entry alone, of an element that the list is of; and of one that it is not
  pub one_entry : (first : Bool) (x : X) → is x ≡ true → entries is say first (x ∷ []) ≡ comma_unless first ++ say x
  one_entry first x on =
      ap (λ (b : Bool). cond b (comma_unless first ++ (say x ++ [])) []) on ∙ ap (λ (l : List ℕ). comma_unless first ++ l) (append-nil (say x))

  pub one_still : (first : Bool) (x : X) → is x ≡ true → false ≡ still_first is first (x ∷ [])
  one_still first x on = sym (ap (λ (b : Bool). cond b false first) on)

  pub no_entry : (first : Bool) (x : X) → is x ≡ false → entries is say first (x ∷ []) ≡ []
  no_entry first x off = ap (λ (b : Bool). cond b (comma_unless first ++ (say x ++ [])) []) off

  pub no_still : (first : Bool) (x : X) → is x ≡ false → first ≡ still_first is first (x ∷ [])
  no_still first x off = sym (ap (λ (b : Bool). cond b false first) off)

  -- the entry of one element more, which is read
  module _ (xs : List X) (i : ℕ) (d : X) (within : i < length xs) (now : Bool) (so_far : now ≡ still_first is true (take i xs)) where
    more : take i xs ++ get_or xs i d ∷ [] ≡ take (i + 1) xs
    more =
        let x = get_or xs i d in
        sym (take_more xs i x within ∙ ap (λ (y : X). take i xs ++ y ∷ []) (get_or_default xs i x d within))

    pub still_more : (next : Bool) → next ≡ still_first is now (get_or xs i d ∷ []) → next ≡ still_first is true (take (i + 1) xs)
    still_more next step =
        step ∙ (ap (λ (b : Bool). still_first is b (get_or xs i d ∷ [])) so_far
        ∙ (sym (still_then true (take i xs) (get_or xs i d ∷ [])) ∙ ap (still_first is true) more))

    one_further : entries is say true (take i xs) ++ entries is say now (get_or xs i d ∷ []) ≡ entries is say true (take (i + 1) xs)
    one_further =
        ap (λ (b : Bool). entries is say true (take i xs) ++ entries is say b (get_or xs i d ∷ [])) so_far
        ∙ (sym (entries_then true (take i xs) (get_or xs i d ∷ [])) ∙ ap (entries is say true) more)

    module _ (a b c : At Held) (first : Adds a (entries is say true (take i xs)) b) where
      pub entry_added : Adds b (entries is say now (get_or xs i d ∷ [])) c → Adds a (entries is say true (take (i + 1) xs)) c
      entry_added step =
          subst (λ (l : List ℕ). Adds a l c) one_further
          (adds_more a b c (entries is say true (take i xs)) (entries is say now (get_or xs i d ∷ [])) first step)

      -- a write failed at it, and there would have been more
      pub entry_broken : Breaks b (entries is say now (get_or xs i d ∷ [])) c → Breaks a (entries is say true xs) c
      entry_broken fails =
          let here : Breaks a (entries is say true (take (i + 1) xs)) c =
          subst (λ (l : List ℕ). Breaks a l c) one_further
          (breaks_later a b c (entries is say true (take i xs)) (entries is say now (get_or xs i d ∷ [])) first fails) in
          subst (λ (l : List ℕ). Breaks a l c)
          (sym (entries_then true (take (i + 1) xs) (drop (i + 1) xs)) ∙ ap (entries is say true) (take-append-drop (i + 1) xs))
          (breaks_sooner a c (entries is say true (take (i + 1) xs))
          (entries is say (still_first is true (take (i + 1) xs)) (drop (i + 1) xs)) here)

  -- those of all elements
  pub entries_added : (xs : List X) (i : ℕ) (a b : At Held) → length xs ≤ i → Adds a (entries is say true (take i xs)) b
      → Adds a (entries is say true xs) b
  entries_added xs i a b end added = subst (λ (l : List ℕ). Adds a l b) (ap (entries is say true) (take_all i xs end)) added
