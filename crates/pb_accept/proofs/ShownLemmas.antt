-- What is said of an event, piece by piece.
use Rattle.std.proofs.Common.{◌≡◌, ◌⊎◌, ◌+◌, ◌<◌, ◌≤◌, ◌++◌, inl, inr, ℕ, zero, suc, List, [], ◌∷◌, length, map, get_or, Some, refl, sym, ap, ◌∙◌, subst, arith}
use Rattle.std.proofs.Common.{append_assoc, append-nil}
use Rattle.std.specs.List.{concat}
use Rattle.std.specs.Prelude.{slice_get}
use Rattle.std.proofs.lemmas.Bool.{cases_order}
use Rattle.std.proofs.lemmas.List.{get_or-map, get_or_past, length-map}
use Rattle.std.proofs.lemmas.Option.{get_or_from_slice_get, slice_get_within}
use Rattle.pb_accept.specs.EventObjects.{pair_at, pair_json}
use Rattle.pb_base.specs.Lines.{NameTable, each_below, line}
use Rattle.pb_base.specs.declared.pair.Pair.{Pair}
use Rattle.pb_json.specs.Values.{comma}
use Rattle.pb_voice.specs.Held.{At, Held}
use Rattle.pb_voice.specs.Voices.{Adds, Breaks}
use Rattle.pb_voice.proofs.VoiceLemmas.{adds_more, breaks_later, breaks_sooner}

-- ---- names

module _ {V : Type 0} (seen : V → List ℕ) (names : List V) (i : ℕ) where
  pub name_read : (v : V) → i < length names → v ≡ get_or names i v → seen v ≡ get_or (map seen names) i []
  name_read v within at = sym (get_or-map seen names i v [] within ∙ ap seen (sym at))

  pub name_past : length names ≤ i → [] ≡ get_or (map seen names) i []
  name_past past = let n = length-map names seen in sym (get_or_past (map seen names) i [] (omega (arith, past, n)))

-- ---- three things that are said one after another

module _ (a b c d : At Held) (x y z whole : List ℕ) (is : whole ≡ x ++ (y ++ z)) where
  pub first_breaks : Breaks a x b → Breaks a whole b
  first_breaks fails = subst (λ (l : List ℕ). Breaks a l b) (sym is) (breaks_sooner a b x (y ++ z) fails)

  pub second_breaks : Adds a x b → Breaks b y c → Breaks a whole c
  second_breaks first fails =
      subst (λ (l : List ℕ). Breaks a l c) (sym is) (breaks_later a b c x (y ++ z) first (breaks_sooner b c y z fails))

  pub third_breaks : Adds a x b → Adds b y c → Breaks c z d → Breaks a whole d
  third_breaks first second fails =
      subst (λ (l : List ℕ). Breaks a l d) (sym is) (breaks_later a b d x (y ++ z) first (breaks_later b c d y z second fails))

  pub three_added : Adds a x b → Adds b y c → Adds c z d → Adds a whole d
  three_added first second third =
      subst (λ (l : List ℕ). Adds a l d) (sym is) (adds_more a b d x (y ++ z) first (adds_more b c d y z second third))

-- a text after others
abbrev pub all_then : List (List ℕ) → List ℕ → List ℕ
all_then [] rest = rest
all_then (x ∷ xs) rest = x ++ all_then xs rest

pub behind_all : (xs : List (List ℕ)) (rest : List ℕ) → concat xs ++ rest ≡ all_then xs rest
behind_all [] rest = refl
behind_all (x ∷ xs) rest = append_assoc x (concat xs) rest ∙ ap (λ (l : List ℕ). x ++ l) (behind_all xs rest)

-- the line of a bundle
pub bundle_line : (name arm word pairs : List ℕ)
    → line ((((name ++ 46 ∷ []) ++ arm) ++ word) ++ pairs) ≡ concat (name ∷ (46 ∷ []) ∷ arm ∷ word ∷ []) ++ (pairs ++ 10 ∷ [])
bundle_line name arm word pairs =
    append_assoc (((name ++ 46 ∷ []) ++ arm) ++ word) pairs (10 ∷ [])
    ∙ (append_assoc ((name ++ 46 ∷ []) ++ arm) word (pairs ++ 10 ∷ [])
    ∙ (append_assoc (name ++ 46 ∷ []) arm (word ++ (pairs ++ 10 ∷ []))
    ∙ (append_assoc name (46 ∷ []) (arm ++ (word ++ (pairs ++ 10 ∷ [])))
    ∙ sym (behind_all (name ∷ (46 ∷ []) ∷ arm ∷ word ∷ []) (pairs ++ 10 ∷ [])))))

-- the brackets round a list
pub in_brackets : (parts : List (List ℕ)) (inside : List ℕ)
    → all_then parts ((inside ++ 93 ∷ []) ++ (125 ∷ 10 ∷ [])) ≡ concat parts ++ (inside ++ (93 ∷ 125 ∷ 10 ∷ []))
in_brackets parts inside =
    ap (all_then parts) (append_assoc inside (93 ∷ []) (125 ∷ 10 ∷ [])) ∙ sym (behind_all parts (inside ++ (93 ∷ 125 ∷ 10 ∷ [])))

-- ---- the amounts of a bundle

pub is_here : (pairs : List Pair) (i : ℕ) (pair : Pair) → slice_get pairs i ≡ Some pair → get_or pairs i pair ≡ pair
is_here pairs i pair there = get_or_from_slice_get pairs i pair pair there

pub within : (pairs : List Pair) (i : ℕ) (pair : Pair) → slice_get pairs i ≡ Some pair → i < length pairs
within pairs i pair there = slice_get_within pairs i pair there

-- what is said of more numbers begins with what is said of the first
below_more : (f : ℕ → List ℕ) (n m : ℕ) → n ≤ m → (rest : List ℕ) × (each_below f m ≡ each_below f n ++ rest)
below_more f n zero le =
    let same : n ≡ 0 = omega (arith, le) in ([], ap (each_below f) (sym same) ∙ sym (append-nil (each_below f n)))
below_more f n (suc k) le = go (cases_order n (suc k)) (below_more f n k)
  where
    go : (n ≡ suc k) ⊎ ((n < suc k) ⊎ (suc k < n)) → (n ≤ k → (rest : List ℕ) × (each_below f k ≡ each_below f n ++ rest))
        → (rest : List ℕ) × (each_below f (suc k) ≡ each_below f n ++ rest)
    go (inl same) later = ([], ap (each_below f) (sym same) ∙ sym (append-nil (each_below f n)))
    go (inr (inl less)) later =
        let (rest, so) = later (omega (arith, less)) in
        (rest ++ f k, ap (λ (l : List ℕ). l ++ f k) so ∙ append_assoc (each_below f n) rest (f k))
    go (inr (inr more)) later = absurd (omega (arith, more, le))

module _ (names : NameTable) (pairs : List Pair) (i : ℕ) (pair : Pair) (there : slice_get pairs i ≡ Some pair) (a b c : At Held)
    (first : Adds a (each_below (λ k. comma k ++ pair_at names pairs k) i) b) where
  abbrev item : ℕ → List ℕ
  item k = comma k ++ pair_at names pairs k

  here : comma i ++ pair_json names pair ≡ item i
  here = ap (λ (p : Pair). comma i ++ pair_json names p) (sym (get_or_from_slice_get pairs i pair (record { resource = 0; amount = 0 }) there))

  pub amount_added : Adds b (comma i ++ pair_json names pair) c → Adds a (each_below item (i + 1)) c
  amount_added step =
      let next : suc i ≡ i + 1 = omega arith in
      subst (λ (n : ℕ). Adds a (each_below item n) c) next
      (adds_more a b c (each_below item i) (item i) first (subst (λ (l : List ℕ). Adds b l c) here step))

  -- a write failed at the next, and there would have been more
  pub amount_breaks : Breaks b (comma i ++ pair_json names pair) c → Breaks a (each_below item (length pairs)) c
  amount_breaks fails =
      let less = slice_get_within pairs i pair there in
      let (rest, so) = below_more item (suc i) (length pairs) (omega (arith, less)) in
      let here_breaks : Breaks a (each_below item (suc i)) c =
      breaks_later a b c (each_below item i) (item i) first (subst (λ (l : List ℕ). Breaks b l c) here fails) in
      subst (λ (l : List ℕ). Breaks a l c) (sym so)
      (breaks_sooner a c (each_below item (suc i)) rest here_breaks)

-- all are said
pub amounts_added : (f : ℕ → List ℕ) (i n : ℕ) (a b : At Held) → i ≡ n → Adds a (each_below f i) b → Adds a (each_below f n) b
amounts_added f i n a b same added = subst (λ (k : ℕ). Adds a (each_below f k) b) same added
