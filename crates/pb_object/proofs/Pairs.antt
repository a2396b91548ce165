-- Pairs of words, one after the other.
use Rattle.std.proofs.Common.{◌≡◌, ℕ, ◌+◌, ◌-◌, ◌<◌, ◌≤◌, ◌≢◌, Bool, true, false, ◌||◌, append_assoc, List, [], ◌∷◌}
use Rattle.std.proofs.Common.{◌++◌, length, get_or, take, drop, map, refl, sym, ap, subst, ◌∙◌, arith, All}
use Rattle.std.specs.Str.{bytes_eq}
use Rattle.std.specs.Fmt.{decimal}
use Rattle.std.proofs.lemmas.List.{take_rest, append-nil}
use Rattle.std.proofs.lemmas.List.Elements.{All-push}
use Rattle.std.proofs.lemmas.Slice.Eq.{bytes_eq-Decides}
use Rattle.pb_base.specs.declared.pair.Pair.{Pair}
use Rattle.pb_object.specs.declared.words.Verdict.{Verdict}
use Rattle.pb_object.specs.declared.words.Verdict.TheVariants.{Malformed, Beyond, Read}
use Rattle.pb_code.specs.Names.{Word}
use Rattle.pb_object.specs.Words.{paired, mapped, number}
use Rattle.pb_object.specs.Instructions.{names_resource, pair_of, pairs_of}
use Rattle.pb_object.proofs.Numbers.{none_of, number_takes}
use Rattle.pb_object.proofs.Verdicts.{mapped_read, paired_read}

-- two words or more are the first two and those after them
pub front_two : {A : Type 0} (f : A → Word) (xs : List A) (d : A) → 2 ≤ length xs
    → map f xs ≡ f (get_or xs 0 d) ∷ f (get_or xs 1 d) ∷ map f (take (length xs - 2) (drop 2 xs))
front_two f [] d two = absurd (omega (arith, two))
front_two f (x ∷ []) d two = absurd (omega (arith, two))
front_two {A} f (x ∷ y ∷ xs) d two = ap (λ (rest : List A). f x ∷ f y ∷ map f rest) (sym (take_rest (x ∷ y ∷ xs) 2))

pub after_two : {A : Type 0} (xs : List A) → 2 ≤ length xs → length (take (length xs - 2) (drop 2 xs)) + 2 ≡ length xs
after_two [] two = absurd (omega (arith, two))
after_two (x ∷ []) two = absurd (omega (arith, two))
after_two {A} (x ∷ y ∷ xs) two =
    let e : length (take (length (x ∷ y ∷ xs) - 2) (drop 2 (x ∷ y ∷ xs))) ≡ length xs = ap (length {A = A}) (take_rest (x ∷ y ∷ xs) 2) in
    omega (arith, e)

-- fewer than two words name nothing
pub names_none : (ws : List Word) (word : Word) → length ws < 2 → names_resource ws word ≡ false
names_none [] word h = refl
names_none (r ∷ []) word h = refl
names_none (r ∷ k ∷ ws) word h = absurd (omega (arith, h))

pub names_on : (r k word : Word) (rest ws : List Word) → rest ≡ r ∷ k ∷ ws → bytes_eq r word ≡ false → names_resource rest word ≡ names_resource ws word
names_on r k word rest ws e other = ap (λ (l : List Word). names_resource l word) e ∙ rw other refl

pub names_here : (r k word : Word) (rest ws : List Word) → rest ≡ r ∷ k ∷ ws → bytes_eq r word ≡ true → names_resource rest word ≡ true
names_here r k word rest ws e same = ap (λ (l : List Word). names_resource l word) e ∙ rw same refl

-- what is read of a list, after a front in which some numbers may be out of range
abbrev pub gathered : {A : Type 0} → Bool → List A → Verdict (List A) → Verdict (List A)
gathered beyond front Malformed = Malformed
gathered beyond front Beyond = Beyond
gathered true front (Read xs) = Beyond
gathered false front (Read xs) = Read (front ++ xs)

abbrev cons_of : {A : Type 0} → Verdict A → Verdict (List A) → Verdict (List A)
cons_of x xs = mapped (λ p. p.0 ∷ p.1) (paired x xs)

pub gathered_beyond : {A : Type 0} (b : Bool) (front : List A) (v : Verdict (List A)) → gathered b front (cons_of Beyond v) ≡ gathered true front v
gathered_beyond b front Malformed = refl
gathered_beyond b front Beyond = refl
gathered_beyond b front (Read xs) = refl

pub gathered_more : {A : Type 0} (b : Bool) (front : List A) (x : A) (v : Verdict (List A)) → gathered b front
    (cons_of (Read x) v) ≡ gathered b (front ++ x ∷ []) v
gathered_more b front x Malformed = refl
gathered_more b front x Beyond = refl
gathered_more true front x (Read xs) = refl
gathered_more false front x (Read xs) = simp append_assoc

-- ---- a turn of the loop over pairs

pub twice : (b : Bool) (front : List Pair) (total : Verdict (List Pair)) (r k : Word) (rest ws : List Word)
    → rest ≡ r ∷ k ∷ ws → total ≡ gathered b front (pairs_of rest) → names_resource ws r ≡ true → total ≡ Malformed
unfolding pairs_of
twice b front total r k rest ws e so_far again = so_far ∙ ap (λ (l : List Word). gathered b front (pairs_of l)) e ∙ rw again refl

pub next_pair : (b : Bool) (front : List Pair) (total : Verdict (List Pair)) (r k : Word) (rest ws : List Word)
    → rest ≡ r ∷ k ∷ ws → total ≡ gathered b front (pairs_of rest) → names_resource ws r ≡ false
    → total ≡ gathered b front (cons_of (pair_of r k) (pairs_of ws))
unfolding pairs_of
next_pair b front total r k rest ws e so_far new = so_far ∙ ap (λ (l : List Word). gathered b front (pairs_of l)) e ∙ rw new refl

pub bad_pair : (b : Bool) (front : List Pair) (total : Verdict (List Pair)) (r k : Word) (ws : List Word)
    → total ≡ gathered b front (cons_of (pair_of r k) (pairs_of ws)) → pair_of r k ≡ Malformed → total ≡ Malformed
bad_pair b front total r k ws so_far h = so_far ∙ ap (λ (v : Verdict Pair). gathered b front (cons_of v (pairs_of ws))) h

pub beyond_pair : (b : Bool) (front : List Pair) (total : Verdict (List Pair)) (r k : Word) (ws : List Word)
    → total ≡ gathered b front (cons_of (pair_of r k) (pairs_of ws)) → pair_of r k ≡ Beyond → total ≡ gathered true front (pairs_of ws)
beyond_pair b front total r k ws so_far h =
    so_far ∙ ap (λ (v : Verdict Pair). gathered b front (cons_of v (pairs_of ws))) h ∙ gathered_beyond b front (pairs_of ws)

pub more_pair : (b : Bool) (front : List Pair) (total : Verdict (List Pair)) (r k : Word) (ws : List Word) (p : Pair)
    → total ≡ gathered b front (cons_of (pair_of r k) (pairs_of ws)) → pair_of r k ≡ Read p → total ≡ gathered b (front ++ p ∷ []) (pairs_of ws)
more_pair b front total r k ws p so_far h =
    so_far ∙ ap (λ (v : Verdict Pair). gathered b front (cons_of v (pairs_of ws))) h ∙ gathered_more b front p (pairs_of ws)

pub odd_end : (b : Bool) (front : List Pair) (total : Verdict (List Pair)) (rest : List Word)
    → total ≡ gathered b front (pairs_of rest) → length rest < 2 → 0 < length rest → total ≡ Malformed
unfolding pairs_of
odd_end b front total [] so_far few some = absurd (omega (arith, some))
odd_end b front total (r ∷ []) so_far few some = so_far
odd_end b front total (r ∷ k ∷ ws) so_far few some = absurd (omega (arith, few))

pub even_end : (b : Bool) (front : List Pair) (total : Verdict (List Pair)) (rest : List Word)
    → total ≡ gathered b front (pairs_of rest) → length rest ≡ 0 → total ≡ gathered b front (Read [])
unfolding pairs_of
even_end b front total [] so_far none = so_far
even_end b front total (r ∷ ws) so_far none = absurd (omega (arith, none))

pub full_end : (b : Bool) (front : List Pair) (total : Verdict (List Pair)) → total ≡ gathered b front (Read []) → b ≡ false → total ≡ Read front
full_end b front total so_far none =
    so_far ∙ ap (λ (c : Bool). gathered c front (Read [])) none ∙ ap (λ (l : List Pair). Read l) (append-nil front)

-- ---- the resources differ

-- the words do not name the resource of the pair
abbrev pub IsApart : List Word → Pair → Type 0
IsApart ws p = names_resource ws (decimal p.resource) ≡ false

-- the words of a pair
pub pair_takes : (r k : Word) (p : Pair) → pair_of r k ≡ Read p → (r ≡ decimal p.resource) × (k ≡ decimal p.amount) ×
    (p.resource ≤ 15) × (1 ≤ p.amount) × (p.amount ≤ 1000000)
pair_takes r k p e =
    let make : ℕ × ℕ → Pair = λ n. record { resource = n.0; amount = n.1 } in
    let m = mapped_read make (paired (number 0 15 r) (number 1 1000000 k)) p e in
    let q = paired_read (number 0 15 r) (number 1 1000000 k) m.0 m.1 in
    let first = number_takes 0 15 r m.0.0 (omega arith) q.0 in
    let second = number_takes 1 1000000 k m.0.1 (omega arith) q.1 in
    subst (λ (x : Pair). (r ≡ decimal x.resource) × (k ≡ decimal x.amount) × (x.resource ≤ 15) × (1 ≤ x.amount) × (x.amount ≤ 1000000)) m.2
    (first.0, second.0, first.2, second.1, second.2)

apart_one : (r k : Word) (rest ws : List Word) (q : Pair) → rest ≡ r ∷ k ∷ ws → IsApart rest q → (bytes_eq r (decimal q.resource) ≡ false) × IsApart ws q
apart_one r k rest ws q e h =
    let both : (bytes_eq r (decimal q.resource) || names_resource ws (decimal q.resource)) ≡ false =
    sym (ap (λ (l : List Word). names_resource l (decimal q.resource)) e) ∙ h in
    none_of (bytes_eq r (decimal q.resource)) (names_resource ws (decimal q.resource)) both

pub apart_after : (r k : Word) (rest ws : List Word) (bundle : List Pair) → rest ≡ r ∷ k ∷ ws → All (IsApart rest) bundle → All (IsApart ws) bundle
apart_after r k rest ws bundle e h = λ i d lt. (apart_one r k rest ws (get_or bundle i d) e (h i d lt)).1

pub apart_new : (r k : Word) (rest ws : List Word) (bundle : List Pair) (p : Pair) → rest ≡ r ∷ k ∷ ws → All (IsApart rest) bundle → pair_of r k ≡ Read p
    → All (λ q. q.resource ≢ p.resource) bundle
apart_new r k rest ws bundle p e h read = λ i d lt same.
    let word : r ≡ decimal (get_or bundle i d).resource = (pair_takes r k p read).0 ∙ sym (ap decimal same) in
    let is : bytes_eq r (decimal (get_or bundle i d).resource) ≡ true = (bytes_eq-Decides r (decimal (get_or bundle i d).resource)).1 word in
    let other = (apart_one r k rest ws (get_or bundle i d) e (h i d lt)).0 in
    cc

pub apart_more : (r k : Word) (rest ws : List Word) (bundle : List Pair) (p : Pair) → rest ≡ r ∷ k ∷ ws → All (IsApart rest) bundle → pair_of r k ≡ Read p
    → names_resource ws r ≡ false → All (IsApart ws) (bundle ++ p ∷ [])
apart_more r k rest ws bundle p e h read new =
    All-push (IsApart ws) bundle p (apart_after r k rest ws bundle e h) (ap (names_resource ws) (sym (pair_takes r k p read).0) ∙ new)
