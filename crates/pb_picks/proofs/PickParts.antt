-- The parts of a pick line, and one more line that is read.
use Rattle.std.proofs.Common.{true, false, get_or, map, ◌≡◌, ◌≢◌, ℕ, ◌+◌, ◌<◌, ◌≤◌, inl, inr, List, [], ◌∷◌, ◌++◌}
use Rattle.std.proofs.Common.{length, replicate, refl, sym, ap, subst, ◌∙◌, arith, Option, None, Some, Bor}
use Rattle.std.specs.Prelude.{MatchOption, slice_get}
use Rattle.std.specs.List.{list_all}
use Rattle.std.specs.Char.{is_ascii_digit}
use Rattle.std.specs.Fmt.{decimal}
use Rattle.std.proofs.lemmas.List.{append_cancel_left, length-append, length-map, length-replicate}
use Rattle.std.proofs.lemmas.List.Elements.{All-cons, All-head, All-nil, All-tail}
use Rattle.std.proofs.lemmas.Fmt.{decimal_injective, digits_decimal}
use Rattle.std.proofs.lemmas.Option.{get_or_from_slice_get}
use Rattle.pb_code.proofs.ListElements.{read_mapped, same_read}
use Rattle.pb_base.specs.declared.pick.Pick.{Pick}
use Rattle.pb_base.proofs.Cases.{both_true}
use Rattle.pb_code.specs.Code.{ProcessCode}
use Rattle.pb_code.specs.Whole.{Code}
use Rattle.pb_history.specs.Replays.{spread}
use Rattle.pb_history.specs.declared.counted.CountedPick.{CountedPick}
use Rattle.pb_history.proofs.CountedPicks.{spread_append}
use Rattle.pb_picks.specs.PickLines.{IsFirstLine, Lacks, ReadsPicks, SpellsPick, arm_and_count}
use Rattle.pb_code.proofs.NumeralLemmas.{own}

pub behind_is : (line name rest : List ℕ) (r : Option (Bor (List ℕ))) → line ≡ name ++ rest
    → MatchOption r ((after : List ℕ) → rest ≢ (46 ∷ []) ++ after) (λ x. rest ≡ (46 ∷ []) ++ x.now)
    → MatchOption r ((after : List ℕ) → line ≡ name ++ (46 ∷ after) → ⊥) (λ x. line ≡ name ++ (46 ∷ x.now))
behind_is line name rest None e h = λ after f. h after (append_cancel_left name rest (46 ∷ after) (sym e ∙ f))
behind_is line name rest (Some x) e h = e ∙ ap (λ (t : List ℕ). name ++ t) h

-- what is before and after the first such byte is one thing
pub same_parts : (m : ℕ) (a b x y : List ℕ) → Lacks m a → Lacks m x → a ++ (m ∷ b) ≡ x ++ (m ∷ y) → (a ≡ x) × (b ≡ y)
same_parts m [] b [] y la lx e = (refl, cc)
same_parts m [] b (d ∷ x) y la lx e = let h : m ≡ d = cc in absurd (All-head (λ (n : ℕ). n ≢ m) d x lx (sym h))
same_parts m (c ∷ a) b [] y la lx e = let h : c ≡ m = cc in absurd (All-head (λ (n : ℕ). n ≢ m) c a la h)
same_parts m (c ∷ a) b (d ∷ x) y la lx e =
    let h : c ≡ d = cc in
    let t : a ++ (m ∷ b) ≡ x ++ (m ∷ y) = cc in
    let p = same_parts m a b x y (All-tail (λ (n : ℕ). n ≢ m) c a la) (All-tail (λ (n : ℕ). n ≢ m) d x lx) t in
    let q : a ≡ x = p.0 in
    (cc, p.1)

pub never_lacks : (m : ℕ) (a b : List ℕ) → Lacks m (a ++ (m ∷ b)) → ⊥
never_lacks m [] b l = All-head (λ (n : ℕ). n ≢ m) m b l refl
never_lacks m (c ∷ a) b l = never_lacks m a b (All-tail (λ (n : ℕ). n ≢ m) c (a ++ (m ∷ b)) l)

-- digits have no byte that is not a digit
pub digits_lack : (m : ℕ) → is_ascii_digit m ≡ false → (bs : List ℕ) → list_all is_ascii_digit bs ≡ true → Lacks m bs
digits_lack m other [] h = All-nil (λ (n : ℕ). n ≢ m)
digits_lack m other (b ∷ bs) h =
    let p = both_true (is_ascii_digit b) (list_all is_ascii_digit bs) h in
    All-cons (λ (n : ℕ). n ≢ m) b bs (λ e. let t : is_ascii_digit m ≡ true = subst (λ (x : ℕ). is_ascii_digit x ≡ true) e p.0 in cc)
    (digits_lack m other bs p.1)

pub parts_are : (text a b : List ℕ) (n m : ℕ) → n ≤ 10000000 → text ≡ a ++ (32 ∷ b) → Lacks 32 a → text ≡ arm_and_count n m
    → (a ≡ decimal n) × (b ≡ decimal m)
parts_are text a b n m few e la f =
    same_parts 32 a b (decimal n) (decimal m) la (digits_lack 32 refl (decimal n) (digits_decimal own n (omega arith))) (sym e ∙ f)

pub same_number : (w : List ℕ) (n m : ℕ) → n ≤ 10000000 → m ≤ 10000000 → w ≡ decimal n → w ≡ decimal m → n ≡ m
same_number w n m a b e f = decimal_injective n m (omega arith) (omega arith) (sym e ∙ f)

-- an element, seen in the mapped list
pub mapped_at : {A : Type 0} (f : A → List ℕ) (xs : List A) (k : ℕ) (x : A) → k < length xs → x ≡ get_or xs k x → get_or (map f xs) k [] ≡ f x
mapped_at f xs k x lt e = get_or_from_slice_get (map f xs) k (f x) [] (read_mapped f xs k x lt e)

pub as_many : {A B C D : Type 0} (f : A → C) (g : B → D) (xs : List A) (ys : List B) → length (map f xs) ≡ length (map g ys) → length xs ≡ length ys
as_many f g xs ys h = sym (length-map xs f) ∙ (h ∙ length-map ys g)

pub same_rest : (line name a b : List ℕ) → line ≡ name ++ (46 ∷ a) → line ≡ name ++ (46 ∷ b) → a ≡ b
same_rest line name a b e f = let t : 46 ∷ a ≡ 46 ∷ b = append_cancel_left name (46 ∷ a) (46 ∷ b) (sym e ∙ f) in cc

pub same_arms : (ps : List ProcessCode) (k m : ℕ) (p q : ProcessCode) → m ≡ k → slice_get ps m ≡ Some q → slice_get ps k ≡ Some p
    → length q.entries ≡ length p.entries
same_arms ps k m p q e h t =
    let r = subst (λ (j : ℕ). slice_get ps j ≡ Some q) e h in
    ap (λ (x : ProcessCode). length x.entries) (same_read ps k q p r t)

pub behind_line : (text line after : List ℕ) → IsFirstLine text line after → length after ≤ length text
behind_line text line after first = elim first.1 [
  | inl e ↦ let l = ap (λ (t : List ℕ). length t) e in omega (arith, l, length-append line (10 ∷ after))
  | inr e ↦ let z = ap (λ (t : List ℕ). length t) e.1 in omega (arith, z)
]

pub one_line_more : (code : Code) (text : List ℕ) (before : List CountedPick) (rest : List ℕ) (c : CountedPick) (line after : List ℕ)
    → ReadsPicks code text before rest → rest ≢ [] → IsFirstLine rest line after → SpellsPick code line c → ReadsPicks code text (before ++ (c ∷ [])) after
one_line_more code text [] rest c line after reads some first says =
    subst (λ (t : List ℕ). ReadsPicks code t (c ∷ []) after) (sym reads) (some, line, after, first, says, refl)
one_line_more code text (b ∷ before) rest c line after reads some first says =
    (reads.0, reads.1, reads.2, reads.3, reads.4, one_line_more code reads.2 before rest c line after reads.5 some first says)

pub one_count_more : (before : List CountedPick) (c : CountedPick) → length (spread (before ++ (c ∷ []))) ≡ length (spread before) + c.count
one_count_more before c =
    let e = ap (λ (ps : List Pick). length ps) (spread_append before (c ∷ [])) in
    let f = length-append (spread before) (replicate c.count c.pick ++ []) in
    let g = length-append (replicate c.count c.pick) [] in
    let h = length-replicate c.count c.pick in
    omega (arith, e, f, g, h)
