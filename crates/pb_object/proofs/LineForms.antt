-- What each kind of line that is not a place reads is what it spells.
use Rattle.std.proofs.Common.{◌≡◌, ℕ, zero, suc, ◌^◌, ◌<◌, ◌≤◌, Bool, true, false, cond, not, ◌&&◌, eqb, ltb, List}
use Rattle.std.proofs.Common.{[], ◌∷◌, length, refl, sym, ap, subst, ◌∙◌, arith, map, codes}
use Rattle.std.specs.List.{list_all, AllByRecursion}
use Rattle.std.specs.Char.{is_ascii_alphabetic, is_ascii_digit}
use Rattle.std.specs.Fmt.{decimal}
use Rattle.std.proofs.lemmas.Bool.Decides.{nat_tests}
use Rattle.std.specs.Str.Parse.{digits_value}
use Rattle.std.proofs.lemmas.Bool.{eqb-true, ltb-false, le-ltb}
use Rattle.std.proofs.lemmas.List.{length-append, length-map}
use Rattle.std.proofs.lemmas.Fmt.{digits_decimal, decimal-digits_value, digits_value-decimal}
use Rattle.pb_base.proofs.Cases.{both_true}
use Rattle.pb_object.specs.declared.words.Verdict.TheVariants.{Malformed, Beyond, Read}
use Rattle.pb_code.specs.declared.format.Format.{Format}
use Rattle.pb_code.specs.declared.format.Format.TheVariants.{One, Two}
use Rattle.pb_code.specs.Names.{Word, is_name_byte, reserved_words, is_name, is_among}
use Rattle.pb_code.specs.Numerals.{is_numeral}
use Rattle.pb_object.specs.Words.{paired, mapped, number, numbers, is_new_name, are_new}
use Rattle.pb_object.specs.Instructions.{select}
use Rattle.pb_object.specs.Objects.{ResourceRow, counted_words, resource_words, process_words, digit_of}
use Rattle.pb_object.specs.Objects.{integers_words, claims_words}
use Rattle.pb_object.specs.Ranges.{IsResource, AreIntegers, AreClaimsInRange, plain_names}
use Rattle.pb_object.specs.Reading.{counted, resource, process_name, heading, says_number, named_integers, integers}
use Rattle.pb_object.specs.Reading.{claims}
use Rattle.pb_code.proofs.NumeralLemmas.{own, numeral_is, is_numeral_decimal}
use Rattle.pb_object.proofs.Numbers.{number_takes, number_again}
use Rattle.pb_code.proofs.NameTests.{letter_name}
use Rattle.pb_object.proofs.Verdicts.{mapped_read, paired_read, select_or, only_read, select_same, guard_read}
use Rattle.pb_object.proofs.LineLemmas.{is_inner, AreWords, all_mono}
use Rattle.pb_object.proofs.Parts.{AreLine, IsForm}

digit_inner : (b : ℕ) → is_ascii_digit b ≡ true → is_inner b ≡ true
digit_inner b h = grind (arith, nat_tests)

name_inner : (b : ℕ) → is_name_byte b ≡ true → is_inner b ≡ true
name_inner b h = grind (arith, nat_tests)

pub decimal_clean : (n : ℕ) → n < 2 ^ 64 → list_all is_inner (decimal n) ≡ true
decimal_clean n small = all_mono is_ascii_digit is_inner digit_inner (decimal n) (digits_decimal own n small)

pub name_clean : (w : Word) → is_name w ≡ true → list_all is_inner w ≡ true
unfolding is_name
name_clean [] h = refl
name_clean (b ∷ bs) h =
    let p = both_true (is_ascii_alphabetic b) (list_all is_name_byte bs && (ltb (length bs) 32 && not (is_among reserved_words (b ∷ bs)))) h in
    let q = both_true (list_all is_name_byte bs) (ltb (length bs) 32 && not (is_among reserved_words (b ∷ bs))) p.1 in
    rw (name_inner b (letter_name b p.0), all_mono is_name_byte is_inner name_inner bs q.0) refl

pub new_is_name : (earlier : List Word) (w : Word) → is_new_name earlier w ≡ true → is_name w ≡ true
new_is_name earlier w h = (both_true (is_name w) (not (is_among earlier w)) h).0

-- ---- a keyword and a number

counted_takes : (key : Word) (low high : ℕ) → high < 2 ^ 64 → (ws : List Word) (n : ℕ) → counted key low high ws ≡
    Read n → (ws ≡ counted_words key n) × ((low ≤ n) × (n ≤ high))
counted_takes key low high small [] n e = absurd cc
counted_takes key low high small (k ∷ []) n e = absurd (let o = only_read k key Malformed n e in let f = o.1 in cc)
counted_takes key low high small (k ∷ w ∷ []) n e =
    let o = only_read k key (number low high w) n e in
    let p = number_takes low high w n small o.1 in
    (let a = o.0 in let b = p.0 in cc, (p.1, p.2))
counted_takes key low high small (k ∷ w ∷ v ∷ ws) n e = absurd (let o = only_read k key Malformed n e in let f = o.1 in cc)

pub counted_is : (key : Word) (low high : ℕ) → high < 2 ^ 64 → list_all is_inner key ≡ true → IsForm (counted key low
    high) (counted_words key) (λ n. (low ≤ n) × (n ≤ high))
counted_is key low high small clean = record {
  takes = counted_takes key low high small;
  again = λ n good. select_same key (number low high (decimal n)) Malformed ∙ number_again low high n small good.0 good.1;
  clean = λ n good. (clean, (decimal_clean n (omega arith), tt));
}

-- ---- the first line

heading_takes : (ws : List Word) (f : Format) → heading ws ≡ Read f → ws ≡ codes "PBO" ∷ digit_of f ∷ []
heading_takes [] f e = absurd cc
heading_takes (k ∷ []) f e = absurd cc
heading_takes (k ∷ d ∷ []) f e =
    let o = only_read k (codes "PBO") (select d (codes "1") (Read One) (select d (codes "2") (Read Two) Malformed)) f e in
    let digit : d ≡ digit_of f =
    select_or d (codes "1") (Read One) (select d (codes "2") (Read Two) Malformed) f o.1
    (λ h g. let is : One ≡ f = cc in h ∙ ap digit_of is)
    (λ g. let p = only_read d (codes "2") (Read Two) f g in let g' = p.1 in let is : Two ≡ f = cc in p.0 ∙ ap digit_of is) in
    let a = o.0 in cc
heading_takes (k ∷ d ∷ w ∷ ws) f e = absurd cc

heading_again : (f : Format) → heading (codes "PBO" ∷ digit_of f ∷ []) ≡ Read f
heading_again One = refl
heading_again Two = refl

heading_clean : (f : Format) → AreLine (codes "PBO" ∷ digit_of f ∷ [])
heading_clean One = (refl, (refl, tt))
heading_clean Two = (refl, (refl, tt))

pub heading_is : IsForm heading (λ f. codes "PBO" ∷ digit_of f ∷ []) (λ f. Unit {0})
heading_is = record {
  takes = λ ws f e. (heading_takes ws f e, tt);
  again = λ f good. heading_again f;
  clean = λ f good. heading_clean f;
}

-- ---- a resource

resource_takes : (earlier : List ResourceRow) (ws : List Word) (r : ResourceRow) → resource earlier ws ≡ Read r → (ws ≡ resource_words r) × IsResource earlier r
resource_takes earlier [] r e = absurd cc
resource_takes earlier (k ∷ []) r e = absurd cc
resource_takes earlier (k ∷ name ∷ []) r e = absurd cc
resource_takes earlier (k ∷ name ∷ capital ∷ []) r e =
    let made : ℕ → ResourceRow = λ c. record { name = name; capital = c } in
    let o = only_read k (codes "resource") (cond (is_new_name (map (λ e. e.name) earlier) name) (mapped made (number 0 1000000 capital)) Malformed) r e in
    let g = guard_read (is_new_name (map (λ e. e.name) earlier) name) (mapped made (number 0 1000000 capital)) r o.1 in
    let m = mapped_read made (number 0 1000000 capital) r g.1 in
    let p = number_takes 0 1000000 capital m.0 (omega arith) m.1 in
    let words : k ∷ name ∷ capital ∷ [] ≡ resource_words (made m.0) = (let a = o.0 in let b = p.0 in cc) in
    subst (λ (s : ResourceRow). (k ∷ name ∷ capital ∷ [] ≡ resource_words s) × IsResource earlier s) m.2 (words, record { name = g.0; capital = p.2 })
resource_takes earlier (k ∷ name ∷ capital ∷ w ∷ ws) r e = absurd cc

pub resource_is : (earlier : List ResourceRow) → IsForm (resource earlier) resource_words (IsResource earlier)
resource_is earlier = record {
  takes = resource_takes earlier;
  again = λ r good. rw (good.name, number_again 0 1000000 r.capital (omega arith) (omega arith) good.capital) refl;
  clean = λ r good. (
    refl,
    (
      name_clean r.name (new_is_name (map (λ e. e.name) earlier) r.name good.name),
      (decimal_clean r.capital (let c = good.capital in omega arith), tt),
    ),
  );
}

-- ---- a process's first line

name_takes : (earlier : List Word) (ws : List Word) (x : Word) → process_name earlier ws ≡ Read x → (ws ≡ process_words x) × (is_new_name earlier x ≡ true)
name_takes earlier [] x e = absurd cc
name_takes earlier (k ∷ []) x e = absurd cc
name_takes earlier (k ∷ name ∷ []) x e =
    let o = only_read k (codes "process") (cond (is_new_name earlier name) (Read name) Malformed) x e in
    let g = guard_read (is_new_name earlier name) (Read name) x o.1 in
    let g' = g.1 in
    let same : name ≡ x = cc in
    subst (λ (y : Word). (k ∷ name ∷ [] ≡ process_words y) × (is_new_name earlier y ≡ true)) same ((let a = o.0 in cc), g.0)
name_takes earlier (k ∷ name ∷ w ∷ ws) x e = absurd cc

pub name_is : (earlier : List Word) → IsForm (process_name earlier) process_words (λ name. is_new_name earlier name ≡ true)
name_is earlier = record {
  takes = name_takes earlier;
  again = λ name good. rw good refl;
  clean = λ name good. (refl, (name_clean name (new_is_name earlier name good), tt));
}

-- ---- integers

pub length_plain_names : (n : ℕ) → length (plain_names n) ≡ n
unfolding plain_names
length_plain_names zero = refl
length_plain_names (suc n) = simp length-append (let e = length_plain_names n in omega (arith, e))

pub all_from : (p : Word → Bool) (ws : List Word) → list_all p ws ≡ true → AllByRecursion (λ w. p w ≡ true) ws
all_from p [] h = tt
all_from p (w ∷ ws) h = let s = both_true (p w) (list_all p ws) h in (s.0, all_from p ws s.1)

pub all_to : (p : Word → Bool) (ws : List Word) → AllByRecursion (λ w. p w ≡ true) ws → list_all p ws ≡ true
all_to p [] h = refl
all_to p (w ∷ ws) h = rw (h.0, all_to p ws h.1) refl

pub names_clean : (ws : List Word) → AllByRecursion (λ w. is_name w ≡ true) ws → AreWords ws
names_clean [] h = tt
names_clean (w ∷ ws) h = (name_clean w h.0, names_clean ws h.1)

pub eqb_same : (n : ℕ) → eqb n n ≡ true
eqb_same n = grind (arith, nat_tests)

says_takes : (w : Word) (n : ℕ) → n < 2 ^ 64 → says_number w n ≡ true → w ≡ decimal n
says_takes w n small h =
    let s = both_true (is_numeral w) (eqb (digits_value 10 w) n) h in
    let f = numeral_is w s.0 in
    let value : digits_value 10 w ≡ n = eqb-true _ _ s.1 in
    sym (decimal-digits_value own w f.0 f.1 f.2 (omega (arith, value))) ∙ ap decimal value

pub says_again : (n : ℕ) → n < 2 ^ 64 → says_number (decimal n) n ≡ true
says_again n small = rw (is_numeral_decimal n small, digits_value-decimal own n small, eqb_same n) refl

few_takes : (many new : Bool) (names found : List Word) → cond many Beyond (cond new (Read names) Malformed) ≡ Read
    found → (many ≡ false) × (new ≡ true) × (names ≡ found)
few_takes true new names found e = absurd cc
few_takes false true names found e = (refl, refl, cc)
few_takes false false names found e = absurd cc

named_takes : (count : Word) (names found : List Word) → named_integers count names ≡ Read found → (count ∷ names ≡
    decimal (length found) ∷ found) × AreIntegers Two found
unfolding named_integers
named_takes count names found e =
    let g = guard_read (says_number count (length names) && list_all is_name names) (cond (ltb 64 (length names))
    Beyond (cond (are_new [] names) (Read names) Malformed)) found e in
    let s = both_true (says_number count (length names)) (list_all is_name names) g.0 in
    let f = few_takes (ltb 64 (length names)) (are_new [] names) names found g.1 in
    let few : length names ≤ 64 = ltb-false _ _ f.0 in
    let word : count ≡ decimal (length names) = says_takes count (length names) (omega arith) s.0 in
    subst (λ (l : List Word). (count ∷ names ≡ decimal (length l) ∷ l) × AreIntegers Two l) f.2
    (ap (λ (w : Word). w ∷ names) word, (all_from is_name names s.1, f.1, few))

integers_takes : (format : Format) (ws names : List Word) → integers format ws ≡ Read names → (ws ≡ integers_words format names) × AreIntegers format names
integers_takes One ws names e =
    let m = mapped_read plain_names (counted (codes "vars") 0 64 ws) names e in
    let t = counted_takes (codes "vars") 0 64 (omega arith) ws m.0 m.1 in
    let n : length names ≡ m.0 = sym (ap (λ (l : List Word). length l) m.2) ∙ length_plain_names m.0 in
    (t.0 ∙ ap (counted_words (codes "vars")) (sym n), (sym m.2 ∙ ap plain_names (sym n), (let le = t.1.1 in omega arith)))
integers_takes Two [] names e = absurd cc
integers_takes Two (k ∷ []) names e = absurd cc
integers_takes Two (k ∷ count ∷ ws) names e =
    let o = only_read k (codes "vars") (named_integers count ws) names e in
    let t = named_takes count ws names o.1 in
    ((let a = o.0 in let b = t.0 in cc), t.1)

integers_again : (format : Format) (names : List Word) → AreIntegers format names → integers format (integers_words format names) ≡ Read names
unfolding named_integers
integers_again One names good =
    rw (
      select_same (codes "vars") (number 0 64 (decimal (length names))) Malformed,
      number_again 0 64 (length names)
          (omega arith) (omega arith) (let h = good.1 in omega arith),
    )
    (ap (λ (l : List Word). Read l) (sym good.0))
integers_again Two names good =
    let few : ltb 64 (length names) ≡ false = le-ltb _ _ good.2 in
    rw (says_again (length names) (let h = good.2 in omega arith), all_to is_name names good.0, few, good.1) refl

integers_clean : (format : Format) (names : List Word) → AreIntegers format names → AreLine (integers_words format names)
integers_clean One names good = (refl, (decimal_clean (length names) (let h = good.1 in omega arith), tt))
integers_clean Two names good = (refl, (decimal_clean (length names) (let h = good.2 in omega arith), names_clean names good.0))

pub integers_is : (format : Format) → IsForm (integers format) (integers_words format) (AreIntegers format)
integers_is format = record { takes = integers_takes format; again = integers_again format; clean = integers_clean format }

-- ---- claims

numbers_takes : (high : ℕ) → high < 2 ^ 64 → (ws : List Word) (ns : List ℕ) → numbers 0 high ws ≡ Read ns → (ws ≡ map
    decimal ns) × AllByRecursion (λ n. n ≤ high) ns
numbers_takes high small [] ns e =
    let same : [] ≡ ns = cc in
    subst (λ (l : List ℕ). ([] ≡ map decimal l) × AllByRecursion (λ n. n ≤ high) l) same (refl, tt)
numbers_takes high small (w ∷ ws) ns e =
    let cons : ℕ × List ℕ → List ℕ = λ p. p.0 ∷ p.1 in
    let m = mapped_read cons (paired (number 0 high w) (numbers 0 high ws)) ns e in
    let q = paired_read (number 0 high w) (numbers 0 high ws) m.0 m.1 in
    let first = number_takes 0 high w m.0.0 small q.0 in
    let others = numbers_takes high small ws m.0.1 q.1 in
    subst (λ (l : List ℕ). (w ∷ ws ≡ map decimal l) × AllByRecursion (λ n. n ≤ high) l) m.2
    ((let a = first.0 in let b = others.0 in cc), (first.2, others.1))

numbers_again : (high : ℕ) → high < 2 ^ 64 → (ns : List ℕ) → AllByRecursion (λ n. n ≤ high) ns → numbers 0 high (map decimal ns) ≡ Read ns
numbers_again high small [] good = refl
numbers_again high small (n ∷ ns) good = rw (number_again 0 high n small (omega arith) good.0, numbers_again high small ns good.1) refl

numbers_clean : (high : ℕ) → high < 2 ^ 64 → (ns : List ℕ) → AllByRecursion (λ n. n ≤ high) ns → AreWords (map decimal ns)
numbers_clean high small [] good = tt
numbers_clean high small (n ∷ ns) good = (decimal_clean n (let h = good.0 in omega arith), numbers_clean high small ns good.1)

claims_takes : (m : ℕ) (ws : List Word) (ns : List ℕ) → claims m ws ≡ Read ns → (ws ≡ claims_words ns) × AreClaimsInRange m ns
claims_takes m [] ns e = absurd cc
claims_takes m (k ∷ ws) ns e =
    let o = only_read k (codes "claims") (cond (eqb (length ws) m) (numbers 0 1000000 ws) Malformed) ns e in
    let g = guard_read (eqb (length ws) m) (numbers 0 1000000 ws) ns o.1 in
    let t = numbers_takes 1000000 (omega arith) ws ns g.1 in
    let count : length ns ≡ m = sym (ap (λ (l : List Word). length l) t.0 ∙ length-map ns decimal) ∙ eqb-true _ _ g.0 in
    ((let a = o.0 in let b = t.0 in cc), (count, t.1))

claims_again : (m : ℕ) (ns : List ℕ) → AreClaimsInRange m ns → claims m (claims_words ns) ≡ Read ns
claims_again m ns good =
    let count : length (map decimal ns) ≡ m = length-map ns decimal ∙ good.0 in
    rw (count, eqb_same m, numbers_again 1000000 (omega arith) ns good.1) refl

pub claims_is : (m : ℕ) → IsForm (claims m) claims_words (AreClaimsInRange m)
claims_is m = record {
  takes = claims_takes m;
  again = claims_again m;
  clean = λ ns good. (refl, numbers_clean 1000000 (omega arith) ns good.1);
}
