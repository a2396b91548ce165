-- Lines of one form: a line whose numbers are out of range is one that is read but for its numbers, and a malformed line is not.
use Rattle.std.proofs.Common.{◌≡◌, inl, inr, ℕ, ◌^◌, ◌<◌, ◌≤◌, Bool, true, false, cond, ◌&&◌, ◌||◌}
use Rattle.std.proofs.Common.{eqb, ltb, List, [], ◌∷◌, length, refl, sym, ap, subst, ◌∙◌, arith, codes, map}
use Rattle.std.specs.List.{list_all, AllByRecursion}
use Rattle.std.specs.Str.{bytes_eq}
use Rattle.std.specs.Fmt.{decimal}
use Rattle.std.proofs.lemmas.Bool.{eqb-true, ltb-true, lt-ltb}
use Rattle.std.proofs.lemmas.Slice.Eq.{bytes_eq-Decides}
use Rattle.std.proofs.lemmas.List.{length-map}
use Rattle.pb_base.proofs.Cases.{both_true}
use Rattle.pb_code.specs.Names.{Word, is_name}
use Rattle.pb_code.specs.Numerals.{is_numeral}
use Rattle.pb_object.specs.declared.words.Verdict.{Verdict}
use Rattle.pb_object.specs.declared.words.Verdict.TheVariants.{Malformed, Beyond, Read}
use Rattle.pb_code.specs.declared.format.Format.{Format}
use Rattle.pb_code.specs.declared.format.Format.TheVariants.{One, Two}
use Rattle.pb_object.specs.Words.{mapped, number, numbers, is_new_name, are_new}
use Rattle.pb_object.specs.Instructions.{select}
use Rattle.pb_object.specs.Objects.{ResourceRow, digit_of, resource_words, process_words, claims_words}
use Rattle.pb_object.specs.Ranges.{AreClaimsInRange, IsResource, plain_names}
use Rattle.pb_object.specs.Reading.{heading, counted, resource, process_name, says_number, named_integers, integers, claims}
use Rattle.pb_object.specs.Renumbered.{is_below, AllAlike, is_fixed, lends, takes_once, HasManyNames, IsOfForm}
use Rattle.pb_object.proofs.LineLemmas.{is_inner}
use Rattle.pb_object.proofs.LineForms.{counted_is, heading_is, resource_is, name_is, integers_is, claims_is, new_is_name}
use Rattle.pb_object.proofs.LineForms.{eqb_same, says_again}
use Rattle.pb_code.proofs.NumeralLemmas.{is_numeral_decimal}
use Rattle.pb_object.proofs.NumberKinds.{mapped_malformed, beyond_numeral, numeral_formed, alike_numeral, alike_same}
use Rattle.pb_object.proofs.NumberKinds.{alike_numbers, one_is, zero_is, one_counts_none, name_is_none}
use Rattle.pb_object.proofs.NumberKinds.{numeral_lends_not, numbers_numerals, numbers_formed, alike_numerals, alike_length}
use Rattle.pb_object.proofs.NumberKinds.{zeros, length_zeros, small_zeros, zeros_alike}
use Rattle.pb_object.proofs.Parts.{AreLine}
use Rattle.pb_object.proofs.Verdicts.{mapped_read}

-- A line beyond a range is of the form of one that is read; a line of the form of one that is read is not malformed.
pub record KeepsForm {X : Type 0} (form : List Word → Verdict X) : Type 0 where
  pub beyond : (ws : List Word) → form ws ≡ Beyond → (x : X) × (vs : List Word) × (form vs ≡ Read x) × AreLine vs × IsOfForm vs ws
  pub formed : (vs ws : List Word) (x : X) → form vs ≡ Read x → IsOfForm vs ws → form ws ≡ Malformed → ⊥

abbrev malformed : {X : Type 0} → Verdict X
malformed = Malformed

abbrev beyond_range : {X : Type 0} → Verdict X
beyond_range = Beyond

-- ---- a keyword

-- after the keyword something is beyond a range
only_beyond : {A : Type 0} (b : Bool) (v : Verdict A) → cond b v Malformed ≡ Beyond → (b ≡ true) × (v ≡ Beyond)
only_beyond true v e = (refl, e)
only_beyond false v e = absurd cc

keyed : {A : Type 0} (k key : Word) (it : Verdict A) → select k key it Malformed ≡ Beyond → (k ≡ key) × (it ≡ Beyond)
keyed k key it e =
    let o = only_beyond (bytes_eq k key) it e in
    ((bytes_eq-Decides k key).0 o.0, o.1)

key_true : (k key : Word) → k ≡ key → bytes_eq k key ≡ true
key_true k key e = (bytes_eq-Decides k key).1 e

pub only_malformed : {A : Type 0} (b : Bool) (v : Verdict A) → b ≡ true → cond b v Malformed ≡ Malformed → v ≡ Malformed
only_malformed true v h e = e
only_malformed false v h e = absurd cc

pub read_not : {X : Type 0} (v : Verdict X) (x : X) → v ≡ Read x → v ≡ Malformed → ⊥
read_not v x e f = absurd cc

-- ---- what a short line is

pub once_two : (a b : Bool) → cond a true (cond b true true) ≡ true
once_two true b = refl
once_two false true = refl
once_two false false = refl

pub once_of_two : (k w : Word) → takes_once (k ∷ w ∷ []) ≡ true
once_of_two k w = once_two (lends k) (lends w)

-- a keyword that is neither of those with other meanings
pub record IsKey (key : Word) : Type 0 where
  pub numeral : is_numeral key ≡ false
  pub below : is_below key ≡ false
  pub heading : bytes_eq key (codes "PBO") ≡ false

not_one_name : (a b c : Bool) → a ≡ false → c ≡ false → (a || (b && c)) ≡ true → ⊥
not_one_name true b c h k e = absurd cc
not_one_name false true true h k e = absurd cc
not_one_name false true false h k e = absurd cc
not_one_name false false c h k e = absurd cc

one_is_free : (key : Word) → bytes_eq key (codes "PBO") ≡ false → is_fixed (key ∷ decimal 1 ∷ []) ≡ true → ⊥
one_is_free key h e = not_one_name (bytes_eq key (codes "PBO")) (bytes_eq key (codes "vars")) (says_number (decimal 1) 0) h one_counts_none e

-- ---- a keyword and a number

counted_beyond : (key : Word) (low high : ℕ) → high < 2 ^ 64 → low ≤ 1 → 1 ≤ high → list_all is_inner key ≡ true → IsKey key
    → (ws : List Word) → counted key low high ws ≡ Beyond
    → (x : ℕ) × (vs : List Word) × (counted key low high vs ≡ Read x) × AreLine vs × IsOfForm vs ws
counted_beyond key low high small few some clean is [] e = absurd cc
counted_beyond key low high small few some clean is (k ∷ []) e = absurd (let o = keyed k key malformed e in let f = o.1 in cc)
counted_beyond key low high small few some clean is (k ∷ w ∷ []) e =
    let o = keyed k key (number low high w) e in
    let form = counted_is key low high small clean in (
      1,
      key ∷ decimal 1 ∷ [],
      form.again 1 (few, some),
      form.clean 1 (few, some),
      inl (record {
        alike = (inl (sym o.0), (alike_numbers (decimal 1) w one_is (beyond_numeral low high w o.1), tt));
        fixed = λ h. absurd (one_is_free key is.heading h);
        once = once_of_two k w;
      }),
    )
counted_beyond key low high small few some clean is (k ∷ w ∷ v ∷ ws) e = absurd (let o = keyed k key malformed e in let f = o.1 in cc)

counted_words_alike : (key : Word) (low high n : ℕ) (w : Word) (ws : List Word) → IsKey key → is_numeral w ≡ true
    → AllAlike (key ∷ w ∷ []) ws → counted key low high ws ≡ Malformed → ⊥
counted_words_alike key low high n w [] is h a e = absurd a
counted_words_alike key low high n w (k ∷ []) is h a e = absurd a.1
counted_words_alike key low high n w (k ∷ v ∷ []) is h a e =
    let same = alike_same key k a.0 is.numeral is.below in
    numeral_formed low high v (alike_numeral w v a.1.0 h)
    (only_malformed (bytes_eq k key) (number low high v) (key_true k key (sym same)) e)
counted_words_alike key low high n w (k ∷ v ∷ u ∷ ws) is h a e = absurd a.1.1

counted_formed : (key : Word) (low high : ℕ) → high < 2 ^ 64 → list_all is_inner key ≡ true → IsKey key
    → (vs ws : List Word) (x : ℕ) → counted key low high vs ≡ Read x → IsOfForm vs ws → counted key low high ws ≡ Malformed → ⊥
counted_formed key low high small clean is vs ws x e (inl r) bad =
    let form = counted_is key low high small clean in
    let t = form.takes vs x e in
    counted_words_alike key low high x (decimal x) ws is (is_numeral_decimal x (let h = t.1.1 in omega arith))
    (subst (λ (l : List Word). AllAlike l ws) t.0 r.alike) bad
counted_formed key low high small clean is vs ws x e (inr m) bad =
    let form = counted_is key low high small clean in
    let t = form.takes vs x e in
    let same : codes "vars" ∷ codes "1" ∷ codes "a" ∷ [] ≡ key ∷ decimal x ∷ [] = sym m.1 ∙ t.0 in
    let size : 3 ≡ 2 = ap (λ (l : List Word). length l) same in
    absurd (omega (arith, size))

pub counted_keeps : (key : Word) (low high : ℕ) → high < 2 ^ 64 → low ≤ 1 → 1 ≤ high → list_all is_inner key ≡ true → IsKey key
    → KeepsForm (counted key low high)
counted_keeps key low high small few some clean is = record {
  beyond = counted_beyond key low high small few some clean is;
  formed = counted_formed key low high small clean is;
}

-- ---- the first line

heading_sure : (a b c : Bool) (f g : Format) → cond a (cond b (Read f) (cond c (Read g) malformed)) Malformed ≡ Beyond → ⊥
heading_sure true true c f g e = absurd cc
heading_sure true false true f g e = absurd cc
heading_sure true false false f g e = absurd cc
heading_sure false b c f g e = absurd cc

heading_beyond : (ws : List Word) → heading ws ≡ Beyond → ⊥
heading_beyond [] e = absurd cc
heading_beyond (k ∷ []) e = absurd cc
heading_beyond (k ∷ d ∷ []) e = heading_sure (bytes_eq k (codes "PBO")) (bytes_eq d (codes "1")) (bytes_eq d (codes "2")) One Two e
heading_beyond (k ∷ d ∷ w ∷ ws) e = absurd cc

heading_fixed : (f : Format) → is_fixed (codes "PBO" ∷ digit_of f ∷ []) ≡ true
heading_fixed One = refl
heading_fixed Two = refl

heading_formed : (vs ws : List Word) (x : Format) → heading vs ≡ Read x → IsOfForm vs ws → heading ws ≡ Malformed → ⊥
heading_formed vs ws x e (inl r) bad =
    let t = heading_is.takes vs x e in
    let same = r.fixed (ap is_fixed t.0 ∙ heading_fixed x) in
    read_not (heading ws) x (ap heading same ∙ e) bad
heading_formed vs ws x e (inr m) bad = read_not (heading vs) x e (ap heading m.1)

pub heading_keeps : KeepsForm heading
heading_keeps = record { beyond = λ ws e. absurd (heading_beyond ws e); formed = heading_formed }

-- ---- a resource

three_once : (name w : Word) → takes_once (codes "resource" ∷ name ∷ w ∷ []) ≡ true
three_once name w = once_one (lends name)
  where
    once_one : (b : Bool) → cond b true true ≡ true
    once_one true = refl
    once_one false = refl

mapped_beyond : {A B : Type 0} (f : A → B) (v : Verdict A) → mapped f v ≡ Beyond → v ≡ Beyond
mapped_beyond f Malformed e = absurd cc
mapped_beyond f Beyond e = refl
mapped_beyond f (Read x) e = absurd cc

abbrev row_of : Word → ℕ → ResourceRow
row_of name c = record { name = name; capital = c }

resource_beyond : (earlier : List ResourceRow) (ws : List Word) → resource earlier ws ≡ Beyond
    → (x : ResourceRow) × (vs : List Word) × (resource earlier vs ≡ Read x) × AreLine vs × IsOfForm vs ws
resource_beyond earlier [] e = absurd cc
resource_beyond earlier (k ∷ []) e = absurd cc
resource_beyond earlier (k ∷ name ∷ []) e = absurd cc
resource_beyond earlier (k ∷ name ∷ w ∷ []) e =
    let is_new = is_new_name (map (λ e. e.name) earlier) name in
    let o = keyed k (codes "resource") (cond is_new (mapped (row_of name) (number 0 1000000 w)) Malformed) e in
    let g = only_beyond is_new (mapped (row_of name) (number 0 1000000 w)) o.1 in
    let numeral = beyond_numeral 0 1000000 w (mapped_beyond (row_of name) (number 0 1000000 w) g.1) in
    let good : IsResource earlier (row_of name 0) = record { name = g.0; capital = omega arith } in
    let form = resource_is earlier in (
      row_of name 0,
      resource_words (row_of name 0),
      form.again (row_of name 0) good,
      form.clean (row_of name 0) good,
      inl (record {
        alike = (inl (sym o.0), (inl refl, (alike_numbers (decimal 0) w zero_is numeral, tt)));
        fixed = λ h. absurd cc;
        once = ap (λ (x : Word). takes_once (x ∷ name ∷ w ∷ [])) o.0 ∙ three_once name w;
      }),
    )
resource_beyond earlier (k ∷ name ∷ w ∷ v ∷ ws) e = absurd cc

resource_alike : (earlier : List ResourceRow) (r : ResourceRow) (ws : List Word) → IsResource earlier r → AllAlike (resource_words r) ws
    → resource earlier ws ≡ Malformed → ⊥
resource_alike earlier r [] good a e = absurd a
resource_alike earlier r (k ∷ []) good a e = absurd a.1
resource_alike earlier r (k ∷ name ∷ []) good a e = absurd a.1.1
resource_alike earlier r (k ∷ name ∷ w ∷ []) good a e =
    let key : codes "resource" ≡ k = alike_same (codes "resource") k a.0 refl refl in
    let none = name_is_none r.name (new_is_name (map (λ e. e.name) earlier) r.name good.name) in
    let same = alike_same r.name name a.1.0 none.0 none.1 in
    let is_new = is_new_name (map (λ e. e.name) earlier) name in
    let new : is_new ≡ true = ap (λ (x : Word). is_new_name (map (λ e. e.name) earlier) x) (sym same) ∙ good.name in
    let numeral = alike_numeral (decimal r.capital) w a.1.1.0 (is_numeral_decimal r.capital (let c = good.capital in omega arith)) in
    let one = only_malformed (bytes_eq k (codes "resource")) (cond is_new (mapped (row_of name) (number 0 1000000 w)) Malformed) (key_true k (codes "resource") (sym key)) e in
    let two = only_malformed is_new (mapped (row_of name) (number 0 1000000 w)) new one in
    numeral_formed 0 1000000 w numeral (mapped_malformed (row_of name) (number 0 1000000 w) two)
resource_alike earlier r (k ∷ name ∷ w ∷ v ∷ ws) good a e = absurd a.1.1.1

resource_formed : (earlier : List ResourceRow) (vs ws : List Word) (x : ResourceRow) → resource earlier vs ≡ Read x → IsOfForm vs ws
    → resource earlier ws ≡ Malformed → ⊥
resource_formed earlier vs ws x e (inl r) bad =
    let t = (resource_is earlier).takes vs x e in
    resource_alike earlier x ws t.1 (subst (λ (l : List Word). AllAlike l ws) t.0 r.alike) bad
resource_formed earlier vs ws x e (inr m) bad = read_not (resource earlier vs) x e (ap (resource earlier) m.1)

pub resource_keeps : (earlier : List ResourceRow) → KeepsForm (resource earlier)
resource_keeps earlier = record { beyond = resource_beyond earlier; formed = resource_formed earlier }

-- ---- a process's first line

name_sure : (a b : Bool) (name : Word) → cond a (cond b (Read name) malformed) Malformed ≡ Beyond → ⊥
name_sure true true name e = absurd cc
name_sure true false name e = absurd cc
name_sure false b name e = absurd cc

name_beyond : (earlier : List Word) (ws : List Word) → process_name earlier ws ≡ Beyond → ⊥
name_beyond earlier [] e = absurd cc
name_beyond earlier (k ∷ []) e = absurd cc
name_beyond earlier (k ∷ name ∷ []) e = name_sure (bytes_eq k (codes "process")) (is_new_name earlier name) name e
name_beyond earlier (k ∷ name ∷ w ∷ ws) e = absurd cc

name_alike : (name : Word) (ws : List Word) → is_name name ≡ true → AllAlike (process_words name) ws → process_words name ≡ ws
name_alike name [] h a = absurd a
name_alike name (k ∷ []) h a = absurd a.1
name_alike name (k ∷ w ∷ []) h a =
    let key : codes "process" ≡ k = alike_same (codes "process") k a.0 refl refl in
    let none = name_is_none name h in
    let same = alike_same name w a.1.0 none.0 none.1 in
    ap (λ (x : Word). x ∷ name ∷ []) key ∙ ap (λ (x : Word). k ∷ x ∷ []) same
name_alike name (k ∷ w ∷ v ∷ ws) h a = absurd a.1.1

name_formed : (earlier : List Word) (vs ws : List Word) (x : Word) → process_name earlier vs ≡ Read x → IsOfForm vs ws
    → process_name earlier ws ≡ Malformed → ⊥
name_formed earlier vs ws x e (inl r) bad =
    let t = (name_is earlier).takes vs x e in
    let same = name_alike x ws (new_is_name earlier x t.1) (subst (λ (l : List Word). AllAlike l ws) t.0 r.alike) in
    read_not (process_name earlier ws) x (ap (process_name earlier) (sym same ∙ sym t.0) ∙ e) bad
name_formed earlier vs ws x e (inr m) bad = read_not (process_name earlier vs) x e (ap (process_name earlier) m.1)

pub name_keeps : (earlier : List Word) → KeepsForm (process_name earlier)
name_keeps earlier = record { beyond = λ ws e. absurd (name_beyond earlier ws e); formed = name_formed earlier }

-- ---- integers

vars_is : IsKey (codes "vars")
vars_is = record { numeral = refl; below = refl; heading = refl }

vars_keeps : KeepsForm (counted (codes "vars") 0 64)
vars_keeps = counted_keeps (codes "vars") 0 64 (omega arith) (omega arith) (omega arith) refl vars_is

one_beyond : (ws : List Word) → integers One ws ≡ Beyond
    → (x : List Word) × (vs : List Word) × (integers One vs ≡ Read x) × AreLine vs × IsOfForm vs ws
one_beyond ws e =
    let t = vars_keeps.beyond ws (mapped_beyond plain_names (counted (codes "vars") 0 64 ws) e) in
    (plain_names t.0, t.1, ap (λ (v : Verdict ℕ). mapped plain_names v) t.2, t.3, t.4)

one_formed : (vs ws : List Word) (x : List Word) → integers One vs ≡ Read x → IsOfForm vs ws → integers One ws ≡ Malformed → ⊥
one_formed vs ws x e of_form bad =
    let m = mapped_read plain_names (counted (codes "vars") 0 64 vs) x e in
    vars_keeps.formed vs ws m.0 m.1 of_form (mapped_malformed plain_names (counted (codes "vars") 0 64 ws) bad)

named_beyond : (many new : Bool) (names : List Word) → cond many Beyond (cond new (Read names) malformed) ≡ Beyond → many ≡ true
named_beyond true new names e = refl
named_beyond false true names e = absurd cc
named_beyond false false names e = absurd cc

abbrev a_name : List Word
a_name = codes "a" ∷ []

two_read : integers Two (codes "vars" ∷ codes "1" ∷ a_name) ≡ Read a_name
unfolding named_integers is_name
two_read = refl

two_beyond : (ws : List Word) → integers Two ws ≡ Beyond
    → (x : List Word) × (vs : List Word) × (integers Two vs ≡ Read x) × AreLine vs × IsOfForm vs ws
unfolding named_integers
two_beyond [] e = absurd cc
two_beyond (k ∷ []) e = absurd cc
two_beyond (k ∷ count ∷ names) e =
    let o = keyed k (codes "vars") (named_integers count names) e in
    let is_list = says_number count (length names) && list_all is_name names in
    let g = only_beyond is_list (cond (ltb 64 (length names)) Beyond (cond (are_new [] names) (Read names) Malformed)) o.1 in
    let s = both_true (says_number count (length names)) (list_all is_name names) g.0 in
    let many = ltb-true 64 (length names) (named_beyond (ltb 64 (length names)) (are_new [] names) names g.1) in (
      a_name,
      codes "vars" ∷ codes "1" ∷ a_name,
      two_read,
      (refl, (refl, (refl, tt))),
      inr (record { count = count; names = names; words = ap (λ (x : Word). x ∷ count ∷ names) o.0; counted = s.0; all_names = s.1; many = many }, refl),
    )

counts_names : (names : List Word) → length names ≤ 64 → is_fixed (codes "vars" ∷ decimal (length names) ∷ names) ≡ true
counts_names names few = rw (says_again (length names) (omega arith)) refl

many_malformed : (a b c : Bool) (names : List Word) → a ≡ true → b ≡ true → cond a (cond b Beyond (cond c (Read names) malformed)) Malformed ≡ Malformed → ⊥
many_malformed true true c names h k e = absurd cc
many_malformed true false c names h k e = absurd cc
many_malformed false b c names h k e = absurd cc

many_formed : (ws : List Word) → HasManyNames ws → integers Two ws ≡ Malformed → ⊥
unfolding named_integers
many_formed ws m e =
    let bad : named_integers m.count m.names ≡ Malformed = ap (integers Two) (sym m.words) ∙ e in
    many_malformed (says_number m.count (length m.names) && list_all is_name m.names) (ltb 64 (length m.names)) (are_new [] m.names) m.names
    (rw (m.counted, m.all_names) refl) (lt-ltb 64 (length m.names) m.many) bad

two_formed : (vs ws : List Word) (x : List Word) → integers Two vs ≡ Read x → IsOfForm vs ws → integers Two ws ≡ Malformed → ⊥
two_formed vs ws x e (inl r) bad =
    let t = (integers_is Two).takes vs x e in
    let same = r.fixed (ap is_fixed t.0 ∙ counts_names x t.1.2) in
    read_not (integers Two ws) x (ap (integers Two) same ∙ e) bad
two_formed vs ws x e (inr m) bad = many_formed ws m.0 bad

pub integers_keep : (format : Format) → KeepsForm (integers format)
integers_keep One = record { beyond = one_beyond; formed = one_formed }
integers_keep Two = record { beyond = two_beyond; formed = two_formed }

-- ---- claims

claims_once : (ws : List Word) → list_all is_numeral ws ≡ true → takes_once (codes "claims" ∷ ws) ≡ true
claims_once [] h = refl
claims_once (w ∷ ws) h = rw (numeral_lends_not w (both_true (is_numeral w) (list_all is_numeral ws) h).0) refl

free_claims : (ns : List Word) → is_fixed (codes "claims" ∷ ns) ≡ true → ⊥
free_claims [] e = absurd cc
free_claims (n ∷ ns) e = absurd cc

claims_beyond : (m : ℕ) (ws : List Word) → claims m ws ≡ Beyond
    → (x : List ℕ) × (vs : List Word) × (claims m vs ≡ Read x) × AreLine vs × IsOfForm vs ws
claims_beyond m [] e = absurd cc
claims_beyond m (k ∷ ws) e =
    let o = keyed k (codes "claims") (cond (eqb (length ws) m) (numbers 0 1000000 ws) Malformed) e in
    let g = only_beyond (eqb (length ws) m) (numbers 0 1000000 ws) o.1 in
    let numerals = numbers_numerals 0 1000000 ws (λ bad. absurd (let f = g.1 in cc)) in
    let none = zeros (length ws) in
    let count : length none ≡ m = length_zeros (length ws) ∙ eqb-true (length ws) m g.0 in
    let good : AreClaimsInRange m none = (count, small_zeros (length ws) 1000000) in
    let form = claims_is m in (
      none,
      claims_words none,
      form.again none good,
      form.clean none good,
      inl (record {
        alike = (inl (sym o.0), zeros_alike ws numerals);
        fixed = λ h. absurd (free_claims (map decimal none) h);
        once = ap (λ (x : Word). takes_once (x ∷ ws)) o.0 ∙ claims_once ws numerals;
      }),
    )

decimals : (ns : List ℕ) → AllByRecursion (λ n. n ≤ 1000000) ns → list_all is_numeral (map decimal ns) ≡ true
decimals [] h = refl
decimals (n ∷ ns) h = rw (is_numeral_decimal n (let l = h.0 in omega arith), decimals ns h.1) refl

claims_alike : (m : ℕ) (ns : List ℕ) (ws : List Word) → length ns ≡ m → AllByRecursion (λ n. n ≤ 1000000) ns
    → AllAlike (claims_words ns) ws → claims m ws ≡ Malformed → ⊥
claims_alike m ns [] count small a e = absurd a
claims_alike m ns (k ∷ ws) count small a e =
    let key : codes "claims" ≡ k = alike_same (codes "claims") k a.0 refl refl in
    let long : length ws ≡ m = sym (alike_length (map decimal ns) ws a.1) ∙ length-map ns decimal ∙ count in
    let even : eqb (length ws) m ≡ true = rw (long, eqb_same m) refl in
    let one = only_malformed (bytes_eq k (codes "claims")) (cond (eqb (length ws) m) (numbers 0 1000000 ws) Malformed) (key_true k (codes "claims") (sym key)) e in
    let two = only_malformed (eqb (length ws) m) (numbers 0 1000000 ws) even one in
    numbers_formed 0 1000000 ws (alike_numerals (map decimal ns) ws a.1 (decimals ns small)) two

claims_formed : (m : ℕ) (vs ws : List Word) (x : List ℕ) → claims m vs ≡ Read x → IsOfForm vs ws → claims m ws ≡ Malformed → ⊥
claims_formed m vs ws x e (inl r) bad =
    let t = (claims_is m).takes vs x e in
    claims_alike m x ws t.1.0 t.1.1 (subst (λ (l : List Word). AllAlike l ws) t.0 r.alike) bad
claims_formed m vs ws x e (inr s) bad = read_not (claims m vs) x e (ap (claims m) s.1)

pub claims_keep : (m : ℕ) → KeepsForm (claims m)
claims_keep m = record { beyond = claims_beyond m; formed = claims_formed m }
