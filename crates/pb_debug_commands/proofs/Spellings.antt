-- A line says a command exactly if it is its spelling.
use Rattle.std.proofs.Common.{◌≡◌, inl, inr, ℕ, suc, ◌+◌, ◌<◌, ◌≤◌, ◌^◌, Bool, true, false, cond, not, ◌&&◌}
use Rattle.std.proofs.Common.{eqb, ltb, List, [], ◌∷◌, ◌++◌, length, take, drop, Option, Some, None}
use Rattle.std.proofs.Common.{option_map, refl, sym, ap, ◌∙◌, subst, arith, rules}
use Rattle.std.specs.Prelude.{codes, ◌⊎◌}
use Rattle.std.specs.Char.{is_ascii_digit, is_ascii_alphabetic}
use Rattle.std.specs.Fmt.{decimal}
use Rattle.std.specs.List.{list_all, position, position_or_len}
use Rattle.std.specs.Str.{bytes_eq}
use Rattle.std.specs.Str.Parse.{digits_value}
use Rattle.std.proofs.lemmas.Bool.{eqb-true, ltb-true, ltb-false, lt-ltb, le-ltb, cases_lt}
use Rattle.std.proofs.lemmas.Bool.Decides.{nat_tests}
use Rattle.std.proofs.lemmas.Fmt.{decimal-digits_value, digits_decimal, digits_value-decimal}
use Rattle.std.proofs.lemmas.Fmt.{length-decimal-le}
use Rattle.std.proofs.lemmas.Str.Parse.{digits_value_short}
use Rattle.pb_base.proofs.Cases.{both_true}
use Rattle.pb_code.proofs.NumeralLemmas.{own, numeral_is, is_numeral_decimal}
use Rattle.pb_code.specs.Names.{is_name_byte}
use Rattle.pb_code.specs.Numerals.{is_numeral}
use Rattle.pb_debug_commands.specs.Commands.{Command, To, Step, Back, Mark, Vars, Threads, Fault, Wrote, Until, Loans, Next, Prev}
use Rattle.pb_debug_commands.specs.Commands.{Help, Circle, Arms, Line, Text, Why, Stack, Pick, Does, Who, arm_at, arm_of, both_of, integer_at, integer_of}
use Rattle.pb_debug_commands.specs.Commands.{stop_at, stop_from, stop_of, command_of, looks_like_name, keyed, mark_of, number_of}
use Rattle.pb_debug_commands.specs.Commands.{parted, said_by, trimmed, word_of}
use Rattle.pb_debug_commands.specs.Spellings.{CommandsBySpelling, IsOneStep, IsProper, command_spelling}

-- ---- numbers

-- a choice that gives something
chosen : {A : Type 0} (b : Bool) (x y : Option A) (c : A) → cond b x y ≡ Some c → ((b ≡ true) × (x ≡ Some c)) ⊎ (y ≡ Some c)
chosen true x y c h = inl (refl, h)
chosen false x y c h = inr h

sure : {A : Type 0} (b : Bool) (x : A) (c : A) → cond b (Some x) None ≡ Some c → (b ≡ true) × (x ≡ c)
sure true x c h = (refl, cc)
sure false x c h = absurd cc

pub mapped : {A B : Type 0} (f : A → B) (o : Option A) (c : B) → option_map f o ≡ Some c → (x : A) × (o ≡ Some x) × (f x ≡ c)
mapped f None c h = absurd cc
mapped f (Some x) c h = (x, refl, cc)

number_is : (w : List ℕ) (n : ℕ) → number_of w ≡ Some n → (w ≡ decimal n) × (n < 100000000)
number_is w n h =
    let p = sure (is_numeral w && ltb (length w) 9) (digits_value 10 w) n h in
    let b = both_true (is_numeral w) (ltb (length w) 9) p.0 in
    let f = numeral_is w b.0 in
    let short : length w < 9 = ltb-true (length w) 9 b.1 in
    let small : digits_value 10 w < 10 ^ 8 = digits_value_short own w 8 f.0 (omega (arith, short)) in
    let written : decimal (digits_value 10 w) ≡ w = decimal-digits_value own w f.0 f.1 f.2 (omega (arith, small)) in
    (sym written ∙ ap decimal p.1, let e = p.1 in omega (arith, small, e))

number_again : (n : ℕ) → n < 100000000 → number_of (decimal n) ≡ Some n
number_again n lt =
    let small : n < 2 ^ 64 = omega (arith, lt) in
    let form : is_numeral (decimal n) ≡ true = is_numeral_decimal n small in
    let size : length (decimal n) ≤ 8 = length-decimal-le 8 n (omega arith) (omega (arith, lt)) small in
    let short : ltb (length (decimal n)) 9 ≡ true = lt-ltb (length (decimal n)) 9 (omega (arith, size)) in
    let value : digits_value 10 (decimal n) ≡ n = digits_value-decimal own n small in
    rw (form, short, value) refl

-- the number of a mark
mark_is : (w : List ℕ) (n : ℕ) → mark_of w ≡ Some n → (w ≡ decimal n) × (n < 4294967296)
mark_is w n h =
    let p = sure (is_numeral w && ltb (length w) 11 && ltb (digits_value 10 w) 4294967296) (digits_value 10 w) n h in
    let b = both_true (is_numeral w && ltb (length w) 11) (ltb (digits_value 10 w) 4294967296) p.0 in
    let f = numeral_is w (both_true (is_numeral w) (ltb (length w) 11) b.0).0 in
    let small : digits_value 10 w < 4294967296 = ltb-true (digits_value 10 w) 4294967296 b.1 in
    let written : decimal (digits_value 10 w) ≡ w = decimal-digits_value own w f.0 f.1 f.2 (omega (arith, small)) in
    (sym written ∙ ap decimal p.1, let e = p.1 in omega (arith, small, e))

mark_again : (n : ℕ) → n < 4294967296 → mark_of (decimal n) ≡ Some n
mark_again n lt =
    let small : n < 2 ^ 64 = omega (arith, lt) in
    let form : is_numeral (decimal n) ≡ true = is_numeral_decimal n small in
    let size : length (decimal n) ≤ 10 = length-decimal-le 10 n (omega arith) (omega (arith, lt)) small in
    let short : ltb (length (decimal n)) 11 ≡ true = lt-ltb (length (decimal n)) 11 (omega (arith, size)) in
    let value : digits_value 10 (decimal n) ≡ n = digits_value-decimal own n small in
    let few : ltb n 4294967296 ≡ true = lt-ltb n 4294967296 lt in
    rw (form, short, value, few) refl

-- ---- the first such byte

abbrev pub first_at : ℕ → List ℕ → Option ℕ
first_at byte [] = None
first_at byte (b ∷ bs) = cond (eqb b byte) (Some 0) (option_map suc (first_at byte bs))

-- `position` by a recursion
step_at : (t : Bool) (n len : ℕ)
    → cond (ltb (cond (not t) (1 + n) 0) (suc len)) (Some (cond (not t) (1 + n) 0)) None ≡ cond t (Some 0) (option_map suc (cond (ltb n len) (Some n) None))
step_at true n len = rw (lt-ltb 0 (suc len) (omega arith)) refl
step_at false n len =
    let one : 1 + n ≡ suc n = omega arith in
    elim (cases_lt n len) [
      | inl lt ↦ rw (lt-ltb n len lt, lt-ltb (1 + n) (suc len) (omega (arith, lt))) (ap Some one)
      | inr le ↦ rw (le-ltb n len le, le-ltb (1 + n) (suc len) (omega (arith, le))) refl
    ]

pub position_is : (byte : ℕ) (bs : List ℕ) → position (λ b. eqb b byte) bs ≡ first_at byte bs
position_is byte [] = refl
position_is byte (b ∷ bs) =
    step_at (eqb b byte) (position_or_len (λ b. eqb b byte) bs) (length bs)
    ∙ ap (λ (o : Option ℕ). cond (eqb b byte) (Some 0) (option_map suc o)) (position_is byte bs)

-- what is before it and after it
parts_step : (byte b : ℕ) (bs : List ℕ) (i : ℕ) (t : Bool) → eqb b byte ≡ t → cond t (Some 0) (option_map suc (first_at byte bs)) ≡ Some i
    → ((j : ℕ) → first_at byte bs ≡ Some j → bs ≡ take j bs ++ byte ∷ drop (j + 1) bs)
    → b ∷ bs ≡ take i (b ∷ bs) ++ byte ∷ drop (i + 1) (b ∷ bs)
parts_step byte b bs i true e h rest =
    let zero' : 0 ≡ i = cc in
    let same : b ≡ byte = eqb-true b byte e in
    subst (λ (k : ℕ). b ∷ bs ≡ take k (b ∷ bs) ++ byte ∷ drop (k + 1) (b ∷ bs)) zero' (ap (λ (x : ℕ). x ∷ bs) same)
parts_step byte b bs i false e h rest =
    let m = mapped suc (first_at byte bs) i h in
    let n : suc (m.0 + 1) ≡ suc m.0 + 1 = omega arith in
    let more = ap (λ (xs : List ℕ). b ∷ xs) (rest m.0 m.1) in
    subst (λ (k : ℕ). b ∷ bs ≡ take k (b ∷ bs) ++ byte ∷ drop (k + 1) (b ∷ bs)) m.2
    (more ∙ ap (λ (k : ℕ). b ∷ (take m.0 bs ++ byte ∷ drop k (b ∷ bs))) n)

parts_at : (byte : ℕ) (bs : List ℕ) (i : ℕ) → first_at byte bs ≡ Some i → bs ≡ take i bs ++ byte ∷ drop (i + 1) bs
parts_at byte [] i h = absurd cc
parts_at byte (b ∷ bs) i h = parts_step byte b bs i (eqb b byte) refl h (λ j. parts_at byte bs j)

-- the first point after a word is the one after it
name_byte_no_point : (b : ℕ) → is_name_byte b ≡ true → eqb b 46 ≡ false
name_byte_no_point b h = grind (arith, nat_tests)

letter_no_point : (b : ℕ) → is_ascii_alphabetic b ≡ true → eqb b 46 ≡ false
letter_no_point b h = grind (arith, nat_tests)

point_behind : (bs rest : List ℕ) → list_all is_name_byte bs ≡ true → first_at 46 (bs ++ 46 ∷ rest) ≡ Some (length bs)
point_behind [] rest h = refl
point_behind (b ∷ bs) rest h =
    let p = both_true (is_name_byte b) (list_all is_name_byte bs) h in
    rw (name_byte_no_point b p.0, point_behind bs rest p.1) refl

point_behind_word : (w rest : List ℕ) → looks_like_name w ≡ true → first_at 46 (w ++ 46 ∷ rest) ≡ Some (length w)
point_behind_word [] rest h = absurd cc
point_behind_word (b ∷ bs) rest h =
    let p = both_true (is_ascii_alphabetic b) (list_all is_name_byte bs) h in
    rw (letter_no_point b p.0, point_behind bs rest p.1) refl

take_word : (w rest : List ℕ) → take (length w) (w ++ rest) ≡ w
take_word [] rest = refl
take_word (b ∷ bs) rest = ap (λ xs. b ∷ xs) (take_word bs rest)

drop_word : (w rest : List ℕ) (b : ℕ) → drop (length w + 1) (w ++ b ∷ rest) ≡ rest
drop_word [] rest b = refl
drop_word (x ∷ bs) rest b =
    let n : suc (length bs) + 1 ≡ suc (length bs + 1) = omega arith in
    ap (λ (k : ℕ). drop k (x ∷ (bs ++ b ∷ rest))) n ∙ drop_word bs rest b

-- ---- words

word_is : (w p : List ℕ) → word_of w ≡ Some p → (w ≡ p) × (looks_like_name p ≡ true)
word_is w p h =
    let s = sure (looks_like_name w) w p h in
    (s.1, subst (λ (x : List ℕ). looks_like_name x ≡ true) s.1 s.0)

word_again : (p : List ℕ) → looks_like_name p ≡ true → word_of p ≡ Some p
word_again p h = rw h refl

abbrev ArmWord : Type 0
ArmWord = List ℕ × ℕ

arm_from : (w : List ℕ) (o : Option ℕ) (x : ArmWord) → first_at 46 w ≡ o → arm_at w o ≡ Some x
    → (w ≡ x.0 ++ 46 ∷ decimal x.1) × (looks_like_name x.0 ≡ true) × (x.1 < 100000000)
arm_from w None x at h = absurd cc
arm_from w (Some i) x at h =
    elim (chosen (looks_like_name (take i w)) (option_map (λ arm. (take i w, arm)) (number_of (drop (i + 1) w))) None x h) [
      | inl s ↦ (
          let m = mapped (λ (arm : ℕ). (take i w, arm)) (number_of (drop (i + 1) w)) x s.1 in
          let n = number_is (drop (i + 1) w) m.0 m.1 in
          let parts = parts_at 46 w i at ∙ ap (λ (xs : List ℕ). take i w ++ 46 ∷ xs) n.0 in
          let result : (w ≡ take i w ++ 46 ∷ decimal m.0) × (looks_like_name (take i w) ≡ true) × (m.0 < 100000000) = (parts, s.0, n.1) in
          subst (λ (y : ArmWord). (w ≡ y.0 ++ 46 ∷ decimal y.1) × (looks_like_name y.0 ≡ true) × (y.1 < 100000000)) m.2 result)
      | inr none ↦ absurd cc
    ]

arm_is : (w : List ℕ) (x : ArmWord) → arm_of w ≡ Some x → (w ≡ x.0 ++ 46 ∷ decimal x.1) × (looks_like_name x.0 ≡ true) × (x.1 < 100000000)
arm_is w x h = arm_from w (first_at 46 w) x refl (subst (λ (o : Option ℕ). arm_at w o ≡ Some x) (position_is 46 w) h)

arm_again : (p : List ℕ) (a : ℕ) → looks_like_name p ≡ true → a < 100000000 → arm_of (p ++ 46 ∷ decimal a) ≡ Some (p, a)
arm_again p a word lt =
    let w : List ℕ = p ++ 46 ∷ decimal a in
    let at : position (λ b. eqb b 46) w ≡ Some (length p) = position_is 46 w ∙ point_behind_word p (decimal a) word in
    let before : take (length p) w ≡ p = take_word p (46 ∷ decimal a) in
    let behind : drop (length p + 1) w ≡ decimal a = drop_word p (decimal a) 46 in
    ap (arm_at w) at ∙ whole w p a before behind word lt
  where
    whole : (w p : List ℕ) (a : ℕ) → take (length p) w ≡ p → drop (length p + 1) w ≡ decimal a → looks_like_name p ≡ true → a < 100000000
        → arm_at w (Some (length p)) ≡ Some (p, a)
    whole w p a before behind word lt = rw (before, behind, word, number_again a lt) refl

-- ---- an integer of a process

name_byte_no_space : (b : ℕ) → is_name_byte b ≡ true → eqb b 32 ≡ false
name_byte_no_space b h = grind (arith, nat_tests)

letter_no_space : (b : ℕ) → is_ascii_alphabetic b ≡ true → eqb b 32 ≡ false
letter_no_space b h = grind (arith, nat_tests)

space_behind : (bs rest : List ℕ) → list_all is_name_byte bs ≡ true → first_at 32 (bs ++ 32 ∷ rest) ≡ Some (length bs)
space_behind [] rest h = refl
space_behind (b ∷ bs) rest h =
    let p = both_true (is_name_byte b) (list_all is_name_byte bs) h in
    rw (name_byte_no_space b p.0, space_behind bs rest p.1) refl

space_behind_word : (w rest : List ℕ) → looks_like_name w ≡ true → first_at 32 (w ++ 32 ∷ rest) ≡ Some (length w)
space_behind_word [] rest h = absurd cc
space_behind_word (b ∷ bs) rest h =
    let p = both_true (is_ascii_alphabetic b) (list_all is_name_byte bs) h in
    rw (letter_no_space b p.0, space_behind bs rest p.1) refl

abbrev IntegerWord : Type 0
IntegerWord = List ℕ × List ℕ

both_are : (a b : Option (List ℕ)) (x : IntegerWord) → both_of a b ≡ Some x → (a ≡ Some x.0) × (b ≡ Some x.1)
both_are None b x h = absurd cc
both_are (Some a) None x h = absurd cc
both_are (Some a) (Some b) x h = let same : (a, b) ≡ x = cc in (ap (λ (y : IntegerWord). Some y.0) same, ap (λ (y : IntegerWord). Some y.1) same)

integer_from : (w : List ℕ) (o : Option ℕ) (x : IntegerWord) → first_at 32 w ≡ o → integer_at w o ≡ Some x
    → (w ≡ x.0 ++ 32 ∷ x.1) × (looks_like_name x.0 ≡ true) × (looks_like_name x.1 ≡ true)
integer_from w None x at h = absurd cc
integer_from w (Some i) x at h =
    let both = both_are (word_of (take i w)) (word_of (drop (i + 1) w)) x h in
    let first = word_is (take i w) x.0 both.0 in
    let second = word_is (drop (i + 1) w) x.1 both.1 in
    let parts = parts_at 32 w i at in
    (parts ∙ (ap (λ (xs : List ℕ). xs ++ 32 ∷ drop (i + 1) w) first.0 ∙ ap (λ (xs : List ℕ). x.0 ++ 32 ∷ xs) second.0), first.1, second.1)

integer_is : (w : List ℕ) (x : IntegerWord) → integer_of w ≡ Some x → (w ≡ x.0 ++ 32 ∷ x.1) × (looks_like_name x.0 ≡ true) × (looks_like_name x.1 ≡ true)
integer_is w x h = integer_from w (first_at 32 w) x refl (subst (λ (o : Option ℕ). integer_at w o ≡ Some x) (position_is 32 w) h)

integer_again : (p x : List ℕ) → looks_like_name p ≡ true → looks_like_name x ≡ true → integer_of (p ++ 32 ∷ x) ≡ Some (p, x)
integer_again p x first second =
    let w : List ℕ = p ++ 32 ∷ x in
    let at : position (λ b. eqb b 32) w ≡ Some (length p) = position_is 32 w ∙ space_behind_word p x first in
    ap (integer_at w) at ∙ whole w p x (take_word p (32 ∷ x)) (drop_word p x 32) first second
  where
    whole : (w p x : List ℕ) → take (length p) w ≡ p → drop (length p + 1) w ≡ x → looks_like_name p ≡ true → looks_like_name x ≡ true
        → integer_at w (Some (length p)) ≡ Some (p, x)
    whole w p x before behind first second = rw (before, behind, first, second) refl

-- ---- an arm and a line

digit_no_space : (b : ℕ) → is_ascii_digit b ≡ true → eqb b 32 ≡ false
digit_no_space b h = grind (arith, nat_tests)

space_behind_digits : (bs rest : List ℕ) → list_all is_ascii_digit bs ≡ true → first_at 32 (bs ++ 32 ∷ rest) ≡ Some (length bs)
space_behind_digits [] rest h = refl
space_behind_digits (b ∷ bs) rest h =
    let p = both_true (is_ascii_digit b) (list_all is_ascii_digit bs) h in
    rw (digit_no_space b p.0, space_behind_digits bs rest p.1) refl

space_behind_names : (bs digits rest : List ℕ) → list_all is_name_byte bs ≡ true → list_all is_ascii_digit digits ≡ true
    → first_at 32 ((bs ++ 46 ∷ digits) ++ 32 ∷ rest) ≡ Some (length (bs ++ 46 ∷ digits))
space_behind_names [] digits rest h d = rw (space_behind_digits digits rest d) refl
space_behind_names (b ∷ bs) digits rest h d =
    let p = both_true (is_name_byte b) (list_all is_name_byte bs) h in
    rw (name_byte_no_space b p.0, space_behind_names bs digits rest p.1 d) refl

space_behind_arm : (w digits rest : List ℕ) → looks_like_name w ≡ true → list_all is_ascii_digit digits ≡ true
    → first_at 32 ((w ++ 46 ∷ digits) ++ 32 ∷ rest) ≡ Some (length (w ++ 46 ∷ digits))
space_behind_arm [] digits rest h d = absurd cc
space_behind_arm (b ∷ bs) digits rest h d =
    let p = both_true (is_ascii_alphabetic b) (list_all is_name_byte bs) h in
    rw (letter_no_space b p.0, space_behind_names bs digits rest p.1 d) refl

abbrev SaysStop : List ℕ → Command → Type 0
SaysStop w c = (p : List ℕ) × (a : ℕ) × (n : ℕ) × (w ≡ (p ++ 46 ∷ decimal a) ++ 32 ∷ decimal n) × (looks_like_name p ≡ true) × (a < 100000000)
    × (n < 100000000) × (Until p a n ≡ c)

stop_parts : (first second : List ℕ) (a : Option ArmWord) (n : Option ℕ) (c : Command) → arm_of first ≡ a → number_of second ≡ n → stop_from a n ≡ Some c
    → SaysStop (first ++ 32 ∷ second) c
stop_parts first second None n c e f h = absurd cc
stop_parts first second (Some x) None c e f h = absurd cc
stop_parts first second (Some x) (Some n) c e f h =
    let arm = arm_is first x e in
    let number = number_is second n f in
    let same : Until x.0 x.1 n ≡ c = cc in (
      x.0,
      x.1,
      n,
      ap (λ (xs : List ℕ). xs ++ 32 ∷ second) arm.0 ∙ ap (λ (xs : List ℕ). (x.0 ++ 46 ∷ decimal x.1) ++ 32 ∷ xs) number.0,
      arm.1,
      arm.2,
      number.1,
      same,
    )

stop_cut : (w : List ℕ) (o : Option ℕ) (c : Command) → first_at 32 w ≡ o → stop_at w o ≡ Some c → SaysStop w c
stop_cut w None c at h = absurd cc
stop_cut w (Some i) c at h =
    subst (λ (xs : List ℕ). SaysStop xs c) (sym (parts_at 32 w i at))
    (stop_parts (take i w) (drop (i + 1) w) (arm_of (take i w)) (number_of (drop (i + 1) w)) c refl refl h)

stop_is : (w : List ℕ) (c : Command) → stop_of w ≡ Some c → SaysStop w c
stop_is w c h = stop_cut w (first_at 32 w) c refl (subst (λ (o : Option ℕ). stop_at w o ≡ Some c) (position_is 32 w) h)

stop_again : (p : List ℕ) (a n : ℕ) → looks_like_name p ≡ true → a < 100000000 → n < 100000000
    → stop_of ((p ++ 46 ∷ decimal a) ++ 32 ∷ decimal n) ≡ Some (Until p a n)
stop_again p a n word few small =
    let first : List ℕ = p ++ 46 ∷ decimal a in
    let w : List ℕ = first ++ 32 ∷ decimal n in
    let digits = digits_decimal own a (omega (arith, few)) in
    let at : position (λ b. eqb b 32) w ≡ Some (length first) = position_is 32 w ∙ space_behind_arm p (decimal a) (decimal n) word digits in
    ap (stop_at w) at ∙ whole w first p a n (take_word first (32 ∷ decimal n)) (drop_word first (decimal n) 32) (arm_again p a word few) (number_again n small)
  where
    whole : (w first p : List ℕ) (a n : ℕ) → take (length first) w ≡ first → drop (length first + 1) w ≡ decimal n → arm_of first ≡ Some (p, a)
        → number_of (decimal n) ≡ Some n → stop_at w (Some (length first)) ≡ Some (Until p a n)
    whole w first p a n before behind arm number = rw (before, behind, arm, number) refl

-- ---- lines

abbrev SaysIt : List ℕ → Command → Type 0
SaysIt line c = (line ≡ command_spelling c) × IsProper c

-- the key, if the bytes are equal to it
bytes_same : (xs ys : List ℕ) → bytes_eq xs ys ≡ true → xs ≡ ys
bytes_same xs ys h = search (rules, h)

module _ (key word : List ℕ) (c : Command) where
  abbrev Here : Type 0
  Here = SaysIt (key ++ 32 ∷ word) c

  with_key : (text : List ℕ) → bytes_eq key text ≡ true → SaysIt (text ++ 32 ∷ word) c → Here
  with_key text h s = subst (λ (k : List ℕ). SaysIt (k ++ 32 ∷ word) c) (sym (bytes_same key text h)) s

  numbered : (text : List ℕ) (f : ℕ → Command) → ((n : ℕ) → command_spelling (f n) ≡ text ++ 32 ∷ decimal n) → ((n : ℕ) → n < 100000000 → IsProper (f n))
      → bytes_eq key text ≡ true → option_map f (number_of word) ≡ Some c → Here
  numbered text f spelled proper h o =
      let m = mapped f (number_of word) c o in
      let n = number_is word m.0 m.1 in
      let e : text ++ 32 ∷ word ≡ command_spelling (f m.0) = ap (λ (w : List ℕ). text ++ 32 ∷ w) n.0 ∙ sym (spelled m.0) in
      with_key text h (subst (SaysIt (text ++ 32 ∷ word)) m.2 (e, proper m.0 n.1))

  marked : bytes_eq key (codes "mark") ≡ true → option_map Mark (mark_of word) ≡ Some c → Here
  marked h o =
      let m = mapped Mark (mark_of word) c o in
      let n = mark_is word m.0 m.1 in
      let e : codes "mark" ++ 32 ∷ word ≡ command_spelling (Mark m.0) = ap (λ (w : List ℕ). codes "mark" ++ 32 ∷ w) n.0 in
      with_key (codes "mark") h (subst (SaysIt (codes "mark" ++ 32 ∷ word)) m.2 (e, n.1))

  named : (text : List ℕ) (f : List ℕ → Command) → ((w : List ℕ) → command_spelling (f w) ≡ text ++ 32 ∷ w)
      → ((w : List ℕ) → looks_like_name w ≡ true → IsProper (f w))
      → bytes_eq key text ≡ true → option_map f (word_of word) ≡ Some c → Here
  named text f spelled proper h o =
      let m = mapped f (word_of word) c o in
      let n = word_is word m.0 m.1 in
      let e : text ++ 32 ∷ word ≡ command_spelling (f m.0) = ap (λ (w : List ℕ). text ++ 32 ∷ w) n.0 ∙ sym (spelled m.0) in
      with_key text h (subst (SaysIt (text ++ 32 ∷ word)) m.2 (e, proper m.0 n.1))

  armed : (text : List ℕ) (f : ArmWord → Command) → ((x : ArmWord) → command_spelling (f x) ≡ text ++ 32 ∷ (x.0 ++ 46 ∷ decimal x.1))
      → ((x : ArmWord) → looks_like_name x.0 ≡ true → x.1 < 100000000 → IsProper (f x))
      → bytes_eq key text ≡ true → option_map f (arm_of word) ≡ Some c → Here
  armed text f spelled proper h o =
      let m = mapped f (arm_of word) c o in
      let n = arm_is word m.0 m.1 in
      let e : text ++ 32 ∷ word ≡ command_spelling (f m.0) = ap (λ (w : List ℕ). text ++ 32 ∷ w) n.0 ∙ sym (spelled m.0) in
      with_key text h (subst (SaysIt (text ++ 32 ∷ word)) m.2 (e, proper m.0 n.1 n.2))

  written : (text : List ℕ) (f : IntegerWord → Command) → ((x : IntegerWord) → command_spelling (f x) ≡ text ++ 32 ∷ (x.0 ++ 32 ∷ x.1))
      → ((x : IntegerWord) → looks_like_name x.0 ≡ true → looks_like_name x.1 ≡ true → IsProper (f x))
      → bytes_eq key text ≡ true → option_map f (integer_of word) ≡ Some c → Here
  written text f spelled proper h o =
      let m = mapped f (integer_of word) c o in
      let n = integer_is word m.0 m.1 in
      let e : text ++ 32 ∷ word ≡ command_spelling (f m.0) = ap (λ (w : List ℕ). text ++ 32 ∷ w) n.0 ∙ sym (spelled m.0) in
      with_key text h (subst (SaysIt (text ++ 32 ∷ word)) m.2 (e, proper m.0 n.1 n.2))

  stopped : bytes_eq key (codes "until") ≡ true → stop_of word ≡ Some c → Here
  stopped h o =
      let m = stop_is word c o in
      let e : codes "until" ++ 32 ∷ word ≡ command_spelling (Until m.0 m.1 m.2) = ap (λ (w : List ℕ). codes "until" ++ 32 ∷ w) m.3 in
      with_key (codes "until") h (subst (SaysIt (codes "until" ++ 32 ∷ word)) m.7 (e, (m.4, m.5, m.6)))

  keyed_is : keyed key word ≡ Some c → Here
  unfolding keyed
  keyed_is h =
      elim (chosen (bytes_eq key (codes "to")) _ _ c h) [
        | inl s ↦ numbered (codes "to") To (λ n. refl) (λ n lt. lt) s.0 s.1
        | inr h ↦ elim (chosen (bytes_eq key (codes "step")) _ _ c h) [
          | inl s ↦ numbered (codes "step") Step (λ n. refl) (λ n lt. lt) s.0 s.1
          | inr h ↦ elim (chosen (bytes_eq key (codes "back")) _ _ c h) [
            | inl s ↦ numbered (codes "back") Back (λ n. refl) (λ n lt. lt) s.0 s.1
            | inr h ↦ elim (chosen (bytes_eq key (codes "mark")) _ _ c h) [
              | inl s ↦ marked s.0 s.1
              | inr h ↦ elim (chosen (bytes_eq key (codes "vars")) _ _ c h) [
                | inl s ↦ named (codes "vars") Vars (λ w. refl) (λ w e. e) s.0 s.1
                | inr h ↦ elim (chosen (bytes_eq key (codes "threads")) _ _ c h) [
                  | inl s ↦ named (codes "threads") Threads (λ w. refl) (λ w e. e) s.0 s.1
                  | inr h ↦ elim (chosen (bytes_eq key (codes "fault")) _ _ c h) [
                    | inl s ↦ named (codes "fault") Fault (λ w. refl) (λ w e. e) s.0 s.1
                    | inr h ↦ elim (chosen (bytes_eq key (codes "until")) _ _ c h) [
                      | inl s ↦ stopped s.0 s.1
                      | inr h ↦ elim (chosen (bytes_eq key (codes "wrote")) _ _ c h) [
                        | inl s ↦ written (codes "wrote") (λ p. Wrote p.0 p.1) (λ x. refl) (λ x e f. (e, f)) s.0 s.1
                        | inr h ↦ elim (chosen (bytes_eq key (codes "line")) _ _ c h) [
                          | inl s ↦ armed (codes "line") (λ p. Line p.0 p.1) (λ x. refl) (λ x e lt. (e, lt)) s.0 s.1
                          | inr h ↦ elim (chosen (bytes_eq key (codes "text")) _ _ c h) [
                            | inl s ↦ armed (codes "text") (λ p. Text p.0 p.1) (λ x. refl) (λ x e lt. (e, lt)) s.0 s.1
                            | inr h ↦ elim (chosen (bytes_eq key (codes "why")) _ _ c h) [
                              | inl s ↦ armed (codes "why") (λ p. Why p.0 p.1) (λ x. refl) (λ x e lt. (e, lt)) s.0 s.1
                              | inr h ↦ elim (chosen (bytes_eq key (codes "who")) _ _ c h) [
                                | inl s ↦ named (codes "who") Who (λ w. refl) (λ w e. e) s.0 s.1
                                | inr h ↦ elim (chosen (bytes_eq key (codes "stack")) _ _ c h) [
                                  | inl s ↦ armed (codes "stack") (λ p. Stack p.0 p.1) (λ x. refl) (λ x e lt. (e, lt)) s.0 s.1
                                  | inr h ↦ elim (chosen (bytes_eq key (codes "pick")) _ _ c h) [
                                    | inl s ↦ armed (codes "pick") (λ p. Pick p.0 p.1) (λ x. refl) (λ x e lt. (e, lt)) s.0 s.1
                                    | inr h ↦ elim (chosen (bytes_eq key (codes "does")) _ _ c h) [
                                      | inl s ↦ armed (codes "does") (λ p. Does p.0 p.1) (λ x. refl) (λ x e lt. (e, lt)) s.0 s.1
                                      | inr h ↦ absurd cc
                                    ]
                                  ]
                                ]
                              ]
                            ]
                          ]
                        ]
                      ]
                    ]
                  ]
                ]
              ]
            ]
          ]
        ]
      ]

parted_is : (line : List ℕ) (o : Option ℕ) (c : Command) → first_at 32 line ≡ o → parted line o ≡ Some c → SaysIt line c
parted_is line None c at h = absurd cc
parted_is line (Some i) c at h =
    subst (λ (l : List ℕ). SaysIt l c) (sym (parts_at 32 line i at)) (keyed_is (take i line) (drop (i + 1) line) c h)

short_line : (b : Bool) (x : Option Command) (c : Command) → cond b None x ≡ Some c → (b ≡ false) × (x ≡ Some c)
short_line true x c h = absurd cc
short_line false x c h = (refl, h)

abbrev SaysSo : List ℕ → Command → Type 0
SaysSo line c = ((line ≡ command_spelling c) ⊎ IsOneStep line c) × IsProper c

alone : (line text : List ℕ) (d c : Command) → bytes_eq line text ≡ true → Some d ≡ Some c → text ≡ command_spelling d → IsProper d
    → SaysSo line c
alone line text d c h e spelled proper =
    let same : d ≡ c = cc in
    subst (SaysSo line) same (inl (bytes_same line text h ∙ spelled), proper)

once : (line text : List ℕ) (d c : Command) → bytes_eq line text ≡ true → Some d ≡ Some c → IsProper d
    → (line ≡ text → IsOneStep line d) → SaysSo line c
once line text d c h e proper one =
    let same : d ≡ c = cc in
    subst (SaysSo line) same (inr (one (bytes_same line text h)), proper)

says_what : (line : List ℕ) (c : Command) → said_by line ≡ Some c → SaysSo line c
unfolding said_by
says_what line c h =
    elim (chosen (bytes_eq line (codes "loans")) _ _ c h) [
      | inl l ↦ alone line (codes "loans") Loans c l.0 l.1 refl tt
      | inr p ↦ elim (chosen (bytes_eq line (codes "next")) _ _ c p) [
        | inl l ↦ alone line (codes "next") Next c l.0 l.1 refl tt
        | inr p ↦ elim (chosen (bytes_eq line (codes "prev")) _ _ c p) [
          | inl l ↦ alone line (codes "prev") Prev c l.0 l.1 refl tt
          | inr p ↦ elim (chosen (bytes_eq line (codes "help")) _ _ c p) [
            | inl l ↦ alone line (codes "help") Help c l.0 l.1 refl tt
            | inr p ↦ elim (chosen (bytes_eq line (codes "circle")) _ _ c p) [
              | inl l ↦ alone line (codes "circle") Circle c l.0 l.1 refl tt
              | inr p ↦ elim (chosen (bytes_eq line (codes "arms")) _ _ c p) [
                | inl l ↦ alone line (codes "arms") Arms c l.0 l.1 refl tt
                | inr p ↦ elim (chosen (bytes_eq line (codes "step")) _ _ c p) [
                  | inl l ↦ once line (codes "step") (Step 1) c l.0 l.1 (omega arith) (λ e. inl (e, refl))
                  | inr p ↦ elim (chosen (bytes_eq line (codes "back")) _ _ c p) [
                    | inl l ↦ once line (codes "back") (Back 1) c l.0 l.1 (omega arith) (λ e. inr (e, refl))
                    | inr p ↦ (
                        let r = parted_is line (first_at 32 line) c refl (subst (λ (o : Option ℕ). parted line o ≡ Some c) (position_is 32 line) p) in
                        (inl r.0, r.1))
                  ]
                ]
              ]
            ]
          ]
        ]
      ]
    ]

-- ---- spellings are read again

said_short : (line : List ℕ) (c : Command) → bytes_eq line (codes "loans") ≡ false
    → bytes_eq line (codes "next") ≡ false → bytes_eq line (codes "prev") ≡ false → bytes_eq line (codes "help") ≡ false
    → bytes_eq line (codes "circle") ≡ false → bytes_eq line (codes "arms") ≡ false → bytes_eq line (codes "step") ≡ false
    → bytes_eq line (codes "back") ≡ false → parted line (first_at 32 line) ≡ Some c → said_by line ≡ Some c
unfolding said_by
said_short line c loans next prev help circle arms step back h =
    let p : parted line (position (λ b. eqb b 32) line) ≡ Some c = ap (parted line) (position_is 32 line) ∙ h in
    rw (loans, next, prev, help, circle, arms, step, back, p) refl

said_again : (c : Command) → IsProper c → said_by (command_spelling c) ≡ Some c
unfolding said_by keyed
said_again (To n) lt = said_short (command_spelling (To n)) (To n) refl refl refl refl refl refl refl refl (ap (option_map To) (number_again n lt))
said_again (Step n) lt = said_short (command_spelling (Step n)) (Step n) refl refl refl refl refl refl refl refl (ap (option_map Step) (number_again n lt))
said_again (Back n) lt = said_short (command_spelling (Back n)) (Back n) refl refl refl refl refl refl refl refl (ap (option_map Back) (number_again n lt))
said_again (Mark n) lt = said_short (command_spelling (Mark n)) (Mark n) refl refl refl refl refl refl refl refl (ap (option_map Mark) (mark_again n lt))
said_again (Vars p) word = said_short (command_spelling (Vars p)) (Vars p) refl refl refl refl refl refl refl refl (ap (option_map Vars) (word_again p word))
said_again (Threads p) word =
    said_short (command_spelling (Threads p)) (Threads p) refl refl refl refl refl refl refl refl (ap (option_map Threads) (word_again p word))
said_again (Fault p) word =
    said_short (command_spelling (Fault p)) (Fault p) refl refl refl refl refl refl refl refl (ap (option_map Fault) (word_again p word))
said_again (Wrote p x) proper =
    said_short (command_spelling (Wrote p x)) (Wrote p x) refl refl refl refl refl refl refl refl
    (ap (option_map (λ (y : IntegerWord). Wrote y.0 y.1)) (integer_again p x proper.0 proper.1))
said_again (Until p a n) proper =
    said_short (command_spelling (Until p a n)) (Until p a n) refl refl refl refl refl refl refl refl (stop_again p a n proper.0 proper.1 proper.2)
said_again Loans proper = refl
said_again Circle proper = refl
said_again Arms proper = refl
said_again Next proper = refl
said_again Prev proper = refl
said_again Help proper = refl
said_again (Who r) word = said_short (command_spelling (Who r)) (Who r) refl refl refl refl refl refl refl refl (ap (option_map Who) (word_again r word))
said_again (Line p a) proper =
    said_short (command_spelling (Line p a)) (Line p a) refl refl refl refl refl refl refl refl
    (ap (option_map (λ (x : ArmWord). Line x.0 x.1)) (arm_again p a proper.0 proper.1))
said_again (Text p a) proper =
    said_short (command_spelling (Text p a)) (Text p a) refl refl refl refl refl refl refl refl
    (ap (option_map (λ (x : ArmWord). Text x.0 x.1)) (arm_again p a proper.0 proper.1))
said_again (Why p a) proper =
    said_short (command_spelling (Why p a)) (Why p a) refl refl refl refl refl refl refl refl
    (ap (option_map (λ (x : ArmWord). Why x.0 x.1)) (arm_again p a proper.0 proper.1))
said_again (Stack p a) proper =
    said_short (command_spelling (Stack p a)) (Stack p a) refl refl refl refl refl refl refl refl
    (ap (option_map (λ (x : ArmWord). Stack x.0 x.1)) (arm_again p a proper.0 proper.1))
said_again (Pick p a) proper =
    said_short (command_spelling (Pick p a)) (Pick p a) refl refl refl refl refl refl refl refl
    (ap (option_map (λ (x : ArmWord). Pick x.0 x.1)) (arm_again p a proper.0 proper.1))
said_again (Does p a) proper =
    said_short (command_spelling (Does p a)) (Does p a) refl refl refl refl refl refl refl refl
    (ap (option_map (λ (x : ArmWord). Does x.0 x.1)) (arm_again p a proper.0 proper.1))

said_once : (line : List ℕ) (c : Command) → IsOneStep line c → said_by line ≡ Some c
unfolding said_by
said_once line c (inl one) = rw (one.0, one.1) refl
said_once line c (inr one) = rw (one.0, one.1) refl

said_so : (line : List ℕ) (c : Command) → SaysSo line c → said_by line ≡ Some c
said_so line c (inl spelled, proper) = subst (λ (l : List ℕ). said_by l ≡ Some c) (sym spelled) (said_again c proper)
said_so line c (inr one, proper) = said_once line c one

in_limits : (line : List ℕ) (c : Command) → command_of line ≡ Some c → (said_by (trimmed line) ≡ Some c) × (length line ≤ 256)
unfolding command_of
in_limits line c h =
    let s = short_line (ltb 256 (length line)) _ c h in
    (s.1, ltb-false 256 (length line) s.0)

within_limits : (line : List ℕ) (c : Command) → length line ≤ 256 → said_by (trimmed line) ≡ Some c → command_of line ≡ Some c
unfolding command_of
within_limits line c short h = let s : ltb 256 (length line) ≡ false = le-ltb 256 (length line) short in rw (s, h) refl

pub commands_by_spelling : CommandsBySpelling
commands_by_spelling line c = (
  λ h. (let l = in_limits line c h in let r = says_what (trimmed line) c l.0 in (r.0, r.1, l.1)),
  λ s. within_limits line c s.2 (said_so (trimmed line) c (s.0, s.1)),
)
