-- Lines that are written from picks, and what a text can say.
use Rattle.std.proofs.Common.{◌≡◌, ◌≢◌, ℕ, suc, ◌<◌, ◌≤◌, true, false, inl, inr, List, [], ◌∷◌, ◌++◌, length, refl}
use Rattle.std.proofs.Common.{sym, ap, subst, ◌∙◌, ◌+◌, append_assoc, arith}
use Rattle.std.specs.Prelude.{AllPairs, slice_index}
use Rattle.std.specs.Char.{is_ascii_digit}
use Rattle.std.specs.Fmt.{decimal}
use Rattle.std.proofs.lemmas.Bool.{cases_lt}
use Rattle.std.proofs.lemmas.Fmt.{decimal_injective, digits_decimal}
use Rattle.std.proofs.lemmas.List.{length-append}
use Rattle.std.proofs.lemmas.List.Elements.{All-cons, All-head, All-nil, All-tail}
use Rattle.std.proofs.lemmas.Option.{slice_get_within}
use Rattle.pb_base.specs.declared.pick.Pick.{Pick}
use Rattle.pb_base.specs.Lines.{name_of}
use Rattle.pb_code.specs.Limits.{IsName, KeepsLimits}
use Rattle.pb_code.specs.Names.{is_name_byte}
use Rattle.pb_code.specs.Whole.{Code}
use Rattle.pb_history.specs.Replays.{spread}
use Rattle.pb_history.specs.declared.counted.CountedPick.{CountedPick}
use Rattle.pb_history.proofs.CountedPicks.{spread_append}
use Rattle.pb_picks.specs.Laws.{CanBeSaid, LinesSpell, SpellsAtMostOne, SpelledIsNotFaulty}
use Rattle.pb_picks.specs.PickLines.{IsFirstLine, Lacks, ReadsPicks, SpellsPick, arm_and_count, pick_line, pick_lines}
use Rattle.pb_picks.specs.declared.fault.PickFault.TheVariants.{NotPicks, TooMany, NoMemory}
use Rattle.pb_picks.proofs.PickParts.{digits_lack, never_lacks, one_count_more, same_parts}
use Rattle.pb_code.proofs.NumeralLemmas.{own}

-- ---- bytes that a name, a number and a line lack

name_lacks : (m : ℕ) → is_name_byte m ≡ false → (bs : List ℕ) → ((k : ℕ) → k < length bs → is_name_byte (slice_index bs k) ≡ true) → Lacks m bs
name_lacks m other [] h = All-nil (λ (n : ℕ). n ≢ m)
name_lacks m other (b ∷ bs) h =
    All-cons (λ (n : ℕ). n ≢ m) b bs
    (λ e. let t : is_name_byte m ≡ true = subst (λ (x : ℕ). is_name_byte x ≡ true) e (h 0 (omega arith)) in cc)
    (name_lacks m other bs (λ k lt. h (suc k) (omega (arith, lt))))

lacks_both : (m : ℕ) (a b : List ℕ) → Lacks m a → Lacks m b → Lacks m (a ++ b)
lacks_both m [] b la lb = lb
lacks_both m (x ∷ a) b la lb =
    All-cons (λ (n : ℕ). n ≢ m) x (a ++ b) (All-head (λ (n : ℕ). n ≢ m) x a la) (lacks_both m a b (All-tail (λ (n : ℕ). n ≢ m) x a la) lb)

says_name : (code : Code) (line : List ℕ) (c : CountedPick) → KeepsLimits code → SpellsPick code line c → IsName (name_of code.names.processes c.pick.process)
says_name code line c limits says =
    let w = slice_get_within code.processes c.pick.process says.process says.there in
    let n = limits.process_names.all in
    limits.process_names.formed c.pick.process [] (omega (arith, w, n))

name_lacks_mark : (code : Code) (line : List ℕ) (c : CountedPick) (m : ℕ) → is_name_byte m ≡ false → KeepsLimits code → SpellsPick code line c
    → Lacks m (name_of code.names.processes c.pick.process)
name_lacks_mark code line c m other limits says =
    name_lacks m other (name_of code.names.processes c.pick.process) (says_name code line c limits says).bytes

says_arm : (code : Code) (line : List ℕ) (c : CountedPick) → KeepsLimits code → SpellsPick code line c → c.pick.arm ≤ 10000000
says_arm code line c limits says =
    let most = (limits.each c.pick.process says.process says.there).some_arms.1 in
    let arm = says.arm in
    omega (arith, most, arm)

number_lacks : (m n : ℕ) → is_ascii_digit m ≡ false → n ≤ 10000000 → Lacks m (decimal n)
number_lacks m n other few = digits_lack m other (decimal n) (digits_decimal own n (omega arith))

line_lacks : (code : Code) (line : List ℕ) (c : CountedPick) → KeepsLimits code → SpellsPick code line c → Lacks 10 (pick_line code.names.processes c)
line_lacks code line c limits says =
    let counted = All-cons (λ (n : ℕ). n ≢ 10) 32 (decimal c.count) (λ e. absurd (omega (arith, e))) (number_lacks 10 c.count refl says.most) in
    let numbers = lacks_both 10 (decimal c.pick.arm) (32 ∷ decimal c.count) (number_lacks 10 c.pick.arm refl (says_arm code line c limits says)) counted in
    lacks_both 10 (name_of code.names.processes c.pick.process) (46 ∷ arm_and_count c.pick.arm c.count)
    (name_lacks_mark code line c 10 refl limits says)
    (All-cons (λ (n : ℕ). n ≢ 10) 46 (arm_and_count c.pick.arm c.count) (λ e. absurd (omega (arith, e))) numbers)

-- ---- lines that are written

not_empty : (xs : List ℕ) (b : ℕ) (ys : List ℕ) → xs ++ (b ∷ ys) ≢ []
not_empty xs b ys e =
    let l = ap (λ (t : List ℕ). length t) e in
    let a = length-append xs (b ∷ ys) in
    omega (arith, l, a)

reads_written : (code : Code) (picks : List CountedPick) → KeepsLimits code → CanBeSaid code picks
    → ReadsPicks code (pick_lines code.names.processes picks) picks []
reads_written code [] limits all = refl
reads_written code (c ∷ picks) limits all =
    let names = code.names.processes in
    let says = All-head (λ (d : CountedPick). SpellsPick code (pick_line names d) d) c picks all in (
      not_empty (pick_line names c) 10 (pick_lines names picks),
      pick_line names c,
      pick_lines names picks,
      (line_lacks code (pick_line names c) c limits says, inl refl),
      says,
      reads_written code picks limits (All-tail (λ (d : CountedPick). SpellsPick code (pick_line names d) d) c picks all),
    )

pub lines_spell : LinesSpell
lines_spell code picks limits all few = record {
  reads = reads_written code picks limits all;
  few = few;
}

-- one more line, after the others
pub one_line_written : (names : List (List ℕ)) (picks : List CountedPick) (c : CountedPick)
    → pick_lines names (picks ++ c ∷ []) ≡ pick_lines names picks ++ (pick_line names c ++ (10 ∷ []))
one_line_written names [] c = refl
one_line_written names (d ∷ picks) c =
    ap (λ (t : List ℕ). pick_line names d ++ (10 ∷ t)) (one_line_written names picks c)
    ∙ sym (append_assoc (pick_line names d) (10 ∷ pick_lines names picks) (pick_line names c ++ (10 ∷ [])))

-- ---- a text says one thing

same_first : (text a x b y : List ℕ) → IsFirstLine text a x → IsFirstLine text b y → (a ≡ b) × (x ≡ y)
same_first text a x b y first second = elim first.1 [
  | inl e ↦ elim second.1 [
    | inl f ↦ same_parts 10 a x b y first.0 second.0 (sym e ∙ f)
    | inr f ↦ absurd (never_lacks 10 a x (subst (λ (t : List ℕ). Lacks 10 t) (sym f.0 ∙ e) second.0))
  ]
  | inr e ↦ elim second.1 [
    | inl f ↦ absurd (never_lacks 10 b y (subst (λ (t : List ℕ). Lacks 10 t) (sym e.0 ∙ f) first.0))
    | inr f ↦ (sym e.0 ∙ f.0, e.1 ∙ sym f.1)
  ]
]

same_counted : (c d : CountedPick) → c.pick.process ≡ d.pick.process → c.pick.arm ≡ d.pick.arm → c.count ≡ d.count → c ≡ d
same_counted c d process arm count =
    let picked : ℕ → CountedPick = λ p. record { pick = record { process = p; arm = c.pick.arm }; count = c.count } in
    let armed : ℕ → CountedPick = λ a. record { pick = record { process = d.pick.process; arm = a }; count = c.count } in
    let counted : ℕ → CountedPick = λ n. record { pick = d.pick; count = n } in
    ap picked process ∙ (ap armed arm ∙ ap counted count)

-- names that differ from one another are of one number if they are the same
same_place : (names : List (List ℕ)) (p q : ℕ) → AllPairs (λ a b. a ≢ b) names → p < length names → q < length names
    → name_of names p ≡ name_of names q → p ≡ q
same_place names p q apart inp inq same = elim (cases_lt p q) [
  | inl lt ↦ absurd (apart p q [] lt inq same)
  | inr le ↦ elim (cases_lt q p) [
    | inl gt ↦ absurd (apart q p [] gt inp (sym same))
    | inr ge ↦ omega (arith, le, ge)
  ]
]

same_says : (code : Code) (line : List ℕ) (c d : CountedPick) → KeepsLimits code → SpellsPick code line c → SpellsPick code line d → c ≡ d
same_says code line c d limits s t =
    let names = code.names.processes in
    let parts = same_parts 46 (name_of names c.pick.process) (arm_and_count c.pick.arm c.count) (name_of names
    d.pick.process) (arm_and_count d.pick.arm d.count)
    (name_lacks_mark code line c 46 refl limits s) (name_lacks_mark code line d 46 refl limits t) (sym s.spelled ∙ t.spelled) in
    let few_c = says_arm code line c limits s in
    let few_d = says_arm code line d limits t in
    let numbers = same_parts 32 (decimal c.pick.arm) (decimal c.count) (decimal d.pick.arm) (decimal d.count)
    (number_lacks 32 c.pick.arm refl few_c) (number_lacks 32 d.pick.arm refl few_d) parts.1 in
    let inc = slice_get_within code.processes c.pick.process s.process s.there in
    let ind = slice_get_within code.processes d.pick.process t.process t.there in
    let all = limits.process_names.all in
    let most_c = s.most in
    let most_d = t.most in
    same_counted c d
    (same_place names c.pick.process d.pick.process limits.process_names.apart (omega (arith, inc, all)) (omega (arith, ind, all)) parts.0)
    (decimal_injective c.pick.arm d.pick.arm (omega (arith, few_c)) (omega (arith, few_d)) numbers.0)
    (decimal_injective c.count d.count (omega (arith, most_c)) (omega (arith, most_d)) numbers.1)

-- the first line of a text says one pick, and one rest is after it
same_line : (code : Code) (text a x b y : List ℕ) (c d : CountedPick) → KeepsLimits code → IsFirstLine text a x → SpellsPick code a c
    → IsFirstLine text b y → SpellsPick code b d → (c ≡ d) × (x ≡ y)
same_line code text a x b y c d limits first s second t =
    let same = same_first text a x b y first second in
    (same_says code b c d limits (subst (λ (l : List ℕ). SpellsPick code l c) same.0 s) t, same.1)

same_lists : (code : Code) (text : List ℕ) (a b : List CountedPick) → KeepsLimits code → ReadsPicks code text a [] → ReadsPicks code text b [] → a ≡ b
same_lists code text [] [] limits r s = refl
same_lists code text [] (d ∷ b) limits r s = absurd (s.0 r)
same_lists code text (c ∷ a) [] limits r s = absurd (r.0 s)
same_lists code text (c ∷ a) (d ∷ b) limits r s =
    let same = same_line code text r.1 r.2 s.1 s.2 c d limits r.3 r.4 s.3 s.4 in
    let rest = same_lists code s.2 a b limits (subst (λ (t : List ℕ). ReadsPicks code t a []) same.1 r.5) s.5 in
    ap (λ (e : CountedPick). e ∷ a) same.0 ∙ ap (λ es. d ∷ es) rest

pub spells_at_most_one : SpellsAtMostOne
spells_at_most_one code text a b limits x y = same_lists code text a b limits x.reads y.reads

-- ---- no line is faulty

-- if some lines of a text that says picks have been read, the next says the next pick
pub record Goes (code : Code) (picks before : List CountedPick) (rest : List ℕ) : Type 0 where
  pub next : CountedPick
  pub more : List CountedPick
  pub line : List ℕ
  pub after : List ℕ
  pub whole : picks ≡ before ++ (next ∷ more)
  pub first : IsFirstLine rest line after
  pub says : SpellsPick code line next

goes_on : (code : Code) (text : List ℕ) (picks before : List CountedPick) (rest : List ℕ) → KeepsLimits code → ReadsPicks code text before rest → rest ≢ []
    → ReadsPicks code text picks [] → Goes code picks before rest
goes_on code text [] [] rest limits r some s = absurd (some (sym r ∙ s))
goes_on code text [] (b ∷ before) rest limits r some s = absurd (r.0 s)
goes_on code text (c ∷ picks) [] rest limits r some s = record {
  next = c;
  more = picks;
  line = s.1;
  after = s.2;
  whole = refl;
  first = subst (λ (t : List ℕ). IsFirstLine t s.1 s.2) r s.3;
  says = s.4;
}
goes_on code text (c ∷ picks) (b ∷ before) rest limits r some s =
    let same = same_line code text r.1 r.2 s.1 s.2 b c limits r.3 r.4 s.3 s.4 in
    let on = goes_on code s.2 picks before rest limits (subst (λ (t : List ℕ). ReadsPicks code t before rest) same.1 r.5) some s.5 in record {
      next = on.next;
      more = on.more;
      line = on.line;
      after = on.after;
      whole = ap (λ (d : CountedPick). d ∷ picks) (sym same.0) ∙ ap (λ ds. b ∷ ds) on.whole;
      first = on.first;
      says = on.says;
    }

count_within : (before more : List CountedPick) (c : CountedPick) → length (spread before) + c.count ≤ length (spread (before ++ (c ∷ more)))
count_within before more c =
    let one = one_count_more before c in
    let all = ap (λ (ps : List Pick). length ps) (spread_append (before ++ (c ∷ [])) more) in
    let sum = length-append (spread (before ++ (c ∷ []))) (spread more) in
    let same = ap (λ (cs : List CountedPick). length (spread cs)) (append_assoc before (c ∷ []) more) in
    omega (arith, one, all, sum, same)

pub spelled_is_not_faulty : SpelledIsNotFaulty
spelled_is_not_faulty code text picks (NotPicks at) limits spells (before, line, rest, stands, place, none) =
    let on = goes_on code text picks before rest limits stands.reads stands.some spells.reads in
    let same = same_first rest on.line on.after line stands.after on.first stands.first in
    absurd (none on.next (subst (λ (l : List ℕ). SpellsPick code l on.next) same.0 on.says))
spelled_is_not_faulty code text picks TooMany limits spells (before, line, rest, stands, c, says, many) =
    let on = goes_on code text picks before rest limits stands.reads stands.some spells.reads in
    let same = same_line code rest on.line on.after line stands.after on.next c limits on.first on.says stands.first says in
    let within = count_within before on.more on.next in
    let whole = ap (λ (cs : List CountedPick). length (spread cs)) on.whole in
    let few = spells.few in
    let count = ap (λ (d : CountedPick). d.count) same.0 in
    absurd (omega (arith, many, within, whole, few, count))
spelled_is_not_faulty code text picks NoMemory limits spells faulty = refl
