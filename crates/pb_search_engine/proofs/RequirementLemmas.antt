-- Lines that say requirements, and whether these are met.
use Rattle.std.proofs.Common.{◌≡◌, ◌≢◌, ◌+◌, ◌<◌, ◌≤◌, ◌^◌, ℕ, Bool, true, false, ◌||◌, List, [], ◌∷◌, ◌++◌, codes, Option, None, Some}
use Rattle.std.proofs.Common.{append_assoc, get_or, length, map, take, refl, sym, ap, subst, ◌∙◌, arith}
use Rattle.std.specs.Prelude.{ℤ, pos, IfNone, IfSome, MatchOption}
use Rattle.std.specs.Fmt.{decimal, signed_decimal}
use Rattle.std.specs.List.{concat, list_any}
use Rattle.std.proofs.lemmas.Fmt.{digits_decimal, signed_decimal_injective}
use Rattle.std.proofs.lemmas.List.{get_or-map, length-map, take_all, take_more}
use Rattle.std.proofs.lemmas.List.Elements.{All-push}
use Rattle.std.proofs.lemmas.List.Folds.{list_any_at, list_any_more}
use Rattle.pb_base.specs.declared.limits.TheConstants.{MAX_AMOUNT}
use Rattle.pb_code.specs.Limits.{IsSigned, IsUpTo}
use Rattle.pb_code.specs.Whole.{Code}
use Rattle.pb_code.proofs.NumeralLemmas.{own}
use Rattle.pb_picks.specs.PickLines.{IsFirstLine, Lacks}
use Rattle.pb_picks.proofs.PickParts.{behind_line, digits_lack, never_lacks, same_parts}
use Rattle.pb_search_engine.specs.OtherTexts.{other_line}
use Rattle.pb_search_engine.specs.Requirements.{AreMet, IsMet, MayBeClaimed, ReadsRequirements, SpellsRequirement, claim_text, part_text}
use Rattle.pb_search_engine.specs.declared.requirements.Part.{Part}
use Rattle.pb_search_engine.specs.declared.requirements.Part.TheVariants.{Hold, Parbegin}
use Rattle.pb_search_engine.specs.declared.requirements.Requirement.{Requirement}
use Rattle.pb_search_engine.specs.declared.requirements.Requirement.TheVariants.{Claims, Has}
use Rattle.pb_search_engine.proofs.PrintLemmas.{signed_fits}

-- ---- lines

pub one_requirement_more : (text : List ℕ) (before : List Requirement) (rest : List ℕ) (r : Requirement) (line after : List ℕ)
    → ReadsRequirements text before rest → rest ≢ [] → IsFirstLine rest line after → SpellsRequirement line r
    → ReadsRequirements text (before ++ (r ∷ [])) after
one_requirement_more text [] rest r line after reads some first says =
    subst (λ (t : List ℕ). ReadsRequirements t (r ∷ []) after) (sym reads) (some, line, after, first, says, refl)
one_requirement_more text (b ∷ before) rest r line after reads some first says =
    (reads.0, reads.1, reads.2, reads.3, reads.4, one_requirement_more reads.2 before rest r line after reads.5 some first says)

-- what follows the requirements is no longer than all
pub reads_within : (text : List ℕ) (requirements : List Requirement) (rest : List ℕ)
    → ReadsRequirements text requirements rest → length rest ≤ length text
reads_within text [] rest reads = let e = ap (λ (t : List ℕ). length t) reads in omega (arith, e)
reads_within text (r ∷ requirements) rest reads =
    let a = behind_line text reads.1 reads.2 reads.3 in
    let b = reads_within reads.2 requirements rest reads.5 in
    omega (arith, a, b)

-- a line that requires no part and no claim says no requirement
pub says_none : (line : List ℕ) → ((part : Part) → line ≢ part_text part)
    → ((amount : ℕ) (name : List ℕ) → MayBeClaimed amount name → line ≢ codes "claims at least " ++ claim_text amount name)
    → (r : Requirement) → SpellsRequirement line r → ⊥
says_none line parts claims (Claims amount name) says = claims amount name.now says.may says.spelled
says_none line parts claims (Has part) says = parts part says.spelled

pub no_part : (line : List ℕ) → line ≢ part_text Parbegin → line ≢ part_text Hold → (part : Part) → line ≢ part_text part
no_part line a b Parbegin = a
no_part line a b Hold = b

-- ---- amounts

-- a word that is no integer is no amount
pub amount_none : (word : List ℕ) → ((value : ℤ) → IsSigned value → word ≡ signed_decimal value → ⊥)
    → (amount : ℕ) → IsUpTo MAX_AMOUNT amount → word ≢ decimal amount
amount_none word none amount up e = let most : amount ≤ 1000000 = up.1 in none (pos amount) (omega (arith, most)) e

-- an integer that was read is the amount that is written, or none is
pub amount_told : (word : List ℕ) (value given : ℤ) (r : Option ℕ) → IsSigned value → word ≡ signed_decimal value → given ≡ value
    → IfSome r (λ amount. (given ≡ pos amount) × IsUpTo MAX_AMOUNT amount)
    → IfNone r ((amount : ℕ) → IsUpTo MAX_AMOUNT amount → given ≢ pos amount)
    → MatchOption r ((amount : ℕ) → IsUpTo MAX_AMOUNT amount → word ≢ decimal amount)
    (λ amount. IsUpTo MAX_AMOUNT amount × (word ≡ decimal amount))
amount_told word value given None fits is same some none = λ amount up e.
    let most : amount ≤ 1000000 = up.1 in
    let small : amount < 2 ^ 63 = omega (arith, most) in
    none amount up (same ∙ signed_decimal_injective value (pos amount) (signed_fits value fits).sfits small (sym is ∙ e))
amount_told word value given (Some amount) fits is same some none = (some.1, is ∙ ap signed_decimal (sym same ∙ some.0))

-- the amount and the name are what stands before the first space and after it
pub claim_parts : (text word name : List ℕ) (amount : ℕ) (other : List ℕ) → IsUpTo MAX_AMOUNT amount → text ≡ word ++ (32 ∷ name) → Lacks 32 word
    → text ≡ claim_text amount other → (word ≡ decimal amount) × (name ≡ other)
claim_parts text word name amount other up e lacks is =
    let most : amount ≤ 1000000 = up.1 in
    same_parts 32 word name (decimal amount) other lacks (digits_lack 32 refl (decimal amount) (digits_decimal own amount (omega (arith, most)))) (sym e ∙ is)

-- a text without a space requires no claim
pub no_space : (text : List ℕ) → Lacks 32 text → (amount : ℕ) (name : List ℕ) → text ≢ claim_text amount name
no_space text lacks amount name is = never_lacks 32 (decimal amount) name (subst (λ (t : List ℕ). Lacks 32 t) is lacks)

-- the line of a claim that is required and not there
pub lacks_told : (amount : ℕ) (name : List ℕ)
    → concat (codes "not as expected: claims at least " ∷ decimal amount ∷ codes " " ∷ name ∷ codes "\n" ∷ [])
    ≡ other_line (codes "claims at least " ++ claim_text amount name)
lacks_told amount name =
    ap (λ (t : List ℕ). codes "not as expected: claims at least " ++ t) (sym (append_assoc (decimal amount) (32 ∷ name) (10 ∷ [])))

-- ---- requirements that are met

pub met_more : (code : Code) (requirements : List Requirement) (i : ℕ) (d : Requirement) → i < length requirements
    → AreMet code (take i requirements) → IsMet code (get_or requirements i d) → AreMet code (take (i + 1) requirements)
met_more code requirements i d within before one =
    subst (AreMet code) (sym (take_more requirements i d within))
    (All-push (IsMet code) (take i requirements) (get_or requirements i d) before one)

pub met_all : (code : Code) (requirements : List Requirement) (i : ℕ) → length requirements ≤ i → AreMet code (take i requirements)
    → AreMet code requirements
met_all code requirements i end before = subst (AreMet code) (take_all i requirements end) before

-- ---- elements that pass a test

module _ {A B : Type 0} (test : B → Bool) (view : A → B) (xs : List A) (i : ℕ) where
  -- none so far, and not the next
  pub none_more : (x : A) → i < length xs → x ≡ get_or xs i x → list_any test (take i (map view xs)) ≡ false → test (view x) ≡ false
      → list_any test (take (i + 1) (map view xs)) ≡ false
  none_more x within at before one =
      let views = map view xs in
      let size = length-map xs view in
      let there = get_or-map view xs i x (view x) within ∙ ap view (sym at) in
      list_any_more test views i (view x) (omega (arith, within, size))
      ∙ (ap (λ (b : Bool). b || test (get_or views i (view x))) before ∙ (ap test there ∙ one))

  -- none up to the end
  pub none_there : length xs ≤ i → list_any test (take i (map view xs)) ≡ false → list_any test (map view xs) ≡ false
  none_there end before =
      let size = length-map xs view in
      subst (λ (l : List B). list_any test l ≡ false) (take_all i (map view xs) (omega (arith, end, size))) before

  -- this one
  pub some_there : (x : A) → i < length xs → x ≡ get_or xs i x → test (view x) ≡ true → list_any test (map view xs) ≡ true
  some_there x within at one =
      let size = length-map xs view in
      let there = get_or-map view xs i x (view x) within ∙ ap view (sym at) in
      list_any_at test (map view xs) i (view x) (omega (arith, within, size)) (ap test there ∙ one)
