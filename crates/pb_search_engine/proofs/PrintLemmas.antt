-- The parts of a print line, and one more line that is read.
use Rattle.std.proofs.Common.{◌≡◌, ◌≢◌, ◌<◌, ℕ, List, [], ◌∷◌, ◌++◌, append_assoc, codes, Option, None, Some, refl, sym, ap, subst, ◌∙◌}
use Rattle.std.proofs.Common.{w64, SFits}
use Rattle.std.specs.Prelude.{ℤ, pos, negsuc, MatchOption, Result, Ok}
use Rattle.std.specs.Fmt.{decimal, signed_decimal}
use Rattle.std.specs.Str.{IsUtf8}
use Rattle.std.specs.Str.Parse.{ParsesSigned}
use Rattle.std.proofs.lemmas.Fmt.{IsAscii-signed, parse-signed_decimal}
use Rattle.std.proofs.lemmas.Str.{IsUtf8-from_ascii}
use Rattle.std.proofs.lemmas.List.{append_cancel_left}
use Rattle.pb_code.specs.Limits.{IsSigned}
use Rattle.pb_code.specs.Whole.{Code}
use Rattle.pb_picks.specs.PickLines.{IsFirstLine}
use Rattle.pb_search_engine.specs.OutcomeLines.{arm_print_text, process_print_text}
use Rattle.pb_search_engine.specs.PrintLines.{ReadsPrints, SpellsPrint}
use Rattle.pb_search_stages.specs.declared.print.Print.{Print}

pub one_print_more : (code : Code) (text : List ℕ) (before : List Print) (rest : List ℕ) (p : Print) (line after : List ℕ)
    → ReadsPrints code text before rest → rest ≢ [] → IsFirstLine rest line after → SpellsPrint code line p
    → ReadsPrints code text (before ++ (p ∷ [])) after
one_print_more code text [] rest p line after reads some first says =
    subst (λ (t : List ℕ). ReadsPrints code t (p ∷ []) after) (sym reads) (some, line, after, first, says, refl)
one_print_more code text (b ∷ before) rest p line after reads some first says =
    (reads.0, reads.1, reads.2, reads.3, reads.4, one_print_more code reads.2 before rest p line after reads.5 some first says)

-- an integer of 64 bits
pub signed_fits : (z : ℤ) → IsSigned z → SFits w64 z
signed_fits (pos n) h = record { sfits = h }
signed_fits (negsuc n) h = record { sfits = h }

pub fits_signed : (z : ℤ) → SFits w64 z → IsSigned z
fits_signed (pos n) h = h.sfits
fits_signed (negsuc n) h = h.sfits

pub signed_utf8 : (z : ℤ) → IsSigned z → IsUtf8 (signed_decimal z)
signed_utf8 z h = IsUtf8-from_ascii (signed_decimal z) (IsAscii-signed z (signed_fits z h).sfits)

-- what was written is read again
pub read_again : {E : Type 0} (word : List ℕ) (r : Result ℤ E) (z : ℤ) → IsSigned z → word ≡ signed_decimal z → ParsesSigned w64 10 word r
    → r ≡ Ok z
read_again word r z h e p = parse-signed_decimal w64 z word r (signed_fits z h) (signed_fits z h).sfits e p

-- what follows the same bytes is one thing
pub same_behind : (text start a b : List ℕ) → text ≡ start ++ a → text ≡ start ++ b → a ≡ b
same_behind text start a b e f = append_cancel_left start a b (sym e ∙ f)

-- what follows the point and the arm
pub arm_parts : (text arm_text rest more : List ℕ) (arm : ℕ) (value : ℤ) → text ≡ 46 ∷ rest → rest ≡ arm_text ++ more
    → arm_text ≡ decimal arm → text ≡ arm_print_text arm value → more ≡ codes " print " ++ signed_decimal value
arm_parts text arm_text rest more arm value point parts is whole =
    let both : 46 ∷ rest ≡ arm_print_text arm value = sym point ∙ whole in
    let behind : rest ≡ (decimal arm ++ codes " print ") ++ signed_decimal value = cc in
    same_behind rest (decimal arm) more (codes " print " ++ signed_decimal value)
    (parts ∙ ap (λ (t : List ℕ). t ++ more) is) (behind ∙ append_assoc (decimal arm) (codes " print ") (signed_decimal value))

arm_whole : (text arm_text rest more last : List ℕ) (arm : ℕ) (value : ℤ) → text ≡ 46 ∷ rest → rest ≡ arm_text ++ more
    → arm_text ≡ decimal arm → more ≡ codes " print " ++ last → last ≡ signed_decimal value → text ≡ arm_print_text arm value
arm_whole text arm_text rest more last arm value point parts is word same =
    point ∙ ap (λ (t : List ℕ). 46 ∷ t) (parts ∙ (ap (λ (t : List ℕ). t ++ more) is
    ∙ (ap (λ (t : List ℕ). decimal arm ++ t) (word ∙ ap (λ (t : List ℕ). codes " print " ++ t) same)
    ∙ sym (append_assoc (decimal arm) (codes " print ") (signed_decimal value)))))

-- the value after the word is that of the whole
pub value_told : (text arm_text rest more last : List ℕ) (arm : ℕ) (r : Option ℤ) → text ≡ 46 ∷ rest → rest ≡ arm_text ++ more
    → arm_text ≡ decimal arm → more ≡ codes " print " ++ last
    → MatchOption r ((value : ℤ) → IsSigned value → last ≡ signed_decimal value → ⊥) (λ value. IsSigned value × (last ≡ signed_decimal value))
    → MatchOption r ((value : ℤ) → IsSigned value → text ≡ arm_print_text arm value → ⊥) (λ value. IsSigned value × (text ≡ arm_print_text arm value))
value_told text arm_text rest more last arm None point parts is word told = λ value fits whole.
    told value fits (same_behind more (codes " print ") last (signed_decimal value) word (arm_parts text arm_text rest more arm value point parts is whole))
value_told text arm_text rest more last arm (Some value) point parts is word told =
    (told.0, arm_whole text arm_text rest more last arm value point parts is word told.1)

-- and the arm and the value after the name of a process
pub process_told : (line name rest : List ℕ) (arms : ℕ) (r : Option (ℕ × ℤ)) → line ≡ name ++ rest
    → MatchOption r ((arm : ℕ) (value : ℤ) → arm < arms → IsSigned value → rest ≡ arm_print_text arm value → ⊥)
    (λ x. (x.0 < arms) × IsSigned x.1 × (rest ≡ arm_print_text x.0 x.1))
    → MatchOption r ((arm : ℕ) (value : ℤ) → arm < arms → IsSigned value → line ≡ process_print_text name arm value → ⊥)
    (λ x. (x.0 < arms) × IsSigned x.1 × (line ≡ process_print_text name x.0 x.1))
process_told line name rest arms None parts told = λ arm value within fits whole.
    told arm value within fits (same_behind line name rest (arm_print_text arm value) parts whole)
process_told line name rest arms (Some x) parts told =
    (told.0, told.1, parts ∙ ap (λ (t : List ℕ). name ++ t) told.2)
