-- Lines that are told each by itself.
use Rattle.std.proofs.Common.{◌≡◌, ℕ, zero, suc, ◌+◌, ◌-◌, ◌<◌, ◌≤◌, eqb, Bool, true, false, not, cond, ◌&&◌, List, [], ◌∷◌, ◌++◌, length}
use Rattle.std.proofs.Common.{take, drop, Some, None, refl, sym, ap, ◌∙◌, subst, arith, append_assoc, append-nil}
use Rattle.std.proofs.Math.Seq.{take-add}
use Rattle.std.proofs.lemmas.Bool.{ltb-true}
use Rattle.std.proofs.lemmas.List.{length-drop}
use Rattle.std.specs.Prelude.{nat_lt}
use Rattle.std.specs.List.{find, list_all, position, position_or_len}
use Rattle.pb_base.proofs.Cases.{both_true}
use Rattle.pb_base.specs.Lines.{line}
use Rattle.pb_json_lines.specs.Dialects.{comes_live}
use Rattle.pb_json_lines.specs.Forms.{first_of, form_of, forms_of, or_else, other_of}
use Rattle.pb_json_lines.specs.JsonLines.{is_inner, is_opening, is_part, json_lines, lines_of, object_of, objects, onto, opens}
use Rattle.pb_json_lines.specs.Live.{EndsLine, lines_alone, told_alone}
use Rattle.pb_json_lines.specs.Patterns.{fits}
use Rattle.pb_json_lines.specs.PlainForms.{PlainForm}
use Rattle.pb_json_lines.specs.SessionForms.{bank_forms, debug_forms}
use Rattle.pb_json_lines.specs.declared.form.Dialect.{Dialect}
use Rattle.pb_json_lines.specs.declared.form.Dialect.TheVariants.{Program, Record, Debug, Bank, Explain}

-- ---- objects of lines

pub lines_alone-append : (dialect : Dialect) (xs ys : List (List ℕ)) → lines_alone dialect (xs ++ ys) ≡ lines_alone dialect xs ++ lines_alone dialect ys
lines_alone-append dialect [] ys = refl
lines_alone-append dialect (x ∷ xs) ys =
    ap (λ t. line (object_of dialect false x) ++ t) (lines_alone-append dialect xs ys)
    ∙ sym (append_assoc (line (object_of dialect false x)) (lines_alone dialect xs) (lines_alone dialect ys))

-- ---- a line that has ended, and what is behind it

abbrev before_feed : List ℕ → ℕ
before_feed bs = position_or_len (λ b. eqb b 10) bs

cut_first : (b : ℕ) (bs more : List ℕ) (t : Bool) (n : ℕ)
    → ((m : ℕ) → before_feed bs ≡ m → m < length bs → lines_of (take (suc m) bs ++ more) ≡ take m bs ∷ lines_of more)
    → cond (not t) (1 + before_feed bs) 0 ≡ n → n < length (b ∷ bs)
    → cond t ([] ∷ lines_of (take n bs ++ more)) (onto b (lines_of (take n bs ++ more))) ≡ take n (b ∷ bs) ∷ lines_of more
cut_first b bs more true n later is lt =
    subst (λ (k : ℕ). ([] ∷ lines_of (take k bs ++ more)) ≡ take k (b ∷ bs) ∷ lines_of more) is refl
cut_first b bs more false zero later is lt = absurd (omega (arith, is))
cut_first b bs more false (suc m) later is lt = ap (onto b) (later m (omega (arith, is)) (omega (arith, lt)))

cut_at : (xs more : List ℕ) (n : ℕ) → before_feed xs ≡ n → n < length xs
    → lines_of (take (suc n) xs ++ more) ≡ take n xs ∷ lines_of more
cut_at [] more n is lt = absurd (omega (arith, lt))
cut_at (b ∷ bs) more n is lt = cut_first b bs more (eqb b 10) n (cut_at bs more) is lt

found_at : (n at : ℕ) (t : Bool) → Some at ≡ cond t (Some n) None → (n ≡ at) × (t ≡ true)
found_at n at true h = (cc, refl)
found_at n at false h = absurd cc

-- the first line of a text that has a line feed, whatever is after it
pub cut_ended : (text more : List ℕ) (at : ℕ) → Some at ≡ position (λ b. eqb b 10) text
    → lines_of (take (suc at) text ++ more) ≡ take at text ∷ lines_of more
cut_ended text more at found =
    let both = found_at (before_feed text) at (nat_lt (before_feed text) (length text)) found in
    let less = ltb-true (before_feed text) (length text) both.1 in
    cut_at text more at both.0 (omega (arith, less, both.0))

pub ends_none : EndsLine []
ends_none more = refl

-- one more line that has ended
module _ (front text : List ℕ) (at : ℕ) (ended : EndsLine front) (found : Some at ≡ position (λ b. eqb b 10) text) where
  abbrev first : List ℕ
  first = take (suc at) text

  one_line : lines_of first ≡ take at text ∷ []
  one_line = ap lines_of (sym (append-nil first)) ∙ cut_ended text [] at found

  pub ends_more : EndsLine (front ++ first)
  ends_more more =
      ap lines_of (append_assoc front first more)
      ∙ (ended (first ++ more)
      ∙ (ap (λ ls. lines_of front ++ ls) (cut_ended text more at found)
      ∙ (sym (append_assoc (lines_of front) (take at text ∷ []) (lines_of more))
      ∙ ap (λ (ls : List (List ℕ)). ls ++ lines_of more) (ap (λ ls. lines_of front ++ ls) (sym one_line) ∙ sym (ended first)))))

  pub told_more : (dialect : Dialect) → told_alone dialect (front ++ first) ≡ told_alone dialect front ++ line (object_of dialect false (take at text))
  unfolding told_alone
  told_more dialect =
      ap (lines_alone dialect) (ended first ∙ ap (λ ls. lines_of front ++ ls) one_line)
      ∙ (lines_alone-append dialect (lines_of front) (take at text ∷ [])
      ∙ ap (λ t. lines_alone dialect (lines_of front) ++ t) (append-nil (line (object_of dialect false (take at text)))))

-- the lines of a text that have ended, told one by one
module _ (dialect : Dialect) (text before : List ℕ) where
  pub told_none : before ≡ before ++ told_alone dialect []
  unfolding told_alone
  told_none = sym (append-nil before)

  pub told_next : (count at : ℕ) (rest out more : List ℕ) → rest ≡ drop count text → count ≤ length text → EndsLine (take count text)
      → out ≡ before ++ told_alone dialect (take count text) → at < length rest → Some at ≡ position (λ b. eqb b 10) rest
      → more ≡ out ++ line (object_of dialect false (take at rest))
      → (count + (at + 1) ≤ length text) × EndsLine (take (count + (at + 1)) text)
      × (more ≡ before ++ told_alone dialect (take (count + (at + 1)) text))
  told_next count at rest out more same within ended told less found next =
      let one : at + 1 ≡ suc at = omega arith in
      let front = take count text in
      let joined : take (count + (at + 1)) text ≡ front ++ take (suc at) rest =
      take-add count (at + 1) text ∙ ap (λ t. front ++ t) (ap (λ k. take k (drop count text)) one ∙ ap (take (suc at)) (sym same)) in
      let long : length rest ≡ length text - count = ap length same ∙ length-drop count text in (
        omega (arith, within, less, long),
        subst EndsLine (sym joined) (ends_more front rest at ended found),
        next
            ∙ (ap (λ t. t ++ line (object_of dialect false (take at rest))) told
            ∙ (append_assoc before (told_alone dialect front) (line (object_of dialect false (take at rest)))
            ∙ ap (λ t. before ++ t) (sym (told_more front rest at ended found dialect) ∙ ap (told_alone dialect) (sym joined)))),
      )

-- a text after one that ends with a line
pub told_both : (dialect : Dialect) (front rest : List ℕ) → EndsLine front
    → told_alone dialect (front ++ rest) ≡ told_alone dialect front ++ told_alone dialect rest
unfolding told_alone
told_both dialect front rest ended = ap (lines_alone dialect) (ended rest) ∙ lines_alone-append dialect (lines_of front) (lines_of rest)

-- ---- the lines of `debug` and of `bank` are told no other way

abbrev stands_alone : PlainForm → Bool
stands_alone f = not (is_opening f.section) && not (is_inner f.section)

first_or_later : (text : List ℕ) (f : PlainForm) (fs : List PlainForm) (otherwise : PlainForm) (t : Bool)
    → stands_alone f ≡ true → stands_alone (first_of fs otherwise text) ≡ true
    → stands_alone (or_else otherwise (cond t (Some f) (find (λ g. fits g.pattern text) fs))) ≡ true
first_or_later text f fs otherwise true here later = here
first_or_later text f fs otherwise false here later = later

first_alone : (text : List ℕ) (fs : List PlainForm) (otherwise : PlainForm) → list_all stands_alone fs ≡ true
    → stands_alone otherwise ≡ true → stands_alone (first_of fs otherwise text) ≡ true
first_alone text [] otherwise all one = one
first_alone text (f ∷ fs) otherwise all one =
    let both = both_true (stands_alone f) (list_all stands_alone fs) all in
    first_or_later text f fs otherwise (fits f.pattern text) both.0 (first_alone text fs otherwise both.1 one)

not_true : (t : Bool) → not t ≡ true → t ≡ false
not_true true h = absurd cc
not_true false h = refl

-- each form of a dialect whose lines come live stands alone
forms_alone : (dialect : Dialect) → comes_live dialect ≡ true
    → (list_all stands_alone (forms_of dialect) ≡ true) × (stands_alone (other_of dialect) ≡ true)
unfolding debug_forms bank_forms
forms_alone Program live = absurd cc
forms_alone Record live = absurd cc
forms_alone Debug live = (refl, refl)
forms_alone Bank live = (refl, refl)
forms_alone Explain live = absurd cc

module _ (dialect : Dialect) (live : comes_live dialect ≡ true) where
  alone : (text : List ℕ) → stands_alone (form_of dialect false text) ≡ true
  unfolding form_of
  alone text = let forms = forms_alone dialect live in first_alone text (forms_of dialect) (other_of dialect) forms.0 forms.1

  no_opening : (text : List ℕ) → opens dialect false text ≡ false
  no_opening text =
      let f = form_of dialect false text in not_true (is_opening f.section) (both_true (not (is_opening f.section)) (not (is_inner f.section)) (alone text)).0

  no_part : (text : List ℕ) → is_part dialect false text ≡ false
  no_part text =
      let f = form_of dialect false text in not_true (is_inner f.section) (both_true (not (is_opening f.section)) (not (is_inner f.section)) (alone text)).1

  objects_alone : (lines : List (List ℕ)) → objects dialect false lines ≡ lines_alone dialect lines
  objects_alone [] = refl
  objects_alone (text ∷ lines) = rw (no_opening text, no_part text, objects_alone lines) refl

  pub told_as_ever : (text : List ℕ) → told_alone dialect text ≡ json_lines dialect text
  unfolding told_alone json_lines
  told_as_ever text = sym (objects_alone (lines_of text))
