-- The offset that a refusal names is where the text stops being the beginning of an object.
use Rattle.std.proofs.Common.{◌≡◌, inl, inr, ℕ, ◌-◌, ◌≤◌, Bool, true, false, cond, eqb, ltb, List, [], ◌∷◌, ◌++◌}
use Rattle.std.proofs.Common.{length, Result, Ok, Err, refl, sym, ap, subst, ◌∙◌, append_assoc, arith}
use Rattle.std.proofs.lemmas.Bool.{ltb-true, ltb-false}
use Rattle.std.proofs.lemmas.List.{append-nil, length-append}
use Rattle.pb_object.specs.declared.fault.Fault.{Fault}
use Rattle.pb_object.specs.declared.fault.Fault.TheVariants.{Malformed, Beyond}
use Rattle.pb_object.specs.declared.fault.ObjectFault.{ObjectFault}
use Rattle.pb_object.specs.declared.fault.ObjectFault.TheVariants.{NotObject, Limit, NoMemory}
use Rattle.pb_object.specs.Answers.{AnswersRows}
use Rattle.pb_object.specs.FaultPlaces.{BeginsObject, IsFaultPlace, IsOutOfRange, IsPlaced}
use Rattle.pb_object.specs.Objects.{Object, object_spelling}
use Rattle.pb_object.specs.Ranges.{IsObject}
use Rattle.pb_object.specs.Reading.{object_at, all_of, placed, answer_of}
use Rattle.pb_object.proofs.LineLemmas.{ok_is}
use Rattle.pb_object.proofs.ObjectLaws.{object_part}
use Rattle.pb_object.proofs.ExactReaders.{left_of, not_err, fault, err_same, bind_err, same_ends}
use Rattle.pb_object.proofs.ObjectExact.{object_both}

-- an object alone is read whole
read_whole : (o : Object) (text : List ℕ) → IsObject o → text ≡ object_spelling o → object_at text ≡ Ok (o, [])
read_whole o text good is = ap object_at (is ∙ sym (append-nil (object_spelling o))) ∙ object_part.again o [] good

-- nothing is refused in an object
never : (o : Object) (text : List ℕ) (g : Fault) → IsObject o → text ≡ object_spelling o → object_at text ≡ Err g → ⊥
never o text g good is e = not_err {A = Object × List ℕ} (o, []) g (sym (read_whole o text good is) ∙ e)

-- an object begins with these bytes
read_on : (lines line : List ℕ) → BeginsObject (lines ++ (line ++ 10 ∷ []))
    → (o : Object) × (more : List ℕ) × IsObject o × (lines ++ (line ++ 10 ∷ more) ≡ object_spelling o)
read_on lines line b = (
  b.0,
  b.1,
  b.2,
  ap (λ (t : List ℕ). lines ++ t) (sym (append_assoc line (10 ∷ []) b.1)) ∙ sym (append_assoc lines (line ++ 10 ∷ []) b.1) ∙ b.3,
)

-- the line of a fault of range is of the form of another one
in_range : (text : List ℕ) (left : ℕ) → object_at text ≡ Err (Beyond left) → IsOutOfRange text (length text - left)
in_range text left h =
    let s = object_both.0.ranges text left h in
    let said = object_part.takes ((s.done ++ (s.other ++ 10 ∷ s.more)) ++ []) s.x [] (s.says []) in
    let long = ap (λ (t : List ℕ). length t) s.whole in
    let size = s.size in
    let regrouped : (s.done ++ (s.other ++ 10 ∷ [])) ++ s.more ≡ s.done ++ (s.other ++ 10 ∷ s.more) =
    append_assoc s.done (s.other ++ 10 ∷ []) s.more ∙ ap (λ (t : List ℕ). s.done ++ t) (append_assoc s.other (10 ∷ []) s.more) in
    record {
      lines = s.done;
      line = s.line;
      tail = s.tail;
      parts = s.whole;
      place = omega (arith, long, size, length-append s.done (s.line ++ 10 ∷ s.tail));
      one = s.one;
      other = s.other;
      one_other = s.one_other;
      of_form = s.of_form;
      begun = (s.x, s.more, said.1, regrouped ∙ sym (append-nil (s.done ++ (s.other ++ 10 ∷ s.more))) ∙ said.0 ∙ append-nil (object_spelling s.x));
    }

-- the line of a fault of form is of the form of none
no_form : (text : List ℕ) (left : ℕ) → object_at text ≡ Err (Malformed left) → left ≤ length text → IsOutOfRange text (length text - left) → ⊥
no_form text left h small out =
    let on = read_on out.lines out.other out.begun in
    let long = ap (λ (t : List ℕ). length t) out.parts in
    let place = out.place in
    let size : left ≡ length (out.line ++ 10 ∷ out.tail) =
    omega (arith, long, place, small, length-append out.lines (out.line ++ 10 ∷ out.tail)) in
    object_both.0.forms out.lines out.line out.tail left (ap object_at (sym out.parts) ∙ h) size out.one out.other on.1 on.0 []
    out.one_other out.of_form (read_whole on.0 (out.lines ++ (out.other ++ 10 ∷ on.1)) on.2 on.3)

-- what is left at a fault is of the text
left_small : (text : List ℕ) (f : Fault) → object_at text ≡ Err f → left_of f ≤ length text
left_small text f h =
    let s = object_both.0.stops text f h in
    let long = ap (λ (t : List ℕ). length t) s.whole in
    let left = s.left in
    omega (arith, long, left, length-append s.done s.rest)

-- after an object no line goes on
after_all : (text : List ℕ) (o : Object) (rest : List ℕ) → object_at text ≡ Ok (o, rest) → IsOutOfRange text (length text - length rest) → ⊥
after_all text o rest h out =
    let d = object_both.0.finds text o rest h in
    let whole = ap (λ (t : List ℕ). length t) d.whole in
    let long = ap (λ (t : List ℕ). length t) out.parts in
    let place = out.place in
    let ends = same_ends out.lines (out.line ++ 10 ∷ out.tail) d.said rest (sym out.parts ∙ d.whole)
    (omega (arith, whole, long, place, length-append d.said rest, length-append out.lines (out.line ++ 10 ∷ out.tail))) in
    let on = read_on out.lines out.other out.begun in
    let after : List ℕ = out.other ++ 10 ∷ on.1 in
    let spelled : d.said ++ after ≡ object_spelling on.0 = ap (λ (t : List ℕ). t ++ after) (sym ends.0) ∙ on.3 in
    let same = ok_is (o, after) (on.0, []) (sym (d.says after) ∙ read_whole on.0 (d.said ++ after) on.2 spelled) in
    let none : after ≡ [] = ap (λ (p : Object × List ℕ). p.1) same in
    let size = ap (λ (t : List ℕ). length t) none in
    omega (arith, size, length-append out.other (10 ∷ on.1))

refused : (text : List ℕ) (f : Fault) → object_at text ≡ Err f → IsFaultPlace text (length text - left_of f)
refused text f h =
    let s = object_both.0.stops text f h in
    let said = object_part.takes ((s.done ++ s.more) ++ []) s.x [] (s.goes_on []) in
    let long = ap (λ (t : List ℕ). length t) s.whole in
    let left = s.left in
    record {
      lines = s.done;
      rest = s.rest;
      parts = s.whole;
      place = omega (arith, long, left, length-append s.done s.rest);
      ended = s.lines;
      begun = (s.x, s.more, said.1, sym (append-nil (s.done ++ s.more)) ∙ said.0 ∙ append-nil (object_spelling s.x));
      stuck = λ line tail is b.
          let whole : text ≡ s.done ++ (line ++ 10 ∷ tail) = s.whole ∙ ap (λ (t : List ℕ). s.done ++ t) is in
          let g = object_both.0.stays s.done line tail b.1 f (ap object_at (sym whole) ∙ h)
          (left ∙ ap (λ (t : List ℕ). length t) is) in
          let spelled : s.done ++ (line ++ 10 ∷ b.1) ≡ object_spelling b.0 =
          ap (λ (t : List ℕ). s.done ++ t) (sym (append_assoc line (10 ∷ []) b.1))
          ∙ sym (append_assoc s.done (line ++ 10 ∷ []) b.1) ∙ b.3 in
          never b.0 (s.done ++ (line ++ 10 ∷ b.1)) g.0 b.2 spelled g.1;
      no_object = λ o good is. never o text f good is h;
    }

gone_on : (text : List ℕ) (o : Object) (rest : List ℕ) → object_at text ≡ Ok (o, rest) → (rest ≡ [] → ⊥)
    → IsFaultPlace text (length text - length rest)
gone_on text o rest h some =
    let d = object_both.0.finds text o rest h in
    let said = object_part.takes (d.said ++ []) o [] (d.says []) in
    let long = ap (λ (t : List ℕ). length t) d.whole in
    record {
      lines = d.said;
      rest = rest;
      parts = d.whole;
      place = omega (arith, long, length-append d.said rest);
      ended = d.lines;
      begun = (o, [], said.1, said.0 ∙ append-nil (object_spelling o));
      stuck = λ line tail is b.
          let after : List ℕ = (line ++ 10 ∷ []) ++ b.1 in
          let spelled : d.said ++ after ≡ object_spelling b.0 = sym (append_assoc d.said (line ++ 10 ∷ []) b.1) ∙ b.3 in
          let same = ok_is (o, after) (b.0, []) (sym (d.says after) ∙ read_whole b.0 (d.said ++ after) b.2 spelled) in
          let none : after ≡ [] = ap (λ (p : Object × List ℕ). p.1) same in
          let size = ap (λ (t : List ℕ). length t) none in
          omega (arith, size, length-append (line ++ 10 ∷ []) b.1, length-append line (10 ∷ []));
      no_object = λ p good is.
          let same = ok_is (o, rest) (p, []) (sym h ∙ read_whole p text good is) in
          some (ap (λ (q : Object × List ℕ). q.1) same);
    }

-- how reading all of a text ends early
guard_left : (ended : Bool) (o : Object) (n : ℕ) (f : Fault) → cond ended (Ok o) (Err (Malformed n)) ≡ fault {A = Object} f
    → (ended ≡ false) × (f ≡ Malformed n)
guard_left true o n f e = absurd (not_err {A = Object} o f e)
guard_left false o n f e = (refl, sym (err_same {A = Object} (Malformed n) f e))

not_nil : (rest : List ℕ) → eqb (length rest) 0 ≡ false → rest ≡ [] → ⊥
not_nil [] h e = absurd cc
not_nil (b ∷ rest) h e = absurd (let n = ap (λ (t : List ℕ). length t) e in omega (arith, n))

pub all_place : (text : List ℕ) (f : Fault) → all_of text ≡ Err f → IsFaultPlace text (length text - left_of f)
unfolding all_of
all_place text f e =
    elim (bind_err (object_at text) (λ o. cond (eqb (length o.1) 0) (Ok o.0) (Err (Malformed (length o.1)))) f e) [
      | inl h ↦ refused text f h
      | inr h ↦
          let g = guard_left (eqb (length h.0.1) 0) h.0.0 (length h.0.1) f h.2 in
          subst (λ (x : Fault). IsFaultPlace text (length text - left_of x)) (sym g.1)
          (gone_on text h.0.0 h.0.1 h.1 (not_nil h.0.1 g.0))
    ]

all_in_range : (text : List ℕ) (left : ℕ) → all_of text ≡ Err (Beyond left) → IsOutOfRange text (length text - left)
unfolding all_of
all_in_range text left e =
    elim (bind_err (object_at text) (λ o. cond (eqb (length o.1) 0) (Ok o.0) (Err (Malformed (length o.1)))) (Beyond left) e) [
      | inl h ↦ in_range text left h
      | inr h ↦ absurd (let g = guard_left (eqb (length h.0.1) 0) h.0.0 (length h.0.1) (Beyond left) h.2 in let f = g.1 in cc)
    ]

all_of_form : (text : List ℕ) (left : ℕ) → all_of text ≡ Err (Malformed left) → IsOutOfRange text (length text - left) → ⊥
unfolding all_of
all_of_form text left e =
    elim (bind_err (object_at text) (λ o. cond (eqb (length o.1) 0) (Ok o.0) (Err (Malformed (length o.1)))) (Malformed left) e) [
      | inl h ↦ no_form text left h (left_small text (Malformed left) h)
      | inr h ↦
          let g = guard_left (eqb (length h.0.1) 0) h.0.0 (length h.0.1) (Malformed left) h.2 in
          let same : left ≡ length h.0.1 = ap left_of g.1 in
          subst (λ (n : ℕ). IsOutOfRange text (length text - n) → ⊥) (sym same) (after_all text h.0.0 h.0.1 h.1)
    ]

-- ---- results

abbrev answered : Object → Result Object ObjectFault
answered o = Ok o

abbrev told : ObjectFault → Result Object ObjectFault
told fault = Err fault

told_is : (a b : ObjectFault) → told a ≡ told b → a ≡ b
told_is a b e = cc

not_told : (o : Object) (a : ObjectFault) → answered o ≡ told a → ⊥
not_told o a e = absurd cc

placed_place : (text : List ℕ) (r : Result Object Fault) → all_of text ≡ r → length text ≤ 4194304 → (a : ObjectFault)
    → placed (length text) r ≡ told a → IsPlaced text a
placed_place text (Ok o) is few a e = absurd (not_told o a e)
placed_place text (Err (Malformed left)) is few a e =
    subst (IsPlaced text) (told_is (NotObject (length text - left)) a e) (few, all_place text (Malformed left) is, all_of_form text left is)
placed_place text (Err (Beyond left)) is few a e =
    subst (IsPlaced text) (told_is (Limit (length text - left)) a e) (inr (few, all_place text (Beyond left) is, all_in_range text left is))

answer_at : (text : List ℕ) (long : Bool) → ltb 4194304 (length text) ≡ long → (a : ObjectFault)
    → cond long (Err (Limit 0)) (placed (length text) (all_of text)) ≡ told a → IsPlaced text a
answer_at text true is a e = subst (IsPlaced text) (told_is (Limit 0) a e) (inl (ltb-true _ _ is, refl))
answer_at text false is a e = placed_place text (all_of text) refl (ltb-false _ _ is) a e

-- if a text is not an object, the offset that is told is where it stops being the beginning of one
pub answer_place : (text : List ℕ) (a : ObjectFault) → answer_of text ≡ Err a → IsPlaced text a
answer_place text a e = answer_at text (ltb 4194304 (length text)) refl a e

pub rows_placed : (text : List ℕ) (a : ObjectFault) → AnswersRows text (Err a) → IsPlaced text a
rows_placed text (NotObject at) e = answer_place text (NotObject at) e
rows_placed text (Limit at) e = answer_place text (Limit at) e
rows_placed text NoMemory e = tt
