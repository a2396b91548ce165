-- The marks of a run are in the order of its picks.
use Rattle.std.proofs.Common.{◌≡◌, ℕ, zero, suc, ◌<◌, ◌≤◌, List, [], ◌∷◌, ◌++◌, length, length-append, Option, Some, None, refl, sym, ap, inl, inr, subst, arith}
use Rattle.std.specs.Prelude.{slice_get}
use Rattle.std.proofs.lemmas.List.{append-nil}
use Rattle.pb_base.specs.declared.pick.Pick.{Pick}
use Rattle.pb_code.specs.Whole.{Code, ProcessLabels}
use Rattle.pb_draw.specs.Marks.{AreInOrder, happening_at, line_before, mark_list, marks_before}
use Rattle.pb_draw.specs.declared.drawing.Happening.{Happening}
use Rattle.pb_draw.specs.declared.drawing.Integers.{Integers}
use Rattle.pb_draw.specs.declared.drawing.Mark.{Mark}
use Rattle.pb_machine.proofs.BuiltLists.{at_push}

-- all marks are of picks before this one
abbrev AreBefore : ℕ → List Mark → Type 0
AreBefore n marks = (i : ℕ) (m : Mark) → slice_get marks i ≡ Some m → m.at < n

early_later : (marks : List Mark) (n : ℕ) → AreBefore n marks → AreBefore (suc n) marks
early_later marks n early = λ i m there. let before : m.at < n = early i m there in omega (arith, before)

early_push : (marks : List Mark) (x : Mark) (n : ℕ) → AreBefore n marks → x.at ≡ n → AreBefore (suc n) (marks ++ x ∷ [])
early_push marks x n early here = λ i m there.
    elim (at_push marks x m i there) [
      | inl earlier ↦ (let before : m.at < n = early i m earlier in omega (arith, before))
      | inr last ↦ (let same : x.at ≡ m.at = ap (λ (y : Mark). y.at) last.1 in omega (arith, same, here))
    ]

-- what is found stands before the end
within : (marks : List Mark) (i : ℕ) (m : Mark) → slice_get marks i ≡ Some m → i < length marks
within [] i m h = cc
within (x ∷ marks) zero m h = omega arith
within (x ∷ marks) (suc i) m h = let rest : i < length marks = within marks i m h in omega (arith, rest)

-- what is found before the last was there before it
kept : (marks : List Mark) (x : Mark) (i : ℕ) (m : Mark) → i < length marks → slice_get (marks ++ x ∷ []) i ≡ Some m
    → slice_get marks i ≡ Some m
kept marks x i m lt there =
    elim (at_push marks x m i there) [
      | inl earlier ↦ earlier
      | inr last ↦ (let e : i ≡ length marks = last.0 in absurd (omega (arith, e, lt)))
    ]

order_push : (marks : List Mark) (x : Mark) (n : ℕ) → AreBefore n marks → x.at ≡ n → AreInOrder marks → AreInOrder (marks ++ x ∷ [])
order_push marks x n early here ordered = λ i j a b lt one two.
    elim (at_push marks x b j two) [
      | inl earlier ↦
          (let below : j < length marks = within marks j b earlier in
          ordered i j a b lt (kept marks x i a (omega (arith, below, lt)) one) earlier)
      | inr last ↦
          (let e : j ≡ length marks = last.0 in
          let same : x.at ≡ b.at = ap (λ (y : Mark). y.at) last.1 in
          let first : a.at < n = early i a (kept marks x i a (omega (arith, e, lt)) one) in
          omega (arith, same, here, first))
    ]

both : (integers : Integers) (code : Code) (labels : List ProcessLabels) (picks : List Pick) (n : ℕ)
    → AreBefore n (marks_before integers code labels picks n) × AreInOrder (marks_before integers code labels picks n)
both integers code labels picks zero = (λ i m there. cc, λ i j a b lt one two. cc)
both integers code labels picks (suc n) =
    go (marks_before integers code labels picks n) (happening_at integers code picks n) (slice_get picks n) (line_before code labels picks n)
    (both integers code labels picks n).0 (both integers code labels picks n).1
  where
    go : (marks : List Mark) (what : Option Happening) (pick : Option Pick) (source : Option ℕ) → AreBefore n marks → AreInOrder marks
        → AreBefore (suc n) (marks ++ mark_list what pick source n) × AreInOrder (marks ++ mark_list what pick source n)
    go marks None pick source early ordered =
        subst (λ (ms : List Mark). AreBefore (suc n) ms × AreInOrder ms) (sym (append-nil marks)) (early_later marks n early, ordered)
    go marks (Some what) None source early ordered =
        subst (λ (ms : List Mark). AreBefore (suc n) ms × AreInOrder ms) (sym (append-nil marks)) (early_later marks n early, ordered)
    go marks (Some what) (Some pick) source early ordered =
        (early_push marks _ n early refl, order_push marks _ n early refl ordered)

pub marks_in_order : (integers : Integers) (code : Code) (labels : List ProcessLabels) (picks : List Pick) (n : ℕ) → AreInOrder (marks_before integers code labels picks n)
marks_in_order integers code labels picks n = (both integers code labels picks n).1

-- there is at most one mark for each pick
pub marks_few : (integers : Integers) (code : Code) (labels : List ProcessLabels) (picks : List Pick) (n : ℕ)
    → length (marks_before integers code labels picks n) ≤ n
marks_few integers code labels picks zero = omega arith
marks_few integers code labels picks (suc n) =
    let marks = marks_before integers code labels picks n in
    let last = mark_list (happening_at integers code picks n) (slice_get picks n) (line_before code labels picks n) n in
    let few : length marks ≤ n = marks_few integers code labels picks n in
    let one = one_at_most (happening_at integers code picks n) (slice_get picks n) (line_before code labels picks n) n in
    let all = length-append marks last in
    omega (arith, few, one, all)
  where
    one_at_most : (what : Option Happening) (pick : Option Pick) (source : Option ℕ) (i : ℕ) → length (mark_list what pick source i) ≤ 1
    one_at_most None pick source i = omega arith
    one_at_most (Some what) None source i = omega arith
    one_at_most (Some what) (Some pick) source i = omega arith
