-- One part more of a list that has a part for each number.
use Rattle.std.proofs.Common.{Result, Ok, Err, IfOk, ◌≡◌, ℕ, suc, ◌+◌, List, [], ◌++◌, refl, ap, ◌∙◌, subst, append_assoc, arith}
use Rattle.std.specs.Prelude.{slice_get, Some}
use Rattle.std.proofs.lemmas.Option.{get_or_from_slice_get}
use Rattle.pb_base.specs.Steppers.{State}
use Rattle.pb_code.specs.Code.{CodeProcess}
use Rattle.pb_page.specs.Parts.{parts_below, ArePartsBelow}
use Rattle.pb_page.specs.States.{process_at, no_process}

pub parts_next : {X : Type 0} (part : ℕ → List X) (n : ℕ) (old mid new : List X)
    → mid ≡ old ++ parts_below part n → new ≡ mid ++ part n → new ≡ old ++ parts_below part (n + 1)
parts_next {X = X} part n old mid new before more =
    let next : suc n ≡ n + 1 = omega arith in
    more
    ∙ (ap (λ (t : List X). t ++ part n) before
    ∙ (append_assoc old (parts_below part n) (part n)
    ∙ ap (λ k. old ++ parts_below part k) next))

-- a list with a part for each number has one more after a further part
pub one_part_more : {X : Type 0} (IsPart : ℕ → List X → Type 0) (n : ℕ) (all last : List X) → ArePartsBelow IsPart n all → IsPart n last
    → ArePartsBelow IsPart (n + 1) (all ++ last)
one_part_more {X = X} IsPart n all last are is =
    let next : suc n ≡ n + 1 = omega arith in
    subst (λ (k : ℕ). ArePartsBelow IsPart k (all ++ last)) next (all, last, refl, are, is)

-- the same, if a relation says what a part is
pub are_next : {X : Type 0} (IsPart : ℕ → List X → Type 0) (n : ℕ) (old mid new last : List X)
    → ((all : List X) × (mid ≡ old ++ all) × ArePartsBelow IsPart n all) → new ≡ mid ++ last → IsPart n last
    → (all : List X) × (new ≡ old ++ all) × ArePartsBelow IsPart (n + 1) all
are_next {X = X} IsPart n old mid new last (all, before, are) more is = (
  all ++ last,
  more ∙ (ap (λ (t : List X). t ++ last) before ∙ append_assoc old all last),
  one_part_more IsPart n all last are is,
)

-- the process that is there
pub process_is : (s : State CodeProcess) (p : ℕ) (process : CodeProcess) → slice_get s.processes p ≡ Some process
    → process_at s p ≡ process
process_is s p process there = get_or_from_slice_get s.processes p process no_process there

-- one fact of a result from another
pub if_ok : {A E : Type 0} (r : Result A E) (P Q : A → Type 0) → IfOk r P → ((x : A) → P x → Q x) → IfOk r Q
if_ok (Ok x) P Q h f = f x h
if_ok (Err e) P Q h f = tt

-- four parts that are put one after another
pub four_parts : (o a b r e one two three four : List ℕ) → o ≡ [] → one ≡ o ++ a → two ≡ one ++ b → three ≡ two ++ r
    → four ≡ three ++ e → four ≡ a ++ (b ++ (r ++ e))
four_parts o a b r e one two three four none first second third fourth =
    fourth
    ∙ (ap (λ (t : List ℕ). t ++ e) (third ∙ ap (λ (t : List ℕ). t ++ r) (second ∙ ap (λ (t : List ℕ). t ++ b)
    (first ∙ ap (λ (t : List ℕ). t ++ a) none)))
    ∙ (append_assoc (a ++ b) r e ∙ append_assoc a b (r ++ e)))
