-- Sessions that are cut in two.
use Rattle.std.proofs.Common.{◌≡◌, ◌⊎◌, inl, inr, ℕ, ◌++◌, List, [], ◌∷◌, length, get_or, drop, refl, sym, ap, ◌∙◌, subst}
use Rattle.std.proofs.Common.{append-nil, append_assoc, length-append, arith}
use Rattle.std.proofs.lemmas.List.{nil_from_length}
use Rattle.pb_bank.specs.Desks.{DeskValue}
use Rattle.pb_bank.specs.Sayings.{Saying}
use Rattle.pb_bank_engine.specs.Parts.{InTwo, SessionsGoOn, SessionsPart}
use Rattle.pb_bank_engine.specs.Sessions.{Session, nothing, one_more}
use Rattle.pb_bank_engine.proofs.LineParts.{sessions}

-- ---- the last line

-- a list is empty, or has a last one
last_of : (xs : List (List ℕ)) → (xs ≡ []) ⊎ ((first : List (List ℕ)) × (last : List ℕ) × (xs ≡ first ++ last ∷ []))
last_of [] = inl refl
last_of (x ∷ xs) =
    elim (last_of xs) [
      | inl none ↦ inr ([], x, ap (λ (ys : List (List ℕ)). x ∷ ys) none)
      | inr some ↦ inr (x ∷ some.0, some.1, ap (λ (ys : List (List ℕ)). x ∷ ys) some.2)
    ]

-- lists that are the same have the same last ones, after the same ones
same_last : (xs ys : List (List ℕ)) (x y : List ℕ) → xs ++ x ∷ [] ≡ ys ++ y ∷ [] → (xs ≡ ys) × (x ≡ y)
same_last [] [] x y is = (refl, ap (λ (l : List (List ℕ)). get_or l 0 x) is)
same_last [] (b ∷ ys) x y is =
    (let n = ap (λ (l : List (List ℕ)). length l) is in let m = length-append ys (y ∷ []) in absurd (omega (arith, n, m)))
same_last (a ∷ xs) [] x y is =
    (let n = ap (λ (l : List (List ℕ)). length l) is in let m = length-append xs (x ∷ []) in absurd (omega (arith, n, m)))
same_last (a ∷ xs) (b ∷ ys) x y is =
    let head : a ≡ b = ap (λ (l : List (List ℕ)). get_or l 0 a) is in
    let rest = same_last xs ys x y (ap (λ (l : List (List ℕ)). drop 1 l) is) in
    (ap (λ (z : List ℕ). z ∷ xs) head ∙ ap (λ (zs : List (List ℕ)). b ∷ zs) rest.0, rest.1)

-- ---- sessions

in_two : (d next : DeskValue) (all : List (List ℕ)) (said : List Saying) → Session d all said next → (lines later : List (List ℕ))
    → all ≡ lines ++ later → InTwo d lines later said next
in_two d next all said nothing lines later is =
    let n : 0 ≡ length (lines ++ later) = ap (λ (l : List (List ℕ)). length l) is in
    let m = length-append lines later in
    let no_lines : lines ≡ [] = nil_from_length lines (omega (arith, n, m)) in
    let none_later : later ≡ [] = nil_from_length later (omega (arith, n, m)) in
    record {
      first = [];
      second = [];
      mid = d;
      before = subst (λ (ls : List (List ℕ)). Session d ls [] d) (sym no_lines) nothing;
      after = subst (λ (ls : List (List ℕ)). Session d ls [] d) (sym none_later) nothing;
      whole = refl;
    }
in_two d end all whole (one_more before text mid line said next session answers) lines later is =
    elim (last_of later) [
      | inl none ↦
          (let same : before ++ line ∷ [] ≡ lines = is ∙ ap (λ (k : List (List ℕ)). lines ++ k) none ∙ append-nil lines in
          record {
            first = text ++ said;
            second = [];
            mid = next;
            before =
                subst (λ (ls : List (List ℕ)). Session d ls (text ++ said) next) same
                (one_more before text mid line said next session answers);
            after = subst (λ (ls : List (List ℕ)). Session next ls [] next) (sym none) nothing;
            whole = sym (append-nil (text ++ said));
          })
      | inr some ↦
          (let same = same_last before (lines ++ some.0) line some.1
          (is ∙ ap (λ (k : List (List ℕ)). lines ++ k) some.2 ∙ sym (append_assoc lines some.0 (some.1 ∷ []))) in
          let two = in_two d mid before text session lines some.0 same.0 in
          let last : some.0 ++ line ∷ [] ≡ later = ap (λ (l : List ℕ). some.0 ++ l ∷ []) same.1 ∙ sym some.2 in
          record {
            first = two.first;
            second = two.second ++ said;
            mid = two.mid;
            before = two.before;
            after =
                subst (λ (ls : List (List ℕ)). Session two.mid ls (two.second ++ said) next) last
                (one_more some.0 two.second mid line said next two.after answers);
            whole = ap (λ (t : List Saying). t ++ said) two.whole ∙ append_assoc two.first two.second said;
          })
    ]

pub sessions_go_on : SessionsGoOn
sessions_go_on d mid next lines later text more first second = sessions d mid next lines later text more first second

pub sessions_part : SessionsPart
sessions_part d next lines later text session = in_two d next (lines ++ later) text session lines later refl
