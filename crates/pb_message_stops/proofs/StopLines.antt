-- Pick lines that are gone through with their picks.
use Rattle.std.proofs.Common.{◌≡◌, ℕ, ◌+◌, List, [], ◌∷◌, ◌++◌, Some, take, drop, inl, inr, sym, subst, ◌∙◌}
use Rattle.std.specs.Prelude.{slice_get}
use Rattle.pb_base.proofs.Lists.{take_next}
use Rattle.pb_code.specs.Whole.{Code}
use Rattle.pb_history.specs.declared.counted.CountedPick.{CountedPick}
use Rattle.pb_picks.specs.PickLines.{IsFirstLine, Lacks, ReadsPicks}
use Rattle.pb_picks.proofs.PickParts.{never_lacks, one_line_more, same_parts}

-- what is after the first line is one thing
same_behind : (text a x b y : List ℕ) → IsFirstLine text a x → IsFirstLine text b y → x ≡ y
same_behind text a x b y first second = elim first.1 [
  | inl e ↦ elim second.1 [
    | inl f ↦ (same_parts 10 a x b y first.0 second.0 (sym e ∙ f)).1
    | inr f ↦ absurd (never_lacks 10 a x (subst (λ (t : List ℕ). Lacks 10 t) (sym f.0 ∙ e) second.0))
  ]
  | inr e ↦ elim second.1 [
    | inl f ↦ absurd (never_lacks 10 b y (subst (λ (t : List ℕ). Lacks 10 t) (sym e.0 ∙ f) first.0))
    | inr f ↦ e.1 ∙ sym f.1
  ]
]

-- the lines up to one say the first picks, and that one and those after it the others
abbrev pub AreParted : Code → (lines : List ℕ) → List CountedPick → (i : ℕ) → (rest : List ℕ) → Type 0
AreParted code lines picks i rest = ReadsPicks code lines (take i picks) rest × ReadsPicks code rest (drop i picks) []

-- the same after one more line
pub parted_next : (code : Code) (lines : List ℕ) (picks : List CountedPick) (i : ℕ) (c : CountedPick) (rest line after : List ℕ)
    → slice_get picks i ≡ Some c → drop i picks ≡ c ∷ drop (i + 1) picks → IsFirstLine rest line after
    → AreParted code lines picks i rest → AreParted code lines picks (i + 1) after
parted_next code lines picks i c rest line after there next first (reads, more) =
    let here : ReadsPicks code rest (c ∷ drop (i + 1) picks) [] =
    subst (λ (cs : List CountedPick). ReadsPicks code rest cs []) next more in
    let same = same_behind rest here.1 here.2 line after here.3 first in
    let said : ReadsPicks code lines (take i picks ++ (c ∷ [])) here.2 =
    one_line_more code lines (take i picks) rest c here.1 here.2 reads here.0 here.3 here.4 in
    let taken : ReadsPicks code lines (take (i + 1) picks) here.2 =
    subst (λ (cs : List CountedPick). ReadsPicks code lines cs here.2) (sym (take_next picks i c there)) said in (
      subst (λ (t : List ℕ). ReadsPicks code lines (take (i + 1) picks) t) same taken,
      subst (λ (t : List ℕ). ReadsPicks code t (drop (i + 1) picks) []) same here.5,
    )
