-- A line without the white space at its end.
use Rattle.std.proofs.Common.{◌≡◌, ℕ, zero, suc, ◌-◌, ◌<◌, ◌≤◌, true, false, cond, List, [], ◌∷◌, length, take, refl, sym, ap, ◌∙◌, arith}
use Rattle.std.specs.Prelude.{slice_index}
use Rattle.std.specs.Char.{is_ascii_whitespace}
use Rattle.pb_debug_commands.specs.Commands.{before, trimmed}

-- nothing is left of white space
all_white : (s : List ℕ) → ((i : ℕ) → i < length s → is_ascii_whitespace (slice_index s i) ≡ true) → trimmed s ≡ []
all_white [] white = refl
all_white (b ∷ bs) white =
    ap (before b) (all_white bs (λ i u. white (suc i) (omega (arith, u))))
    ∙ ap (λ t. cond t [] (b ∷ [])) (white 0 (omega arith))

-- the first bytes are left if the last of them is no white space, and all after them is
pub trims : (s : List ℕ) (n : ℕ) → n ≤ length s
    → ((i : ℕ) → n ≤ i → i < length s → is_ascii_whitespace (slice_index s i) ≡ true)
    → (0 < n → is_ascii_whitespace (slice_index s (n - 1)) ≡ false) → take n s ≡ trimmed s
trims s zero within white last = sym (all_white s (λ i u. white i (omega arith) u))
trims [] (suc n) within white last = absurd (omega (arith, within))
trims (b ∷ bs) (suc zero) within white last =
    let none = all_white bs (λ i u. white (suc i) (omega arith) (omega (arith, u))) in
    sym (ap (before b) none ∙ ap (λ t. cond t [] (b ∷ [])) (last (omega arith)))
trims (b ∷ []) (suc (suc n)) within white last = absurd (omega (arith, within))
trims (b ∷ c ∷ cs) (suc (suc n)) within white last =
    let later : suc (suc n) - 1 ≡ suc n = omega arith in
    let earlier : suc n - 1 ≡ n = omega arith in
    ap (before b) (trims (c ∷ cs) (suc n) (omega (arith, within)) (λ i l u. white (suc i) (omega (arith, l)) (omega (arith, u)))
    (λ some. ap (λ k. is_ascii_whitespace (slice_index (c ∷ cs) k)) earlier
    ∙ (sym (ap (λ k. is_ascii_whitespace (slice_index (b ∷ c ∷ cs) k)) later) ∙ last (omega arith))))
