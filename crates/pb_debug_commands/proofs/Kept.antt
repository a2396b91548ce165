-- What is kept of a line.
use Rattle.std.proofs.Common.{◌≡◌, inl, inr, ℕ, ◌+◌, ◌<◌, ◌≤◌, ◌++◌, List, [], ◌∷◌, length, take, set, None, refl}
use Rattle.std.proofs.Common.{sym, ap, ◌∙◌, length-append, arith}
use Rattle.std.proofs.lemmas.Bool.{cases_lt, lt-ltb}
use Rattle.std.proofs.lemmas.List.{take_all, take-append-le, take_more_set, length-take-le}
use Rattle.pb_debug_commands.specs.Buffers.{kept}
use Rattle.pb_debug_commands.specs.Commands.{command_of}

-- a line with one byte more, as much of it as is kept
pub kept_more : (bytes old : List ℕ) (n b : ℕ) → take n bytes ≡ old → length bytes ≡ 257 → n < 257
    → take (n + 1) (set bytes n b) ≡ kept (old ++ b ∷ [])
kept_more bytes old n b is long lt =
    let size : length old ≡ n = ap length (sym is) ∙ length-take-le n bytes (omega (arith, long, lt)) in
    let more = length-append old (b ∷ []) in
    take_more_set bytes n b (omega (arith, long, lt))
    ∙ (ap (λ (xs : List ℕ). xs ++ b ∷ []) is ∙ sym (take_all 257 (old ++ b ∷ []) (omega (arith, size, more, lt))))

pub kept_full : (bytes old : List ℕ) (n b : ℕ) → take n bytes ≡ old → length bytes ≡ 257 → 257 ≤ n → old ≡ kept (old ++ b ∷ [])
kept_full bytes old n b is long le =
    let whole : old ≡ bytes = sym is ∙ take_all n bytes (omega (arith, long, le)) in
    let size : length old ≡ 257 = ap length whole ∙ long in
    sym (take-append-le 257 old (b ∷ []) (omega (arith, size)) ∙ take_all 257 old (omega (arith, size)))

pub kept_again : (r : List ℕ) (b : ℕ) → kept (kept r ++ b ∷ []) ≡ kept (r ++ b ∷ [])
kept_again r b = elim (cases_lt (length r) 257) [
  | inl lt ↦ ap (λ (xs : List ℕ). kept (xs ++ b ∷ [])) (take_all 257 r (omega (arith, lt)))
  | inr le ↦
      let size : length (kept r) ≡ 257 = length-take-le 257 r le in
      take-append-le 257 (kept r) (b ∷ []) (omega (arith, size))
      ∙ (take_all 257 (kept r) (omega (arith, size)) ∙ sym (take-append-le 257 r (b ∷ []) le))
]

too_long : (line : List ℕ) → 256 < length line → command_of line ≡ None
unfolding command_of
too_long line long = rw (lt-ltb 256 (length line) long) refl

-- what is kept says the same
pub kept_says : (line : List ℕ) → command_of (kept line) ≡ command_of line
kept_says line = elim (cases_lt (length line) 257) [
  | inl lt ↦ ap command_of (take_all 257 line (omega (arith, lt)))
  | inr le ↦
      let size : length (kept line) ≡ 257 = length-take-le 257 line le in
      too_long (kept line) (omega (arith, size)) ∙ sym (too_long line (omega (arith, le)))
]

-- nothing is kept only of an empty line
pub kept_nothing : (r : List ℕ) → length (kept r) ≡ 0 → r ≡ []
kept_nothing [] e = refl
kept_nothing (b ∷ bs) e = absurd (omega arith)
