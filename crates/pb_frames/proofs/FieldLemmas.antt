-- The name of a field, and what stands behind it.
use Rattle.std.proofs.Common.{◌≡◌, ◌∙◌, ℕ, Bool, List, length, take, drop, ap}
use Rattle.std.proofs.lemmas.List.{drop_min, take_min}
use Rattle.std.proofs.lemmas.Str.Ascii.{trim_ascii_start_is}
use Rattle.std.specs.Prelude.{min}
use Rattle.std.specs.Char.{is_ascii_whitespace}
use Rattle.std.specs.List.{prefix_len}
use Rattle.std.specs.Str.{IsTrimAsciiStart, str_eq_ignore_ascii_case}
use Rattle.pb_frames.specs.Heads.{field_value, length_name, says_length}

-- as many bytes as a name has, or all of a shorter line
pub says_is : (line : List ℕ) (n : ℕ) (b : Bool) → n ≡ min 15 (length line) → b ≡ str_eq_ignore_ascii_case (take n line) length_name
    → b ≡ says_length line
says_is line n b most is =
    is ∙ ap (λ (xs : List ℕ). str_eq_ignore_ascii_case xs length_name) (ap (λ (k : ℕ). take k line) most ∙ take_min 15 line)

-- the same of what stands after them
pub value_is : (line : List ℕ) (n : ℕ) (behind r : List ℕ) → n ≡ min 15 (length line) → behind ≡ drop n line → IsTrimAsciiStart behind r
    → r ≡ field_value line
value_is line n behind r most cut is =
    trim_ascii_start_is behind r is
    ∙ ap (λ (xs : List ℕ). drop (prefix_len is_ascii_whitespace xs) xs) (cut ∙ (ap (λ (k : ℕ). drop k line) most ∙ drop_min 15 line))
