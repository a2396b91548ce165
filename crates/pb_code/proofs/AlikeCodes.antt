-- When instructions, names and claims of two codes are the same.
use Rattle.std.proofs.Common.{◌≡◌, ◌↔◌, ℕ, ◌<◌, ◌≤◌, Bool, true, eqb, List, [], length, get_or, Some, refl, sym, ap}
use Rattle.std.proofs.Common.{◌∙◌}
use Rattle.std.specs.Prelude.{slice_get}
use Rattle.std.specs.Cmp.Lexicographic.{pointwise}
use Rattle.std.proofs.lemmas.Bool.Decides.{Decides-eqb}
use Rattle.std.proofs.lemmas.Option.{slice_get-get_or}
use Rattle.std.proofs.lemmas.Slice.Eq.{slice_eq-Decides}
use Rattle.pb_base.specs.Banker.{cell}
use Rattle.pb_code.specs.declared.instr.Instr.{Instr as Given}
use Rattle.pb_code.specs.declared.instr.Instr.TheVariants as given
use Rattle.pb_code.specs.Bundles.{IsPlain}
use Rattle.pb_code.proofs.ListElements.{alike_numbers}

-- what is neither a take nor a give
pub plain_from : (i : Given) → ((k : ℕ) → i ≡ given.Take k → ⊥) → ((k : ℕ) → i ≡ given.Give k → ⊥) → IsPlain i
plain_from (given.Take k) t g = t k refl
plain_from (given.Give k) t g = g k refl
plain_from i t g = tt

-- ---- names and claims

pub words_alike : (a b : List ℕ) (r : Bool) → r ≡ pointwise eqb a b → (r ≡ true) ↔ (a ≡ b)
words_alike a b r e = slice_eq-Decides Decides-eqb _ _ _ e

-- claims of a process that are the same by resource
pub rows_alike : (ts us : List (List ℕ)) (p n : ℕ) → p < length ts → p < length us → length (get_or ts p []) ≡ length (get_or us p [])
    → length (get_or ts p []) ≤ n → ((r : ℕ) → r < n → cell ts p r ≡ cell us p r) → slice_get ts p ≡ slice_get us p
rows_alike ts us p n u v long few alike =
    slice_get-get_or ts p [] u ∙ ap (λ (row : List ℕ). Some row) (alike_numbers (get_or ts p []) (get_or us p []) n long few alike)
    ∙ sym (slice_get-get_or us p [] v)
