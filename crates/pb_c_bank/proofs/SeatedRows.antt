-- Tables whose jobs have rows.
use Rattle.std.proofs.Common.{◌≡◌, ◌<◌, ℕ, Bool, false, List, length, sym, ◌∙◌, arith, inl, inr}
use Rattle.std.proofs.lemmas.Bool.{cases_lt, false≢true}
use Rattle.std.proofs.lemmas.List.{get_or_past}
use Rattle.pb_base.specs.Banker.{row_of}
use Rattle.pb_banker.specs.declared.accounts.Accounts.{Accounts}
use Rattle.pb_banker.specs.Accounts.{IsSound}
use Rattle.pb_banker.specs.Jobs.{IsUsed}
use Rattle.pb_banker.proofs.TableCorners.{cell-corner}
use Rattle.pb_c_bank.specs.Tables.{AreSeated, IsEmptyRow}

pub seated_from : (a : Accounts) (used : List Bool) → IsSound a → length used ≡ 64
    → ((k : ℕ) → k < 64 → IsUsed used k → k < a.processes)
    → ((k : ℕ) → k < 64 → k < a.processes → ¬ IsUsed used k → IsEmptyRow a.resources (row_of a.claims k))
    → AreSeated a used
seated_from a used h long rows free =
    record {
      rows = λ p u.
          elim (cases_lt p 64) [
            | inl l ↦ rows p l u
            | inr l ↦ absurd (false≢true (sym (get_or_past used p false (omega (arith, long, l))) ∙ u))
          ];
      free = λ p r l fresh k.
          let few = h.few in
          cell-corner a.processes a.resources a.claims p r l k h.claims_length ∙ free p (omega (arith, l, few)) l fresh r k;
    }

pub empty_row : (a : Accounts) (used : List Bool) → IsSound a → AreSeated a used → (p : ℕ) → p < a.processes → ¬ IsUsed used p
    → IsEmptyRow a.resources (row_of a.claims p)
empty_row a used h seated p l fresh r k =
    sym (cell-corner a.processes a.resources a.claims p r l k h.claims_length) ∙ seated.free p r l fresh k
