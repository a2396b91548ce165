-- What a process of a code and its labels say, row by row. No public contract cites this file.
use Rattle.std.specs.Prelude.{◌≡◌, ℕ, List, [], slice_get, slice_index_or, Some}
use Rattle.pb_code.specs.Whole.{Code, ProcessLabels}
use Rattle.pb_object.specs.Objects.{ProcessRow, code_of_row, labels_of_row}

-- the row says what the code has for process p
pub record IsRowOf (whole : Code) (p : ℕ) (row : ProcessRow) : Type 0 where
  pub name : slice_index_or whole.names.processes p [] ≡ row.name
  pub claims : slice_index_or whole.claims p [] ≡ row.claims
  pub code : slice_get whole.processes p ≡ Some (code_of_row row)

-- and what the labels have
abbrev pub IsLabelsOf : List ProcessLabels → ℕ → ProcessRow → Type 0
IsLabelsOf labels p row = slice_get labels p ≡ Some (labels_of_row row)
