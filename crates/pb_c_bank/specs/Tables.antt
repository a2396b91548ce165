-- Tables of amounts that come from anywhere.
use Rattle.std.specs.Prelude.{◌≡◌, ◌<◌, ◌≤◌, ℕ, Bool, List, length, slice_index}
use Rattle.pb_base.specs.Banker.{claim, row_of}
use Rattle.pb_banker.specs.Accounts.{state_of}
use Rattle.pb_banker.specs.Jobs.{IsUsed}
use Rattle.pb_banker.specs.declared.accounts.Accounts.{Accounts}

-- the first amounts of a row are at most those of another
abbrev pub RowIsBelow : (width : ℕ) → (low high : List ℕ) → Type 0
RowIsBelow width low high = (r : ℕ) → r < width → slice_index low r ≤ slice_index high r

-- the first rows of a table are at most those of another
abbrev pub TableIsBelow : (rows width : ℕ) → (low high : List (List ℕ)) → Type 0
TableIsBelow rows width low high = (p : ℕ) → p < rows → RowIsBelow width (row_of low p) (row_of high p)

-- the first rows of a table are at most one row
abbrev pub RowsAreBelow : (rows width : ℕ) → List (List ℕ) → List ℕ → Type 0
RowsAreBelow rows width low high = (p : ℕ) → p < rows → RowIsBelow width (row_of low p) high

-- the table has these rows, and each is this wide
abbrev pub AreWide : (rows width : ℕ) → List (List ℕ) → Type 0
AreWide rows width table = (rows ≤ length table) × ((p : ℕ) → p < rows → width ≤ length (row_of table p))

-- the first amounts of a row are 0
abbrev pub IsEmptyRow : (width : ℕ) → List ℕ → Type 0
IsEmptyRow width row = (r : ℕ) → r < width → slice_index row r ≡ 0

-- a job is in a slot that has a row, and a slot that no job has claims nothing
pub record AreSeated (a : Accounts) (used : List Bool) : Type 0 where
  pub rows : (p : ℕ) → IsUsed used p → p < a.processes
  pub free : (p r : ℕ) → p < a.processes → ¬ IsUsed used p → r < a.resources → claim (state_of a) p r ≡ 0
