-- From which numbers a client counts lines and columns.
use Rattle.std.specs.Prelude.{ℕ, ◌+◌, ◌-◌, cond, Bool, true, Option, None, Some, codes}
use Rattle.serde_json.specs.Data.{Data, null, boolean, number, string, array, object}
use Rattle.pb_adapter_requests.specs.Requests.{Asked, argument}
use Rattle.pb_adapter_requests.specs.declared.counting.Counting.{Counting}

-- whether an argument is not `false`
abbrev pub is_so : Option Data → Bool
is_so None = true
is_so (Some null) = true
is_so (Some (boolean b)) = b
is_so (Some (number n)) = true
is_so (Some (string s)) = true
is_so (Some (array ds)) = true
is_so (Some (object ms)) = true

-- how a client counts that says nothing of it
abbrev pub from_1 : Counting
from_1 = record { lines_at_1 = true; columns_at_1 = true }

-- how a client counts, by the request with which it begins
abbrev pub counting_of : Asked → Counting
counting_of r = record {
  lines_at_1 = is_so (argument (codes "linesStartAt1") r);
  columns_at_1 = is_so (argument (codes "columnsStartAt1") r);
}

-- a line as the client counts it; 0, which is none, stays
abbrev pub shown_line : Counting → ℕ → ℕ
shown_line counting line = cond counting.lines_at_1 line (line - 1)

-- the line, counted from 1, that a client names by a number
abbrev pub named_line : Counting → ℕ → ℕ
named_line counting n = cond counting.lines_at_1 n (n + 1)

-- the number of the first column
abbrev pub first_column : Counting → ℕ
first_column counting = cond counting.columns_at_1 1 0
