-- Entries as they are held.
use Rattle.std.specs.Prelude.{ℕ, List, [], map, slice_index_or, Vec}
use Rattle.std.specs.declared.alloc.Global.{Global}

-- the bytes of each
abbrev pub texts : List (Vec ℕ Global) → List (List ℕ)
texts entries = map (λ e. e.items) entries

-- the one with a number; nothing if there is none
abbrev pub entry_at : List (List ℕ) → ℕ → List ℕ
entry_at entries k = slice_index_or entries k []
