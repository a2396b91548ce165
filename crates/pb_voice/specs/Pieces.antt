-- Pieces of an object of JSON.
use Rattle.std.specs.Prelude.{ℕ, Bool, cond, List}
use Rattle.std.specs.Borrow.{Bor}
use Rattle.pb_json.specs.Strings.{string_text}

-- what is written of a piece: its bytes as a string, or as they are
abbrev pub piece_text : Bool × Bor (List ℕ) → List ℕ
piece_text piece = cond piece.0 (string_text piece.1.now) piece.1.now
