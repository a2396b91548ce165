-- Print lines: each says a print of an arm, as `P.a print V`.
use Rattle.std.specs.Prelude.{◌≡◌, ◌≢◌, ◌+◌, ◌<◌, ℕ, List, [], ◌∷◌, Some, length, slice_get, ⊤}
use Rattle.pb_code.specs.Code.{ProcessCode}
use Rattle.pb_code.specs.Limits.{IsSigned}
use Rattle.pb_code.specs.Whole.{Code}
use Rattle.pb_picks.specs.PickLines.{IsFirstLine}
use Rattle.pb_search_stages.specs.declared.print.Print.{Print}
use Rattle.pb_search_engine.specs.OutcomeLines.{print_text}
use Rattle.pb_search_engine.specs.declared.print_lines.PrintFault.{PrintFault}
use Rattle.pb_search_engine.specs.declared.print_lines.PrintFault.TheVariants.{NotPrint, NoMemory}

-- the line is the name of a process, a point, one of its arms, `print`, and an integer, with a space before and
-- after the word
pub record SpellsPrint (code : Code) (text : List ℕ) (p : Print) : Type 0 where
  pub process : ProcessCode
  pub there : slice_get code.processes p.pick.process ≡ Some process
  pub arm : p.pick.arm < length process.entries
  pub value : IsSigned p.value
  pub spelled : text ≡ print_text code.names p

-- the lines of a text say these prints, up to where this rest of it begins
abbrev pub ReadsPrints : Code → (text : List ℕ) → List Print → (rest : List ℕ) → Type 0
ReadsPrints code text [] rest = text ≡ rest
ReadsPrints code text (p ∷ prints) rest =
    (text ≢ []) × (line : List ℕ) × (after : List ℕ) × IsFirstLine text line after × SpellsPrint code line p
    × ReadsPrints code after prints rest

-- all lines of a text say these prints
abbrev pub SpellsPrints : Code → (text : List ℕ) → List Print → Type 0
SpellsPrints code text prints = ReadsPrints code text prints []

-- the lines before this place say prints, and the line that begins there says none
abbrev pub IsBadPrint : Code → (text : List ℕ) → PrintFault → Type 0
IsBadPrint code text (NotPrint at) =
    (before : List Print) × (line : List ℕ) × (after : List ℕ) × (rest : List ℕ) × ReadsPrints code text before rest
    × (rest ≢ []) × IsFirstLine rest line after × (at + length rest ≡ length text)
    × ((p : Print) → ¬ SpellsPrint code line p)
IsBadPrint code text NoMemory = ⊤
