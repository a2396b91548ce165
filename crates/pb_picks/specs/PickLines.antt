-- Pick lines as they are read: each says a pick and how often it is made, as `P.a COUNT`.
use Rattle.std.specs.Prelude.{◌≡◌, ◌≢◌, ℕ, ◌+◌, ◌<◌, ◌≤◌, ◌⊎◌, Bool, false, not, ◌&&◌, ◌||◌, ◌==◌, List, [], ◌∷◌}
use Rattle.std.specs.Prelude.{◌++◌, length, All, Some, slice_get, ⊤}
use Rattle.pb_base.specs.declared.limits.TheConstants.{MAX_PICKS}
use Rattle.pb_code.specs.Code.{ProcessCode}
use Rattle.pb_code.specs.Whole.{Code}
use Rattle.pb_history.specs.Replays.{spread}
use Rattle.pb_history.specs.declared.counted.CountedPick.{CountedPick}
pub use Rattle.pb_picks.specs.PickTexts.{arm_and_count, pick_line, pick_lines}
use Rattle.pb_picks.specs.declared.fault.PickFault.{PickFault}
use Rattle.pb_picks.specs.declared.fault.PickFault.TheVariants.{NotPicks, TooMany, NoMemory}

-- none of the bytes is this one
abbrev pub Lacks : ℕ → List ℕ → Type 0
Lacks mark bytes = All (λ b. b ≢ mark) bytes

-- no sign is first, and no zero before more bytes
abbrev pub is_plain : List ℕ → Bool
is_plain [] = false
is_plain (b ∷ bytes) = not (b == 43) && (not (b == 48) || (length bytes == 0))

-- the line is the name of a process, a point, one of its arms, a space, and a count from 1 to 10,000,000
pub record SpellsPick (code : Code) (line : List ℕ) (c : CountedPick) : Type 0 where
  pub process : ProcessCode
  pub there : slice_get code.processes c.pick.process ≡ Some process
  pub arm : c.pick.arm < length process.entries
  pub some : 0 < c.count
  pub most : c.count ≤ MAX_PICKS
  pub spelled : line ≡ pick_line code.names.processes c

-- the first line of a text, without its line feed, and what follows it; the last line may have no line feed
abbrev pub IsFirstLine : (text line after : List ℕ) → Type 0
IsFirstLine text line after =
    Lacks 10 line × ((text ≡ line ++ (10 ∷ after)) ⊎ ((text ≡ line) × (after ≡ [])))

-- the lines of a text say these picks, up to where this rest of it begins
abbrev pub ReadsPicks : Code → (text : List ℕ) → List CountedPick → (rest : List ℕ) → Type 0
ReadsPicks code text [] rest = text ≡ rest
ReadsPicks code text (c ∷ picks) rest =
    (text ≢ []) × (line : List ℕ) × (after : List ℕ) × IsFirstLine text line after × SpellsPick code line c × ReadsPicks code after picks rest

-- all lines of a text say these picks, at most 10,000,000 in all
pub record SpellsPicks (code : Code) (text : List ℕ) (picks : List CountedPick) : Type 0 where
  pub reads : ReadsPicks code text picks []
  pub few : length (spread picks) ≤ MAX_PICKS

-- the lines up to here say picks, at most 10,000,000 in all, and here another line begins
pub record IsFaultyLine (code : Code) (text : List ℕ) (before : List CountedPick) (line : List ℕ) (rest : List ℕ) : Type 0 where
  pub reads : ReadsPicks code text before rest
  pub few : length (spread before) ≤ MAX_PICKS
  pub some : rest ≢ []
  pub after : List ℕ
  pub first : IsFirstLine rest line after

-- the first faulty line: it says no pick, or the counts up to it are more than 10,000,000
abbrev pub IsFaulty : Code → List ℕ → PickFault → Type 0
IsFaulty code text (NotPicks at) =
    (before : List CountedPick) × (line : List ℕ) × (rest : List ℕ) × IsFaultyLine code text before line rest
    × (at + length rest ≡ length text) × ((c : CountedPick) → SpellsPick code line c → ⊥)
IsFaulty code text TooMany =
    (before : List CountedPick) × (line : List ℕ) × (rest : List ℕ) × IsFaultyLine code text before line rest
    × (c : CountedPick) × SpellsPick code line c × (MAX_PICKS < length (spread before) + c.count)
IsFaulty code text NoMemory = ⊤
