-- Which of some pick lines holds a pick.
use Rattle.std.specs.Prelude.{◌≡◌, ℕ, ◌+◌, ◌<◌, List, ◌∷◌, ◌++◌, length}
use Rattle.pb_code.specs.Whole.{Code}
use Rattle.pb_history.specs.Replays.{spread}
use Rattle.pb_history.specs.declared.counted.CountedPick.{CountedPick}
use Rattle.pb_message_stops.specs.declared.stops.Stop.{Stop}
use Rattle.pb_picks.specs.PickLines.{ReadsPicks}

-- the stop is at the pick with this number, counted from 0: the line that begins at its offset says this pick as often as
-- it counts; the picks before it are those that the lines before say, and then the picks of this line that were made
pub record HoldsPick (code : Code) (lines : List ℕ) (picks : List CountedPick) (number : ℕ) (stop : Stop) : Type 0 where
  pub before : List CountedPick
  pub counted : CountedPick
  pub behind : List CountedPick
  pub rest : List ℕ
  pub parts : picks ≡ before ++ (counted ∷ behind)
  pub reads : ReadsPicks code lines before rest
  pub there : stop.line + length rest ≡ length lines
  pub numbered : stop.number ≡ number
  pub pick : stop.pick ≡ counted.pick
  pub count : stop.count ≡ counted.count
  pub made : length (spread before) + stop.before ≡ number
  pub fewer : stop.before < stop.count
