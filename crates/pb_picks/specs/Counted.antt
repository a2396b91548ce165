-- Picks that are counted as they are made.
use Rattle.std.specs.Prelude.{◌≢◌, ◌<◌, List, [], ◌∷◌, ⊤}
use Rattle.pb_history.specs.declared.counted.CountedPick.{CountedPick}

-- each count is above 0, and no two that follow one another are of one arm
abbrev pub AreApart : List CountedPick → Type 0
AreApart [] = ⊤
AreApart (c ∷ []) = 0 < c.count
AreApart (c ∷ (d ∷ picks)) = (0 < c.count) × (c.pick ≢ d.pick) × AreApart (d ∷ picks)
