-- The totals, if there are deadlocks.
use Rattle.std.proofs.Common.{◌≡◌, ◌≢◌, ℕ, zero, suc, [], ◌∷◌, refl}
use Rattle.std.specs.Prelude.{Bool, codes}
use Rattle.std.specs.Fmt.{decimal}
use Rattle.std.specs.List.{concat}
use Rattle.pb_search_engine.specs.ItemLines.{totals_line}
use Rattle.pb_search_engine.specs.ItemObjects.{endless_json, totals_json}
use Rattle.pb_search_engine.specs.OutcomeLines.{plural, runs_text}

pub some_json : (outcomes deadlocks : ℕ) (cycles : Bool) → deadlocks ≢ 0
    → concat (codes "{\"kind\":\"outcomes\"," ∷ endless_json cycles ∷ codes ",\"outcomes\":" ∷ decimal outcomes ∷ codes ",\"deadlocks\":"
    ∷ decimal deadlocks ∷ codes "}\n" ∷ []) ≡ totals_json outcomes deadlocks cycles
some_json outcomes zero cycles some = absurd (some refl)
some_json outcomes (suc n) cycles some = refl

pub some_line : (outcomes deadlocks : ℕ) (cycles : Bool) → deadlocks ≢ 0
    → concat (decimal outcomes ∷ codes " outcome" ∷ plural outcomes ∷ codes ", " ∷ decimal deadlocks ∷ codes " deadlock" ∷ plural deadlocks
    ∷ runs_text cycles ∷ codes "\n" ∷ []) ≡ totals_line outcomes deadlocks cycles
some_line outcomes zero cycles some = absurd (some refl)
some_line outcomes (suc n) cycles some = refl
