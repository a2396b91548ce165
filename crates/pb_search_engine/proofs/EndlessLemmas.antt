-- What is found of a circle, or that there is none.
use Rattle.std.proofs.Common.{◌≡◌, ⊎_elim, ℕ, List, [], ◌∷◌, Result, Ok, Err, IfOk, map, sym, subst}
use Rattle.std.specs.Prelude.{Bool}
use Rattle.pb_base.specs.declared.lending.Lending.{Lending}
use Rattle.pb_base.specs.declared.memory.NoMemory.{NoMemory}
use Rattle.pb_base.specs.declared.pick.Pick.{Pick}
use Rattle.pb_code.specs.Whole.{Code}
use Rattle.pb_command_io.specs.declared.status.Status.{Status}
use Rattle.pb_command_io.specs.declared.status.Status.TheVariants.{Done, Limit}
use Rattle.pb_search_engine.specs.Items.{AllEnd, Item, More, given_item_view}
use Rattle.pb_search_engine.specs.SaysEndless.{SaysOfCircle, TellsCircle, endless, ends, long, many}
use Rattle.pb_search_engine.specs.SourceOutcomes.{without_prints}
use Rattle.pb_search_engine.specs.declared.answer.Answer.{Answer}
use Rattle.pb_search_engine.specs.declared.item.Bound.TheVariants.{Configurations}
use Rattle.pb_search.specs.Outcomes.{IsExcess}
use Rattle.pb_search_fair.specs.EndlessRuns.{GoesRound, NeverEnds}
use Rattle.pb_search_stages.specs.Traces.{TraceLeads, trace_opening}

-- what may be said of these items may be said of what is found, if it is these
said_of : (AreFound : List Item → Status → Type 0) (items : List Item) (status : Status) → AreFound items status → (answer : Result Answer NoMemory)
    → IfOk answer (λ a. map given_item_view a.items.items ≡ items) → IfOk answer (λ a. a.status ≡ status)
    → IfOk answer (λ a. AreFound (map given_item_view a.items.items) a.status)
said_of AreFound items status are (Ok a) same same_status =
    subst (λ (s : Status). AreFound (map given_item_view a.items.items) s) (sym same_status)
    (subst (λ (l : List Item). AreFound l status) (sym same) are)
said_of AreFound items status are (Err e) same same_status = tt

module _ (fair : Bool) (lending : Lending) (code : Code) (states : ℕ) (answer : Result Answer NoMemory) where
  pub ends_said : (NeverEnds (TraceLeads (without_prints lending) code) fair (trace_opening code) → ⊥)
      → IfOk answer (λ a. map given_item_view a.items.items ≡ AllEnd fair ∷ []) → IfOk answer (λ a. a.status ≡ Done)
      → IfOk answer (λ a. SaysOfCircle fair lending code states (map given_item_view a.items.items) a.status)
  ends_said none = said_of (SaysOfCircle fair lending code states) (AllEnd fair ∷ []) Done (ends none) answer

  pub many_said : IsExcess (without_prints lending) code states
      → IfOk answer (λ a. map given_item_view a.items.items ≡ More Configurations states ∷ []) → IfOk answer (λ a. a.status ≡ Limit)
      → IfOk answer (λ a. SaysOfCircle fair lending code states (map given_item_view a.items.items) a.status)
  many_said excess = said_of (SaysOfCircle fair lending code states) (More Configurations states ∷ []) Limit (many excess) answer

-- of a circle its picks may be said, or that they are too many
circle_is : (fair : Bool) (lending : Lending) (code : Code) (states : ℕ) (lead round : List Pick)
    → GoesRound (TraceLeads (without_prints lending) code) fair (trace_opening code) lead round
    → (items : List Item) (status : Status) → TellsCircle fair lead round items status → SaysOfCircle fair lending code states items status
circle_is fair lending code states lead round is items status tells = ⊎_elim
    (λ told. subst (λ (s : Status). SaysOfCircle fair lending code states items s) (sym told.2.3)
    (subst (λ (l : List Item). SaysOfCircle fair lending code states l Done) (sym told.2.2)
    (endless lead round is told.0 told.2.0 told.1 told.2.1)))
    (λ told. subst (λ (s : Status). SaysOfCircle fair lending code states items s) (sym told.2)
    (subst (λ (l : List Item). SaysOfCircle fair lending code states l Limit) (sym told.1)
    (long lead round is told.0)))
    tells

pub circle_said : (fair : Bool) (lending : Lending) (code : Code) (states : ℕ) (answer : Result Answer NoMemory) (lead round : List Pick)
    → GoesRound (TraceLeads (without_prints lending) code) fair (trace_opening code) lead round
    → IfOk answer (λ a. TellsCircle fair lead round (map given_item_view a.items.items) a.status)
    → IfOk answer (λ a. SaysOfCircle fair lending code states (map given_item_view a.items.items) a.status)
circle_said fair lending code states (Ok a) lead round is tells =
    circle_is fair lending code states lead round is (map given_item_view a.items.items) a.status tells
circle_said fair lending code states (Err e) lead round is tells = tt
