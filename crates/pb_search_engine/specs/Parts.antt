-- The parts of outcomes and of deadlocks: where each process is, its integers, what it holds and what its arms ask for, by
-- the numbers of what they speak of.
use Rattle.std.specs.Prelude.{ℕ, zero, suc, ℤ, pos, Bool, true, false, List, [], ◌∷◌, ◌++◌, length, slice_index_or}
use Rattle.std.specs.List.{flat_map}
use Rattle.pb_search.specs.Deadlocks.{StuckProcess}
use Rattle.pb_search.specs.declared.found.Ask.{Ask}
use Rattle.pb_search.specs.declared.found.StuckState.{StuckState}
use Rattle.pb_search.specs.declared.found.StuckState.TheVariants.{Ended, Faulted}
use Rattle.pb_search_engine.specs.OutcomeLines.{outcome_at}
use Rattle.pb_search_engine.specs.declared.part.Part.{Part}
use Rattle.pb_search_engine.specs.declared.part.Part.TheVariants.{Stands, Integer, Holds, Asks}
use Rattle.pb_search_engine.specs.declared.part.Section.{Section}
use Rattle.pb_search_engine.specs.declared.part.Section.TheVariants as section
use Rattle.pb_search_stages.specs.Reaching.{ProcessOutcome}

-- a process of a deadlock, by its number
abbrev pub stuck_at : List StuckProcess → ℕ → StuckProcess
stuck_at processes p =
    slice_index_or processes p (record { integers = []; state = Ended; holds = []; asks = [] })

-- what is collected of each number below n, one after another
abbrev pub collected : {X : Type 0} → (ℕ → List X) → ℕ → List X
collected said zero = []
collected said (suc n) = collected said n ++ said n

-- where a process is that has ended, by whether it has faulted
abbrev pub end_state : (faulted : Bool) → StuckState
end_state true = Faulted
end_state false = Ended

-- the integers of a process
abbrev pub integer_parts : (process : ℕ) → List ℤ → List Part
integer_parts process values =
    collected (λ x. Integer process x (slice_index_or values x (pos 0)) ∷ []) (length values)

-- how much a process holds of a resource, if it holds some
abbrev pub holds_part : (process resource amount : ℕ) → List Part
holds_part process resource zero = []
holds_part process resource (suc n) = Holds process resource (suc n) ∷ []

-- what a process holds, in the order of the resources
abbrev pub hold_parts : (process : ℕ) → List ℕ → List Part
hold_parts process holds = collected (λ r. holds_part process r (slice_index_or holds r 0)) (length holds)

-- what the arms of a process ask for
abbrev pub ask_parts : (process : ℕ) → List Ask → List Part
ask_parts process asks = flat_map (λ ask. Asks process ask ∷ []) asks

-- how a process ended, and then its integers
abbrev pub end_parts : (process : ℕ) → ProcessOutcome → List Part
end_parts process o = (Stands process (end_state o.faulted) ∷ []) ++ integer_parts process o.integers

-- where a process is in a deadlock, its integers, what it holds and what its arms ask for
abbrev pub stuck_parts : (process : ℕ) → StuckProcess → List Part
stuck_parts process s =
    (Stands process s.state ∷ []) ++ integer_parts process s.integers ++ hold_parts process s.holds ++ ask_parts process s.asks

-- those of all processes, in their order
abbrev pub outcome_parts : List ProcessOutcome → List Part
outcome_parts processes = collected (λ p. end_parts p (outcome_at processes p)) (length processes)

abbrev pub deadlock_parts : List StuckProcess → List Part
deadlock_parts processes = collected (λ p. stuck_parts p (stuck_at processes p)) (length processes)

-- whether a part is of a section
abbrev pub is_of : Section → Part → Bool
is_of section.Processes (Stands process state) = true
is_of section.Processes (Integer process integer value) = false
is_of section.Processes (Holds process resource amount) = false
is_of section.Processes (Asks process ask) = false
is_of section.Integers (Stands process state) = false
is_of section.Integers (Integer process integer value) = true
is_of section.Integers (Holds process resource amount) = false
is_of section.Integers (Asks process ask) = false
is_of section.Holds (Stands process state) = false
is_of section.Holds (Integer process integer value) = false
is_of section.Holds (Holds process resource amount) = true
is_of section.Holds (Asks process ask) = false
is_of section.Asks (Stands process state) = false
is_of section.Asks (Integer process integer value) = false
is_of section.Asks (Holds process resource amount) = false
is_of section.Asks (Asks process ask) = true
