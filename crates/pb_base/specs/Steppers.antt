-- Processes that take one step at a time, a pick a step, under a lender. The source of a program is such a
-- thing, and so is its code; what both share is here once.
use Rattle.std.specs.Prelude.{◌≡◌, ℕ, zero, suc, ◌≤◌, ℤ, List, [], ◌∷◌, ◌++◌, length, map, replicate, slice_get}
use Rattle.std.specs.Prelude.{slice_set, Option, Some, None, option_map, option_and_then, option_to_list, ⊤}
use Rattle.pb_base.specs.declared.operators.FaultKind.{FaultKind}
use Rattle.pb_base.specs.declared.pair.Pair.{Pair}
use Rattle.pb_base.specs.Bundle.{lend, give_back}
use Rattle.pb_base.specs.Banker.{BankerState, IsAllowed, IsWithinCash, row_of}
use Rattle.pb_base.specs.declared.lending.Lending.{Lending}
use Rattle.pb_base.specs.declared.lending.Lending.TheVariants.{ByBanker, ByCash}
use Rattle.pb_base.specs.declared.pick.Pick.{Pick}
use Rattle.pb_base.specs.declared.event.Event.{Event}
use Rattle.pb_base.specs.declared.event.Event.TheVariants.{Granted, Returned, Printed, Faulted, Finished}

-- what a request asks for
abbrev pub Bundle : Type 0
Bundle = List Pair

-- a row for each process, an amount for each resource
abbrev pub Table : Type 0
Table = List (List ℕ)

-- what the step of one process does outside it
pub data Effect : Type 0 where
  Silent : Effect
  Prints : ℤ → Effect
  Takes Returns : Bundle → Effect
  Faults : FaultKind → Effect
  Finishes : Effect

-- the end of arm 0 is the end of its process
abbrev pub ending : (arm : ℕ) → Effect
ending zero = Finishes
ending (suc arm) = Silent

-- the event of an effect, if it has one
abbrev pub event_of : Pick → Effect → Option Event
event_of pick Silent = None
event_of pick (Prints v) = Some (Printed pick v)
event_of pick (Takes bundle) = Some (Granted pick bundle)
event_of pick (Returns bundle) = Some (Returned pick bundle)
event_of pick (Faults kind) = Some (Faulted pick kind)
event_of pick Finishes = Some (Finished pick.process)

-- the loans after an effect of process p: a fault hands back all that the process holds
abbrev pub loans_after : Table → ℕ → Effect → Table
loans_after loans p Silent = loans
loans_after loans p (Prints v) = loans
loans_after loans p (Takes bundle) = slice_set loans p (lend (row_of loans p) bundle)
loans_after loans p (Returns bundle) = slice_set loans p (give_back (row_of loans p) bundle)
loans_after loans p (Faults kind) = slice_set loans p (map (λ _. 0) (row_of loans p))
loans_after loans p Finishes = loans

-- what the lender knows beside the loans, and who it is
pub record Bank : Type 0 where
  pub capital : List ℕ
  pub claims : Table
  pub lends : Lending

-- the state that a lender decides on: what it knows, and these loans
abbrev pub banker_state : Bank → Table → BankerState
banker_state bank loans = record { capital = bank.capital; claims = bank.claims; loans = loans }

-- the lender grants the request: the banker if it is allowed, the till if the cash suffices (that no request
-- passes its claim holds of both)
abbrev pub IsLent : Lending → BankerState → ℕ → Bundle → Type 0
IsLent ByBanker s p bundle = IsAllowed s p bundle
IsLent ByCash s p bundle = IsWithinCash s bundle

-- a step that takes is made only if the lender grants it
abbrev pub IsGranted : Bank → Table → ℕ → Effect → Type 0
IsGranted bank loans p Silent = ⊤
IsGranted bank loans p (Prints v) = ⊤
IsGranted bank loans p (Takes bundle) = IsLent bank.lends (banker_state bank loans) p bundle
IsGranted bank loans p (Returns bundle) = ⊤
IsGranted bank loans p (Faults kind) = ⊤
IsGranted bank loans p Finishes = ⊤

-- all processes, and all loans
pub record State (P : Type 0) : Type 0 where
  pub processes : List P
  pub loans : Table

-- how process p in a given state steps at one of its arms, if it can: its next state, and the effect
abbrev pub Stepper : Type 0 → Type 0
Stepper P = (p : ℕ) → P → (arm : ℕ) → Option (P × Effect)

-- what one pick leads to
pub record Move (P : Type 0) : Type 0 where
  pub next : State P
  pub effect : Effect

-- what a pick leads to when its process steps so: that process and the loans change, and no other process
abbrev pub moved : {P : Type 0} → State P → Pick → P × Effect → Move P
moved s pick step = record {
  next = record {
    processes = slice_set s.processes pick.process step.0;
    loans = loans_after s.loans pick.process step.1;
  };
  effect = step.1;
}

-- what a pick does, all but the lender's leave
abbrev pub move_of : {P : Type 0} → Stepper P → State P → Pick → Option (Move P)
move_of step s pick =
    option_and_then (λ process. option_map (moved s pick) (step pick.process process pick.arm))
    (slice_get s.processes pick.process)

-- these picks, each enabled in turn, lead from one state to another and make these events
abbrev pub Makes : {P : Type 0} → Bank → Stepper P → State P → List Pick → List Event → State P → Type 0
Makes bank step s [] events end = (events ≡ []) × (end ≡ s)
Makes {P = P} bank step s (pick ∷ picks) events end =
    (move : Move P) × (move_of step s pick ≡ Some move) × IsGranted bank s.loans pick.process move.effect
    × (later : List Event) × (events ≡ option_to_list (event_of pick move.effect) ++ later)
    × Makes bank step move.next picks later end

-- at most n picks make exactly these events
abbrev pub Can : {P : Type 0} → Bank → Stepper P → State P → List Event → ℕ → Type 0
Can {P = P} bank step start events n =
    (picks : List Pick) × (end : State P) × (length picks ≤ n) × Makes bank step start picks events end

-- at the start nothing is lent
abbrev pub opening : {P : Type 0} → Bank → List P → State P
opening bank processes = record {
  processes = processes;
  loans = map (λ _. replicate (length bank.capital) 0) processes;
}

-- ---- finished, and stuck

-- every process has ended or faulted
abbrev pub IsFinished : {P : Type 0} → (P → Type 0) → State P → Type 0
IsFinished {P = P} over s = (p : ℕ) (process : P) → slice_get s.processes p ≡ Some process → over process

-- some pick is enabled
abbrev pub CanGoOn : {P : Type 0} → Bank → Stepper P → State P → Type 0
CanGoOn {P = P} bank step s =
    (pick : Pick) × (move : Move P) × (move_of step s pick ≡ Some move)
    × IsGranted bank s.loans pick.process move.effect
