-- The line that each event prints, without the line feed at its end. A number is in decimal, with a minus
-- sign if it is below zero.
use Rattle.std.specs.Prelude.{ℕ, zero, suc, ◌<◌, List, [], ◌∷◌, ◌++◌, length, map, All, codes, slice_index_or}
use Rattle.std.specs.Fmt.{decimal, signed_decimal}
use Rattle.std.specs.List.{flat_map}
use Rattle.pb_base.specs.declared.names.Names.{Names}
use Rattle.pb_base.specs.declared.event.Event.{Event}
use Rattle.pb_base.specs.declared.event.Event.TheVariants.{Granted, Returned, Printed, Faulted, Finished}
use Rattle.pb_base.specs.declared.operators.FaultKind.{FaultKind}
use Rattle.pb_base.specs.declared.operators.FaultKind.TheVariants.{Divide, Overflow}
use Rattle.pb_base.specs.declared.pair.Pair.{Pair}
use Rattle.pb_base.specs.declared.pick.Pick.{Pick}

-- a line of text ends in a line feed
abbrev pub line : List ℕ → List ℕ
line text = text ++ 10 ∷ []

-- what is said of each number below n, one after another
abbrev pub each_below : (ℕ → List ℕ) → ℕ → List ℕ
each_below said zero = []
each_below said (suc n) = each_below said n ++ said n

-- the names by number, each as its bytes
pub record NameTable : Type 0 where
  pub processes : List (List ℕ)
  pub resources : List (List ℕ)

-- the names in a table of bytes
abbrev pub names_view : Names → NameTable
names_view names = record {
  processes = map (λ name. name.items) names.processes.items;
  resources = map (λ name. name.items) names.resources.items;
}

-- the name with a number
abbrev pub name_of : List (List ℕ) → ℕ → List ℕ
name_of names i = slice_index_or names i []

-- `P.a`: the process, and its arm
abbrev pub pick_text : NameTable → Pick → List ℕ
pick_text names pick = name_of names.processes pick.process ++ codes "." ++ decimal pick.arm

-- ` k R`: the amount, and its resource
abbrev pub pair_text : NameTable → Pair → List ℕ
pair_text names pair = codes " " ++ decimal pair.amount ++ codes " " ++ name_of names.resources pair.resource

-- all pairs, in their order
abbrev pub pairs_text : NameTable → List Pair → List ℕ
pairs_text names pairs = flat_map (pair_text names) pairs

-- the word for a fault
abbrev pub fault_text : FaultKind → List ℕ
fault_text Divide = codes "divide"
fault_text Overflow = codes "overflow"

-- the line of an event
unfoldable pub line_of : NameTable → Event → List ℕ
line_of names (Granted pick bundle) = pick_text names pick ++ codes " grant" ++ pairs_text names bundle
line_of names (Returned pick bundle) = pick_text names pick ++ codes " return" ++ pairs_text names bundle
line_of names (Printed pick value) = pick_text names pick ++ codes " print " ++ signed_decimal value
line_of names (Faulted pick kind) = pick_text names pick ++ codes " fault " ++ fault_text kind
line_of names (Finished process) = name_of names.processes process ++ codes " end"

-- a process with this number has a name
abbrev pub HasProcess : NameTable → ℕ → Type 0
HasProcess names process = process < length names.processes

-- so has each resource in the pairs
abbrev pub HaveResources : NameTable → List Pair → Type 0
HaveResources names pairs = All (λ pair. pair.resource < length names.resources) pairs

-- all that an event speaks of has a name
abbrev pub HasNames : NameTable → Event → Type 0
HasNames names (Granted pick bundle) = HasProcess names pick.process × HaveResources names bundle
HasNames names (Returned pick bundle) = HasProcess names pick.process × HaveResources names bundle
HasNames names (Printed pick value) = HasProcess names pick.process
HasNames names (Faulted pick kind) = HasProcess names pick.process
HasNames names (Finished process) = HasProcess names process
