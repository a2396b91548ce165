-- What a text has to have beside its prints: lines before the print lines, each of which says a requirement.
use Rattle.std.specs.Prelude.{◌≡◌, ◌≢◌, ◌⊎◌, ◌+◌, ◌<◌, ◌≤◌, ℕ, Bool, true, false, List, [], ◌∷◌, ◌++◌, All, Some, codes, length, slice_get, take, ⊤}
use Rattle.std.specs.Fmt.{decimal}
use Rattle.std.specs.List.{list_any}
use Rattle.pb_base.specs.Banker.{cell}
use Rattle.pb_base.specs.declared.limits.TheConstants.{MAX_AMOUNT}
use Rattle.pb_code.specs.Code.{Fork, Instr, ProcessCode, Take}
use Rattle.pb_code.specs.Limits.{IsName, IsUpTo}
use Rattle.pb_code.specs.Whole.{Code}
use Rattle.pb_picks.specs.PickLines.{IsFirstLine}
use Rattle.pb_search_engine.specs.PrintLines.{IsBadPrint, SpellsPrints}
use Rattle.pb_search_engine.specs.declared.print_lines.PrintFault.{PrintFault}
use Rattle.pb_search_engine.specs.declared.print_lines.PrintFault.TheVariants.{NoMemory, NotPrint}
use Rattle.pb_search_engine.specs.declared.requirements.Part.{Part}
use Rattle.pb_search_engine.specs.declared.requirements.Part.TheVariants.{Hold, Parbegin}
use Rattle.pb_search_engine.specs.declared.requirements.Requirement.{Requirement}
use Rattle.pb_search_engine.specs.declared.requirements.Requirement.TheVariants.{Claims, Has}
use Rattle.pb_search_stages.specs.declared.print.Print.{Print}

-- ---- what is required, and whether it is met

-- the part is a parbegin, or a hold
abbrev pub is_parbegin : Part → Bool
is_parbegin Parbegin = true
is_parbegin Hold = false

abbrev pub is_hold : Part → Bool
is_hold Parbegin = false
is_hold Hold = true

-- the instruction begins the arms of a parbegin, if that is the part, or takes what a hold asks for
abbrev pub is_of : Part → Instr → Bool
is_of part (Fork first count) = is_parbegin part
is_of part (Take bundle) = is_hold part
is_of part i = false

-- the process has such an instruction
abbrev pub has_part : Part → ProcessCode → Bool
has_part part process = list_any (is_of part) process.instrs

-- some process claims at least so much of the resource with this number
abbrev pub SomeClaims : Code → (amount resource : ℕ) → Type 0
SomeClaims code amount resource = (p : ℕ) × (p < length code.processes) × (amount ≤ cell code.claims p resource)

-- there is a resource with this name, and some process claims at least so much of it
abbrev pub IsClaimed : Code → (amount : ℕ) → (name : List ℕ) → Type 0
IsClaimed code amount name = (r : ℕ) × (slice_get code.names.resources r ≡ Some name) × SomeClaims code amount r

-- such an amount is claimed; some process has the part
abbrev pub IsMet : Code → Requirement → Type 0
IsMet code (Claims amount name) = IsClaimed code amount name.now
IsMet code (Has part) = list_any (has_part part) code.processes ≡ true

-- each of them is met
abbrev pub AreMet : Code → List Requirement → Type 0
AreMet code requirements = All (IsMet code) requirements

-- it is one of them and is not met, and each before it is
pub record IsFirstUnmet (code : Code) (requirements : List Requirement) (r : Requirement) : Type 0 where
  pub at : ℕ
  pub there : slice_get requirements at ≡ Some r
  pub unmet : ¬ IsMet code r
  pub before : AreMet code (take at requirements)

-- ---- the lines

-- `has a parbegin`, `has a hold`
abbrev pub part_text : Part → List ℕ
part_text Parbegin = codes "has a parbegin"
part_text Hold = codes "has a hold"

-- `K R`: the amount, and the name of a resource
abbrev pub claim_text : (amount : ℕ) → (name : List ℕ) → List ℕ
claim_text amount name = decimal amount ++ (codes " " ++ name)

-- how a requirement is written: `claims at least K R`, or that it has a part
abbrev pub requirement_text : Requirement → List ℕ
requirement_text (Claims amount name) = codes "claims at least " ++ claim_text amount name.now
requirement_text (Has part) = part_text part

-- an amount from 1 to 1,000,000, and what may be the name of a resource, whether or not the text has it
abbrev pub MayBeClaimed : (amount : ℕ) → (name : List ℕ) → Type 0
MayBeClaimed amount name = IsUpTo MAX_AMOUNT amount × IsName name

-- what may be required
abbrev pub MayBeRequired : Requirement → Type 0
MayBeRequired (Claims amount name) = MayBeClaimed amount name.now
MayBeRequired (Has part) = ⊤

-- the line says the requirement
pub record SpellsRequirement (text : List ℕ) (r : Requirement) : Type 0 where
  pub may : MayBeRequired r
  pub spelled : text ≡ requirement_text r

-- the lines of a text say these requirements, up to where this rest of it begins
abbrev pub ReadsRequirements : (text : List ℕ) → List Requirement → (rest : List ℕ) → Type 0
ReadsRequirements text [] rest = text ≡ rest
ReadsRequirements text (r ∷ requirements) rest =
    (text ≢ []) × (line : List ℕ) × (after : List ℕ) × IsFirstLine text line after × SpellsRequirement line r
    × ReadsRequirements after requirements rest

-- the text has no line, or its first line says no requirement
abbrev pub BeginsOtherwise : (text : List ℕ) → Type 0
BeginsOtherwise text =
    (text ≡ []) ⊎ ((line : List ℕ) × (after : List ℕ) × IsFirstLine text line after
    × ((r : Requirement) → ¬ SpellsRequirement line r))

-- the first lines of a text say these requirements, and what follows begins otherwise
pub record AreRequirements (text : List ℕ) (requirements : List Requirement) (rest : List ℕ) : Type 0 where
  pub reads : ReadsRequirements text requirements rest
  pub others : BeginsOtherwise rest

-- the first lines of a text say these requirements, and all others say these prints of the code
abbrev pub SpellsAsked : Code → (text : List ℕ) → List Requirement → List Print → Type 0
SpellsAsked code text requirements prints =
    (rest : List ℕ) × AreRequirements text requirements rest × SpellsPrints code rest prints

-- after the first lines, which say requirements, lines say prints up to this place of the text, and the line that begins
-- there says none
abbrev pub IsBadAsked : Code → (text : List ℕ) → PrintFault → Type 0
IsBadAsked code text (NotPrint at) =
    (requirements : List Requirement) × (rest : List ℕ) × AreRequirements text requirements rest
    × (within : ℕ) × IsBadPrint code rest (NotPrint within) × (at + length rest ≡ length text + within)
IsBadAsked code text NoMemory = ⊤
