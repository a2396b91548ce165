-- The bundles of a process, which its instructions name by their place.
use Rattle.std.specs.Prelude.{◌≡◌, ◌<◌, ℕ, List, [], ◌++◌, length, Some, slice_get, slice_index_or, ⊤}
use Rattle.pb_base.specs.declared.pair.Pair.{Pair}
use Rattle.pb_base.specs.Steppers.{Bundle}
use Rattle.pb_code.specs.declared.code.ProcessCode.{ProcessCode as GivenProcess}
use Rattle.pb_code.specs.declared.instr.Instr.{Instr as Given}
use Rattle.pb_code.specs.declared.instr.Instr.TheVariants as given

-- the bundle with a number, empty if there is none
abbrev pub bundle_of : GivenProcess → ℕ → Bundle
bundle_of code k = slice_index_or code.bundles.items k []

-- an instruction that names no bundle
abbrev pub IsPlain : Given → Type 0
IsPlain (given.Take k) = ⊥
IsPlain (given.Give k) = ⊥
IsPlain i = ⊤

-- the instruction names no bundle from the n-th on
abbrev pub NamesBelow : ℕ → Given → Type 0
NamesBelow n (given.Take k) = k < n
NamesBelow n (given.Give k) = k < n
NamesBelow n i = ⊤

-- more bundles at the end leave the places of the others
abbrev pub Extends : List (List Pair) → List (List Pair) → Type 0
Extends before after = (more : List (List Pair)) × (after ≡ before ++ more)

-- each take names one of the bundles of its process
pub record NamesBundles (code : GivenProcess) : Type 0 where
  pub takes : (place k : ℕ) → slice_get code.instrs.items place ≡ Some (given.Take k) → k < length code.bundles.items
