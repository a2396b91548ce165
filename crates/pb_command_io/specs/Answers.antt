-- What a command writes, and its status: lines, of which being out of memory or a fault of a device may cut
-- off the rest.
use Rattle.std.specs.Prelude.{◌≡◌, ◌++◌, ◌⊎◌, ℕ, List, Option, codes}
use Rattle.pb_base.specs.Device.{appended, AddsPrefix}
use Rattle.pb_command_io.specs.declared.status.Status.{Status}
use Rattle.pb_command_io.specs.declared.status.Status.TheVariants.{Device}
use Rattle.pb_base.specs.Lines.{line}

-- the line of a command that is out of memory
abbrev pub memory_line : List ℕ
memory_line = line (codes "memory")

-- a first part of the text was added to an output, and the rest is left
abbrev pub Leaves : Option (List ℕ) → Option (List ℕ) → List ℕ → List ℕ → Type 0
Leaves old new text rest = (done : List ℕ) × (text ≡ done ++ rest) × (new ≡ appended old done)

-- the whole text was added and the status returned, or a device failed and a first part was added
abbrev pub Says : Option (List ℕ) → Option (List ℕ) → List ℕ → Status → Status → Type 0
Says old new text status answered =
    ((new ≡ appended old text) × (answered ≡ status)) ⊎ (AddsPrefix old new text × (answered ≡ Device))

-- one of some texts was said, with its status
abbrev pub Tells : (List ℕ → Status → Type 0) → Option (List ℕ) → Option (List ℕ) → Status → Type 0
Tells MaySay old new answered =
    (text : List ℕ) × (status : Status) × MaySay text status × Says old new text status answered
