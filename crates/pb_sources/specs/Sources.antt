-- The first part of an input that may be a text or an object, and the code that it gives.
use Rattle.std.specs.Prelude.{◌≡◌, ◌⊎◌, ℕ, List, codes, take, Option, Some, None}
use Rattle.pb_accept.specs.Loading.{IsLoaded, SaysOfNoCode}
use Rattle.pb_accept.specs.Refusals.{SaysOfRefusedText}
use Rattle.pb_code.specs.Whole.{Code, ProcessLabels}
use Rattle.pb_codegen.specs.Compiled.{IsCompiled}
use Rattle.pb_command_io.specs.declared.status.Status.{Status}

-- the first part is an object exactly if it begins with these four bytes
abbrev pub IsObjectPart : List ℕ → Type 0
IsObjectPart source = take 4 source ≡ codes "PBO "

-- the code and the labels that the first part gives, and the text whose lines are shown: the first part, if
-- it is not an object
abbrev pub GivesCode : (source : List ℕ) → Code → List ProcessLabels → (shown : Option (List ℕ)) → Type 0
GivesCode source code labels shown =
    (IsObjectPart source × IsLoaded source code labels × (shown ≡ None))
    ⊎ ((¬ IsObjectPart source) × IsCompiled source code labels × (shown ≡ Some source))

-- what is said of a first part that gives none
abbrev pub SaysOfNoSource : (source : List ℕ) → List ℕ → Status → Type 0
SaysOfNoSource source text status =
    (IsObjectPart source × SaysOfNoCode source text status) ⊎ ((¬ IsObjectPart source) × SaysOfRefusedText source text status)
