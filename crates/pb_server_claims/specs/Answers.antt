-- What is answered to a request about what stands at a position of a text, and about its claims.
use Rattle.std.specs.Prelude.{◌≡◌, ℕ, List, Option}
use Rattle.serde_json.specs.Data.{Data}
use Rattle.pb_server_claims.specs.Hints.{hints_data}
use Rattle.pb_server_claims.specs.Hovers.{hover_asked}
use Rattle.pb_server_claims.specs.Known.{Known, Knows}
use Rattle.pb_server_names.specs.Asked.{asked_offset}

-- what is shown of a position
abbrev pub AnswersHover : (text : List ℕ) → Option Data → Data → Type 0
AnswersHover text params d =
    (known : Option Known) × Knows text known × (d ≡ hover_asked text known (asked_offset text params))

-- the claims of each process after its name
abbrev pub AnswersHints : (text : List ℕ) → Data → Type 0
AnswersHints text d = (known : Option Known) × Knows text known × (d ≡ hints_data text known)
