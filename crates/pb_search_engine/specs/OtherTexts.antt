-- What is said of runs, or of a text, that are not as expected; and of a line that asks for nothing.
use Rattle.std.specs.Prelude.{ℕ, true, false, List, [], ◌∷◌, ◌++◌, Some, codes}
use Rattle.std.specs.Fmt.{decimal}
use Rattle.std.specs.List.{concat, flat_map}
use Rattle.pb_accept.specs.Causes.{cause_line}
use Rattle.pb_accept.specs.Objects.{cause_json}
use Rattle.pb_accept.specs.declared.cause.Cause.{Cause}
use Rattle.pb_base.specs.Lines.{line}
use Rattle.pb_json.specs.Strings.{escaped, string_text}
use Rattle.pb_options.specs.declared.code.Code.TheVariants.{K1}
use Rattle.pb_search_engine.specs.Requirements.{part_text}
use Rattle.pb_search_engine.specs.declared.other.Other.{Other}
use Rattle.pb_search_engine.specs.declared.other.Other.TheVariants.{Fault, Prints, Deadlock, Endless}
use Rattle.pb_search_engine.specs.declared.requirements.Requirement.{Requirement}
use Rattle.pb_search_engine.specs.declared.requirements.Requirement.TheVariants.{Claims, Has}

-- what is not as expected of runs
abbrev pub other_text : Other → List ℕ
other_text Fault = codes "a fault"
other_text Prints = codes "other prints"
other_text Deadlock = codes "a deadlock"
other_text (Endless false) = codes "some run does not end"
other_text (Endless true) = codes "some fair run does not end"

-- the line that says what is not as expected
abbrev pub other_line : List ℕ → List ℕ
other_line what = concat (codes "not as expected: " ∷ what ∷ codes "\n" ∷ [])

-- the same as an object
abbrev pub other_json : List ℕ → List ℕ
other_json what = concat (codes "{\"kind\":\"not as expected\",\"text\":" ∷ string_text what ∷ codes "}\n" ∷ [])

-- the object of a claim that is required and not there
abbrev pub claim_json : (amount : ℕ) → (name : List ℕ) → List ℕ
claim_json amount name =
    concat (codes "{\"kind\":\"not as expected\",\"text\":\"claims at least " ∷ decimal amount ∷ codes " " ∷ [])
    ++ (flat_map escaped name ++ codes "\"}\n")

-- the object of a requirement that is not met
abbrev pub lacks_json : Requirement → List ℕ
lacks_json (Claims amount name) = claim_json amount name.now
lacks_json (Has part) = other_json (part_text part)

-- the cause of lines of which the one that begins at this place asks for nothing
abbrev pub bad_cause : (at : ℕ) → Cause
bad_cause at = record { code = K1; at = Some at }

-- its line, and its object
abbrev pub bad_line : (at : ℕ) → List ℕ
bad_line at = line (cause_line (bad_cause at))

abbrev pub bad_json : (at : ℕ) → List ℕ
bad_json at = cause_json (Some (bad_cause at)) []
