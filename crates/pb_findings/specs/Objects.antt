-- What is found, as an object of JSON on a line for each text.
use Rattle.std.specs.Prelude.{ℕ, Bool, true, false, List, [], ◌∷◌, ◌++◌, Option, Some, None, codes, string_bytes}
use Rattle.std.specs.Fmt.{decimal}
use Rattle.std.specs.List.{flat_map}
use Rattle.pb_findings.specs.Rules.{rule_name}
use Rattle.pb_findings.specs.Spots.{spots_of}
use Rattle.pb_findings.specs.Strings.{list_member, words_member, words_text}
use Rattle.pb_findings.specs.declared.refusal.Refusal.{Refusal}
use Rattle.pb_findings.specs.declared.said.Found.{Found}
use Rattle.pb_findings.specs.declared.said.Report.{Report}
use Rattle.pb_findings.specs.declared.said.Report.TheVariants as report
use Rattle.pb_findings.specs.declared.said.Verdict.{Verdict}
use Rattle.pb_findings.specs.declared.said.Verdict.TheVariants as verdict
use Rattle.pb_findings.specs.declared.spot.Spot.{Spot}
use Rattle.pb_findings.specs.declared.warned.Warned.{Warned}
use Rattle.pb_options.specs.Codes.{code_name}

-- ---- places

-- the line and the column of a place, as members
abbrev pub place_members : Spot → List ℕ
place_members spot = codes "\"line\": " ++ (decimal spot.line ++ (codes ", \"column\": " ++ decimal spot.column))

-- what is there, if that is said
abbrev pub what_text : List ℕ → List ℕ
what_text [] = []
what_text (b ∷ bytes) = codes ", \"what\": " ++ words_text (b ∷ bytes)

-- a place
abbrev pub spot_text : Spot → List ℕ
spot_text spot = codes "{" ++ (place_members spot ++ (what_text (string_bytes spot.what) ++ codes "}"))

-- the line and the column of the first place
abbrev pub first_text : List Spot → List ℕ
first_text [] = []
first_text (spot ∷ spots) = codes ", " ++ place_members spot

-- ---- texts

-- an offset in the file
abbrev pub offset_member : Option ℕ → List ℕ
offset_member None = []
offset_member (Some at) = codes ", \"offset\": " ++ decimal at

-- which text of which file it is
abbrev pub text_head : (name : List ℕ) → (number : ℕ) → List ℕ
text_head name number = codes "{\"file\": \"" ++ (name ++ (codes "\", \"text\": " ++ decimal number))

-- a warning: its code, its line, its words, and its place
abbrev pub warned_text : Warned → List ℕ
warned_text w =
    words_member (codes "{\"code\": ") (code_name w.code)
    ++ (words_member (codes ", \"warning\": ") w.line.items
    ++ (words_member (codes ", \"message\": ") (string_bytes w.message) ++ (codes ", " ++ (place_members w.spot ++ codes "}"))))

-- the warnings of an accepted text, if they are asked for
abbrev pub warnings_text : (warn : Bool) → List Warned → List ℕ
warnings_text false warned = []
warnings_text true warned = list_member (codes ", \"warnings\": ") warned_text warned

-- of an accepted text
abbrev pub acceptance_members : (warn : Bool) → List Warned → List ℕ
acceptance_members warn warned = codes ", \"accepted\": true" ++ (warnings_text warn warned ++ codes "}\n")

-- the code, the line and the words of a refusal
abbrev pub refusal_head : Refusal → List ℕ
refusal_head r =
    words_member (codes ", \"accepted\": false, \"code\": ") (rule_name r.rule)
    ++ (words_member (codes ", \"refusal\": ") r.line.items ++ words_member (codes ", \"message\": ") (string_bytes r.message))

-- where it is
abbrev pub refusal_places : Refusal → List ℕ
refusal_places r =
    offset_member r.offset ++ (first_text (spots_of r) ++ list_member (codes ", \"places\": ") spot_text (spots_of r))

-- what is expected, what is usually meant, and what else is said
abbrev pub refusal_notes : Refusal → List ℕ
refusal_notes r =
    list_member (codes ", \"expected\": ") (λ words. words_text (string_bytes words)) r.expected.items
    ++ (list_member (codes ", \"hints\": ") (λ words. words_text (string_bytes words)) r.hints.items
    ++ list_member (codes ", \"notes\": ") (λ words. words_text (string_bytes words)) r.notes.items)

-- all of these
abbrev pub refusal_members : Refusal → List ℕ
refusal_members r = refusal_head r ++ (refusal_places r ++ (refusal_notes r ++ codes "}\n"))

-- what comes of a text
abbrev pub verdict_members : (warn : Bool) → Verdict → List ℕ
verdict_members warn (verdict.Accepted warned) = acceptance_members warn warned.items
verdict_members warn (verdict.Refused r) = refusal_members r

-- the object of a text of a file
abbrev pub found_json : (warn : Bool) → (name : List ℕ) → Found → List ℕ
found_json warn name found = text_head name found.number ++ verdict_members warn found.verdict

-- ---- files

-- the object of a file that cannot be read
abbrev pub unread_json : (name reason : List ℕ) → List ℕ
unread_json name reason =
    codes "{\"file\": \"" ++ (name
    ++ (words_member (codes "\", \"accepted\": false, \"read\": false, \"message\": ") reason ++ codes "}\n"))

-- the objects of a file
abbrev pub report_json : (warn : Bool) → Report → List ℕ
report_json warn (report.Texts name found) = flat_map (found_json warn name.items) found.items
report_json warn (report.Unread name reason) = unread_json name.items reason.items
