-- What is found, as lines of a compiler, each with a place of a file.
use Rattle.std.specs.Prelude.{ℕ, List, [], ◌∷◌, ◌++◌, codes, string_bytes}
use Rattle.std.specs.Fmt.{decimal}
use Rattle.std.specs.List.{flat_map}
use Rattle.pb_findings.specs.Rules.{rule_name}
use Rattle.pb_findings.specs.Spots.{spots_of}
use Rattle.pb_findings.specs.declared.gcc.At.{At}
use Rattle.pb_findings.specs.declared.refusal.Refusal.{Refusal}
use Rattle.pb_findings.specs.declared.said.Found.{Found}
use Rattle.pb_findings.specs.declared.said.Report.{Report}
use Rattle.pb_findings.specs.declared.said.Report.TheVariants as report
use Rattle.pb_findings.specs.declared.said.Verdict.{Verdict}
use Rattle.pb_findings.specs.declared.said.Verdict.TheVariants as verdict
use Rattle.pb_findings.specs.declared.spot.Spot.{Spot}
use Rattle.pb_findings.specs.declared.warned.Warned.{Warned}
use Rattle.pb_options.specs.Codes.{code_name}

-- ---- lines

-- the place with which a line begins
abbrev pub place_gcc : (name : List ℕ) → At → List ℕ
place_gcc name place = name ++ ((codes ":" ++ decimal place.line) ++ ((codes ":" ++ decimal place.column) ++ codes ": "))

-- the line of a refusal or a warning, which the level says: its code, and what is wrong
abbrev pub head_gcc : (name : List ℕ) → At → (level code words : List ℕ) → List ℕ
head_gcc name place level code words =
    place_gcc name place ++ (level ++ ((codes ": " ++ code) ++ ((codes ": " ++ words) ++ codes "\n")))

-- the line of a note: of which kind it is, and its words
abbrev pub note_gcc : (name : List ℕ) → At → (kind words : List ℕ) → List ℕ
note_gcc name place kind words = place_gcc name place ++ ((codes "note: " ++ kind) ++ (words ++ codes "\n"))

-- ---- places

-- the line and the column of a place
abbrev pub start_of_spot : Spot → At
start_of_spot spot = record { line = spot.line; column = spot.column }

-- those of the first of some; of none the begin of the file
abbrev pub first_start : List Spot → At
first_start [] = record { line = 1; column = 1 }
first_start (first ∷ others) = start_of_spot first

-- what there is to say of a place that is not the first
abbrev pub what_else : (what : List ℕ) → List ℕ
what_else [] = codes "here too"
what_else (b ∷ bytes) = b ∷ bytes

-- the note of such a place
abbrev pub further_gcc : (name : List ℕ) → Spot → List ℕ
further_gcc name spot = note_gcc name (start_of_spot spot) [] (what_else (string_bytes spot.what))

-- the note of the first one, if there is more to say of it than the message
abbrev pub first_gcc : (name : List ℕ) → At → (what : List ℕ) → List ℕ
first_gcc name place [] = []
first_gcc name place (b ∷ bytes) = note_gcc name place [] (b ∷ bytes)

-- the notes of places
abbrev pub spots_gcc : (name : List ℕ) → List Spot → List ℕ
spots_gcc name [] = []
spots_gcc name (first ∷ others) = first_gcc name (start_of_spot first) (string_bytes first.what) ++ flat_map (further_gcc name) others

-- ---- findings

-- a refusal: where and what it is, its other places, and what else there is to say
abbrev pub refusal_gcc : (name : List ℕ) → Refusal → List ℕ
refusal_gcc name r =
    head_gcc name (first_start (spots_of r)) (codes "error") (rule_name r.rule) (string_bytes r.message)
    ++ (spots_gcc name (spots_of r)
    ++ (flat_map (λ words. note_gcc name (first_start (spots_of r)) [] (string_bytes words)) r.notes.items
    ++ (flat_map (λ words. note_gcc name (first_start (spots_of r)) (codes "expected: ") (string_bytes words)) r.expected.items
    ++ flat_map (λ words. note_gcc name (first_start (spots_of r)) (codes "hint: ") (string_bytes words)) r.hints.items)))

-- a warning
abbrev pub warned_gcc : (name : List ℕ) → Warned → List ℕ
warned_gcc name w = head_gcc name (start_of_spot w.spot) (codes "warning") (code_name w.code) (string_bytes w.message)

-- what comes of a text: of one that is accepted its warnings
abbrev pub verdict_gcc : (name : List ℕ) → Verdict → List ℕ
verdict_gcc name (verdict.Accepted warned) = flat_map (warned_gcc name) warned.items
verdict_gcc name (verdict.Refused r) = refusal_gcc name r

abbrev pub found_gcc : (name : List ℕ) → Found → List ℕ
found_gcc name found = verdict_gcc name found.verdict

-- a file; nothing of one that cannot be read
abbrev pub report_gcc : Report → List ℕ
report_gcc (report.Texts name found) = flat_map (found_gcc name.items) found.items
report_gcc (report.Unread name reason) = []
