-- What is found, as one document of SARIF 2.1.0.
use Rattle.std.specs.Prelude.{ℕ, Bool, false, cond, ◌+◌, ◌==◌, List, [], ◌∷◌, ◌++◌, codes, string_bytes}
use Rattle.std.specs.Fmt.{decimal}
use Rattle.std.specs.List.{concat, flat_map, list_any}
use Rattle.std.specs.Str.{bytes_eq}
use Rattle.pb_findings.specs.Rules.{rule_name, rule_summary}
use Rattle.pb_findings.specs.Spots.{spots_of}
use Rattle.pb_findings.specs.Strings.{inside, words_text}
use Rattle.pb_findings.specs.declared.refusal.Refusal.{Refusal}
use Rattle.pb_findings.specs.declared.rule.Rule.{Rule}
use Rattle.pb_findings.specs.declared.rule.Rule.TheVariants as rules
use Rattle.pb_findings.specs.declared.said.Found.{Found}
use Rattle.pb_findings.specs.declared.said.Report.{Report}
use Rattle.pb_findings.specs.declared.said.Report.TheVariants as report
use Rattle.pb_findings.specs.declared.said.Verdict.{Verdict}
use Rattle.pb_findings.specs.declared.said.Verdict.TheVariants as verdict
use Rattle.pb_findings.specs.declared.spot.Spot.{Spot}
use Rattle.pb_findings.specs.declared.warned.Warned.{Warned}
use Rattle.pb_options.specs.Codes.{code_name}
use Rattle.pb_options.specs.declared.code.Code.TheVariants as coded

-- ---- lists

-- a list that has items, and what closes it
abbrev pub some_text : (close items : List ℕ) → List ℕ
some_text close items = codes "[" ++ (items ++ close)

-- a list of items, of which each is given with a comma before it; that of the first is left out
abbrev pub array_text : (close items : List ℕ) → List ℕ
array_text close [] = codes "[]"
array_text close (comma ∷ items) = some_text close items

-- ---- places

-- what is at a place
abbrev pub said_sarif : (what : List ℕ) → List ℕ
said_sarif what = codes ",\n              \"message\": {\n                \"text\": " ++ (words_text what ++ codes "\n              }")

-- the same, if something is said
abbrev pub what_sarif : List ℕ → List ℕ
what_sarif [] = []
what_sarif (b ∷ bytes) = said_sarif (b ∷ bytes)

-- where in a file it is
abbrev pub region_sarif : (line column : ℕ) → List ℕ
region_sarif line column = concat (
    codes ",\n                \"region\": {\n                  \"startLine\": " ∷ decimal line
    ∷ codes ",\n                  \"startColumn\": " ∷ decimal column ∷ codes "\n                }" ∷ [])

-- the address of a file
abbrev pub address_sarif : (name : List ℕ) → List ℕ
address_sarif name =
    (codes "\"physicalLocation\": {\n                \"artifactLocation\": {\n                  \"uri\": \"" ++ name) ++ codes "\"\n                }"

-- the members of a place
abbrev pub place_sarif : (name : List ℕ) → Spot → List ℕ
place_sarif name spot =
    address_sarif name
    ++ (region_sarif spot.line spot.column ++ (codes "\n              }" ++ what_sarif (string_bytes spot.what)))

-- the first place of some; of none the file
abbrev pub location_members : (name : List ℕ) → List Spot → List ℕ
location_members name [] = address_sarif name ++ codes "\n              }"
location_members name (first ∷ others) = place_sarif name first

-- the comma before the item of a list with this number, from 0
abbrev pub comma_before : ℕ → List ℕ
comma_before number = cond (number == 0) [] (codes ",")

-- a place that is not the first, with its number among these, from 0
abbrev pub related_sarif : (name : List ℕ) → (number : ℕ) → Spot → List ℕ
related_sarif name number spot =
    comma_before number ++ (codes "\n            {\n              \"id\": " ++ (decimal (number + 1)
    ++ (codes ",\n              " ++ (place_sarif name spot ++ codes "\n            }"))))

abbrev pub related_from : (name : List ℕ) → (number : ℕ) → List Spot → List ℕ
related_from name number [] = []
related_from name number (spot ∷ spots) = related_sarif name number spot ++ related_from name (number + 1) spots

-- the member with the places that are not the first
abbrev pub some_related : (name : List ℕ) → List Spot → List ℕ
some_related name spots = codes ",\n          \"relatedLocations\": [" ++ (related_from name 0 spots ++ codes "\n          ]")

-- the same, if there are some
abbrev pub others_sarif : (name : List ℕ) → List Spot → List ℕ
others_sarif name [] = []
others_sarif name (spot ∷ spots) = some_related name (spot ∷ spots)

abbrev pub related_members : (name : List ℕ) → List Spot → List ℕ
related_members name [] = []
related_members name (first ∷ others) = others_sarif name others

-- ---- results

-- a note of a message, which begins a line of it
abbrev pub note_sarif : (kind words : List ℕ) → List ℕ
note_sarif kind words = codes "\\n" ++ (kind ++ inside words)

-- the inside of the message of a refusal
abbrev pub message_sarif : Refusal → List ℕ
message_sarif r =
    inside (string_bytes r.message)
    ++ (flat_map (λ words. note_sarif [] (string_bytes words)) r.notes.items
    ++ (flat_map (λ words. note_sarif (codes "expected: ") (string_bytes words)) r.expected.items
    ++ flat_map (λ words. note_sarif (codes "hint: ") (string_bytes words)) r.hints.items))

-- what comes before the inside of a message
abbrev pub result_head : (level code : List ℕ) → List ℕ
result_head level code = concat (
    codes ",\n        {\n          \"ruleId\": \"" ∷ code ∷ codes "\",\n          \"level\": \"" ∷ level
    ∷ codes "\",\n          \"message\": {\n            \"text\": \"" ∷ [])

-- and after it
abbrev pub result_places : (name : List ℕ) → List Spot → List ℕ
result_places name spots =
    codes "\"\n          },\n          \"locations\": [\n            {\n              "
    ++ (location_members name spots ++ (codes "\n            }\n          ]" ++ (related_members name spots ++ codes "\n        }")))

-- a refusal
abbrev pub refusal_sarif : (name : List ℕ) → Refusal → List ℕ
refusal_sarif name r =
    result_head (codes "error") (rule_name r.rule) ++ (message_sarif r ++ result_places name (spots_of r))

-- a warning
abbrev pub warned_sarif : (name : List ℕ) → Warned → List ℕ
warned_sarif name w =
    result_head (codes "warning") (code_name w.code) ++ (inside (string_bytes w.message) ++ result_places name (w.spot ∷ []))

-- what comes of a text: of one that is accepted its warnings
abbrev pub verdict_sarif : (name : List ℕ) → Verdict → List ℕ
verdict_sarif name (verdict.Accepted warned) = flat_map (warned_sarif name) warned.items
verdict_sarif name (verdict.Refused r) = refusal_sarif name r

abbrev pub found_sarif : (name : List ℕ) → Found → List ℕ
found_sarif name found = verdict_sarif name found.verdict

-- the results of a file; none of one that cannot be read
abbrev pub report_sarif : Report → List ℕ
report_sarif (report.Texts name found) = flat_map (found_sarif name.items) found.items
report_sarif (report.Unread name reason) = []

-- ---- how the call went

-- a file that cannot be read
abbrev pub unread_sarif : (name reason : List ℕ) → List ℕ
unread_sarif name reason =
    codes ",\n            {\n              \"level\": \"error\",\n              \"message\": {\n                \"text\": "
    ++ (words_text reason
    ++ (codes "\n              },\n              \"locations\": [\n                {\n                  \"physicalLocation\": {\n                    \"artifactLocation\": {\n                      \"uri\": \""
    ++ (name ++ codes "\"\n                    }\n                  }\n                }\n              ]\n            }")))

abbrev pub notice_sarif : Report → List ℕ
notice_sarif (report.Texts name found) = []
notice_sarif (report.Unread name reason) = unread_sarif name.items reason.items

-- which files could not be read
abbrev pub failed_sarif : (notices : List ℕ) → List ℕ
failed_sarif notices = codes "false,\n          \"toolExecutionNotifications\": " ++ array_text (codes "\n          ]") notices

-- whether all files could be read, and which could not
abbrev pub invocation_sarif : (notices : List ℕ) → List ℕ
invocation_sarif [] = codes "true"
invocation_sarif (comma ∷ notices) = failed_sarif (comma ∷ notices)

-- ---- rules

-- what a finding of a text may be filed under, in the order of the words
abbrev pub all_rules : List Rule
all_rules =
    rules.Code coded.C1 ∷ rules.Code coded.L1 ∷ rules.Code coded.L2 ∷ rules.Code coded.L3 ∷ rules.Code coded.L4 ∷ rules.Code coded.N1
    ∷ rules.Code coded.N2 ∷ rules.Code coded.N3 ∷ rules.Code coded.N4 ∷ rules.Code coded.N6 ∷ rules.Code coded.P1 ∷ rules.Code coded.P2
    ∷ rules.Code coded.P3 ∷ rules.Code coded.W1 ∷ rules.Code coded.W2 ∷ rules.Code coded.W3 ∷ rules.Code coded.Input ∷ rules.Memory ∷ []

-- whether something is filed under a rule
abbrev pub verdict_has : (word : List ℕ) → Verdict → Bool
verdict_has word (verdict.Accepted warned) = list_any (λ w. bytes_eq (code_name w.code) word) warned.items
verdict_has word (verdict.Refused r) = bytes_eq (rule_name r.rule) word

abbrev pub report_has : (word : List ℕ) → Report → Bool
report_has word (report.Texts name found) = list_any (λ f. verdict_has word f.verdict) found.items
report_has word (report.Unread name reason) = false

-- a rule
abbrev pub rule_sarif : (name summary : List ℕ) → List ℕ
rule_sarif name summary =
    codes ",\n            {\n              \"id\": " ++ (words_text name
    ++ (codes ",\n              \"shortDescription\": {\n                \"text\": " ++ (words_text summary
    ++ codes "\n              }\n            }")))

-- the same, if something is filed under it
abbrev pub rule_if : List Report → Rule → List ℕ
rule_if said one = cond (list_any (report_has (rule_name one)) said) (rule_sarif (rule_name one) (rule_summary one)) []

-- ---- the document

-- of the program of this version
abbrev pub document_sarif : (version : List ℕ) → List Report → List ℕ
document_sarif version said =
    codes "{\n  \"$schema\": \"https://json.schemastore.org/sarif-2.1.0.json\",\n  \"version\": \"2.1.0\",\n  \"runs\": [\n    {\n      \"tool\": {\n        \"driver\": {\n          \"name\": \"parbegin\",\n          \"rules\": "
    ++ (array_text (codes "\n          ]") (flat_map (rule_if said) all_rules)
    ++ (codes ",\n          \"version\": " ++ (words_text version
    ++ (codes "\n        }\n      },\n      \"invocations\": [\n        {\n          \"executionSuccessful\": "
    ++ (invocation_sarif (flat_map notice_sarif said)
    ++ (codes "\n        }\n      ],\n      \"columnKind\": \"utf16CodeUnits\",\n      \"results\": "
    ++ (array_text (codes "\n      ]") (flat_map report_sarif said)
    ++ codes "\n    }\n  ]\n}\n")))))))
