-- The document of a run.
use Rattle.std.specs.Prelude.{◌≡◌, ◌-◌, ◌<◌, ℕ, ◌+◌, List, ◌++◌, codes, length, min}
use Rattle.std.specs.Fmt.{decimal}
use Rattle.pb_base.specs.declared.lending.Lending.{Lending}
use Rattle.pb_base.specs.declared.pick.Pick.{Pick}
use Rattle.pb_code.specs.Whole.{Code, ProcessLabels}
use Rattle.pb_history.specs.Positions.{state_after}
use Rattle.pb_json.specs.Strings.{string_text}
use Rattle.pb_json.specs.Values.{comma, list_text}
use Rattle.pb_page.specs.Lends.{lend_part}
use Rattle.pb_page.specs.Parts.{ArePartsBelow}
use Rattle.pb_page.specs.Rows.{IsRow}
use Rattle.pb_page.specs.States.{IsStateBy}
use Rattle.pb_page.specs.Texts.{entry_at}

-- the entries of a state as a list
abbrev pub state_text : List (List ℕ) → List ℕ
state_text entries = list_text (entry_at entries) (length entries)

-- the first position that is shown: the last one if there are not so many picks
abbrev pub first_of : List Pick → (from : ℕ) → ℕ
first_of picks from = min from (length picks)

-- how many rows there are: one for each further pick, up to a limit
abbrev pub rows_of : List Pick → (from most : ℕ) → ℕ
rows_of picks from most = min most (length picks - first_of picks from)

-- what is after the last row, at position `last`: further picks; or how the run has ended, by its word
pub data IsEnd (picks : List Pick) (ending : List ℕ) (last : ℕ) : List ℕ → Type 0 where
  cut : last < length picks → IsEnd picks ending last (codes "more")
  whole : last ≡ length picks → IsEnd picks ending last ending

-- the rows of `count` picks from position `from` on, with commas between them
abbrev pub AreRows : Lending → Code → List ProcessLabels → List Pick → (from count : ℕ) → List ℕ → Type 0
AreRows lending code labels picks from =
    ArePartsBelow (λ k part. (row : List ℕ) × IsRow lending code labels picks (from + k) row × (part ≡ comma k ++ row))

-- what a document begins with
abbrev pub head_text : (source object : List ℕ) → Lending → (picks from : ℕ) → List ℕ
head_text source object lending picks from =
    codes "{\"parbegin\":1,\"kind\":\"run\",\"text\":" ++ (string_text source
    ++ (codes ",\"object\":" ++ (string_text object
    ++ (lend_part lending
    ++ (codes ",\"picks\":" ++ (decimal picks
    ++ (codes ",\"from\":" ++ decimal from)))))))

-- then the state, up to the first row
abbrev pub start_text : List (List ℕ) → List ℕ
start_text start = codes ",\"start\":" ++ (state_text start ++ codes ",\"rows\":[")

-- and what is after the last row
abbrev pub end_text : List ℕ → List ℕ
end_text end = codes "],\"end\":\"" ++ (end ++ codes "\"}\n")

-- a document, by all of its parts
abbrev pub document_text : (source object : List ℕ) → Lending → (picks from : ℕ) → (start : List (List ℕ)) → (rows end : List ℕ) → List ℕ
document_text source object lending picks from start rows end =
    head_text source object lending picks from ++ (start_text start ++ (rows ++ end_text end))

-- the document of the run that picks of code with these labels make under this lending, which has ended by this word:
-- its text and its object; who lends; how many picks there are; the state at the first position that is shown, and a
-- row for each pick from there on, at most so many; and what is after the last row
pub record IsRunDocument (lending : Lending) (code : Code) (labels : List ProcessLabels) (picks : List Pick) (source object : List ℕ)
    (from most : ℕ) (ending : List ℕ) (document : List ℕ) : Type 0 where
  pub start : List (List ℕ)
  pub is_start : IsStateBy lending code labels (state_after code picks (first_of picks from)) start
  pub rows : List ℕ
  pub are_rows : AreRows lending code labels picks (first_of picks from) (rows_of picks from most) rows
  pub end : List ℕ
  pub is_end : IsEnd picks ending (first_of picks from + rows_of picks from most) end
  pub written : document ≡ document_text source object lending (length picks) (first_of picks from) start rows end
