-- What is told of files: a list of what is found, in a layout, and then how many of them are refused.
use Rattle.std.specs.Prelude.{◌≡◌, ◌≤◌, ◌<◌, ◌++◌, ◌+◌, ◌-◌, ℕ, Bool, true, false, cond, List, [], ◌∷◌, length, codes, ⊤}
use Rattle.std.specs.Fmt.{decimal}
use Rattle.std.specs.List.{concat, count_by, flat_map, list_any}
use Rattle.pb_base.specs.Lines.{line}
use Rattle.pb_command_io.specs.Answers.{memory_line}
use Rattle.pb_command_io.specs.Parts.{IsCutAt, IsMarkAt}
use Rattle.pb_command_io.specs.declared.status.Status.{Status}
use Rattle.pb_command_io.specs.declared.status.Status.TheVariants as status
use Rattle.pb_findings.specs.Entries.{IsFileEntry, NamesLayout, IsNoEntry, IsNoLayout}
use Rattle.pb_findings.specs.Findings.{IsFound, IsWhole}
use Rattle.pb_findings.specs.Gcc.{report_gcc}
use Rattle.pb_findings.specs.Objects.{report_json}
use Rattle.pb_findings.specs.Sarif.{document_sarif, report_has}
use Rattle.pb_findings.specs.declared.entry.Entry.{Entry}
use Rattle.pb_findings.specs.declared.entry.Entry.TheVariants as entry
use Rattle.pb_findings.specs.declared.entry.Layout.{Layout}
use Rattle.pb_findings.specs.declared.entry.Layout.TheVariants as layout
use Rattle.pb_findings.specs.declared.report.Looked.{Looked}
use Rattle.pb_findings.specs.declared.report.Looked.TheVariants as looked
use Rattle.pb_findings.specs.declared.report.TheConstants.{MAX_FILES}
use Rattle.pb_findings.specs.declared.rule.Rule.TheVariants as rules
use Rattle.pb_findings.specs.declared.said.Found.{Found}
use Rattle.pb_findings.specs.declared.said.Report.{Report}
use Rattle.pb_findings.specs.declared.said.Report.TheVariants as report
use Rattle.pb_findings.specs.declared.said.Verdict.{Verdict}
use Rattle.pb_findings.specs.declared.said.Verdict.TheVariants as verdict
use Rattle.pb_frames.specs.Frames.{IsFrame}
use Rattle.pb_options.specs.declared.code.Code.TheVariants as coded

-- ---- one file

-- so many texts of a file were looked at, each with its number, from 1, and its offset in the file; these bytes of the file
-- are left
pub data AreFound (warn : Bool) (file : List ℕ) : (count : ℕ) → (left : List ℕ) → List Found → Type 0 where
  none : AreFound warn file 0 file []
  more : (count : ℕ) (left part rest : List ℕ) (said : List Found) (one : Found)
      → AreFound warn file count left said → IsCutAt left part rest
      → IsFound warn file (count + 1) (length file - length left) part one
      → AreFound warn file (count + 1) rest (said ++ one ∷ [])

-- all of its texts were: there is no line `%%` in what is left before the last
pub data AreAllFound (warn : Bool) (file : List ℕ) : List Found → Type 0 where
  all : (count : ℕ) (left : List ℕ) (said : List Found) (one : Found)
      → AreFound warn file count left said → ((at : ℕ) → ¬ IsMarkAt left at)
      → IsFound warn file (count + 1) (length file - length left) left one
      → AreAllFound warn file (said ++ one ∷ [])

-- of a file that is too long just that is said
abbrev pub IsLongVerdict : Verdict → Type 0
IsLongVerdict (verdict.Accepted warned) = ⊥
IsLongVerdict (verdict.Refused r) = IsWhole (rules.Code coded.Input) (codes "refused input") r

pub data IsLong : List Found → Type 0 where
  long : (one : Found) → one.number ≡ 1 → IsLongVerdict one.verdict → IsLong (one ∷ [])

-- what there is to say of a file
abbrev pub IsFileReport : (warn : Bool) → Entry → Report → Type 0
IsFileReport warn (entry.File name bytes) (report.Texts told found) = (told.items ≡ name.items) × AreAllFound warn bytes.items found.items
IsFileReport warn (entry.Unread name reason) (report.Unread told why) = (told.items ≡ name.items) × (why.items ≡ reason.items)
IsFileReport warn (entry.Long name) (report.Texts told found) = (told.items ≡ name.items) × IsLong found.items
IsFileReport warn _ _ = ⊥

-- ---- all files

-- what there is to say of the first files of an input; these bytes of it are left
pub data AreReported (warn : Bool) (bytes : List ℕ) : (left : List ℕ) → List Report → Type 0 where
  none : AreReported warn bytes bytes []
  more : (left head mid content rest : List ℕ) (said : List Report) (entry : Entry) (one : Report)
      → AreReported warn bytes left said → IsFrame left head mid → IsFrame mid content rest → IsFileEntry head content entry
      → IsFileReport warn entry one → AreReported warn bytes rest (said ++ one ∷ [])

-- ---- what is written

-- a list of what is found in a layout
abbrev pub laid_out : Layout → (warn : Bool) → List Report → List ℕ
laid_out layout.Gcc warn said = flat_map report_gcc said
laid_out layout.Json warn said = flat_map (report_json warn) said
laid_out (layout.Sarif version) warn said = document_sarif version.items said

-- whether a text is refused, and a text of a file
abbrev pub is_refused : Verdict → Bool
is_refused (verdict.Accepted warned) = false
is_refused (verdict.Refused r) = true

abbrev pub has_refused : Report → Bool
has_refused (report.Texts name found) = list_any (λ f. is_refused f.verdict) found.items
has_refused (report.Unread name reason) = false

-- the last line: how many files have a refused text
abbrev pub sums_line : List Report → List ℕ
sums_line said = concat (codes "refused " ∷ decimal (count_by has_refused said) ∷ codes "\n" ∷ [])

-- the status: there was too little memory for a text, a text is refused, or neither
abbrev pub call_status : List Report → Status
call_status said =
    cond (list_any (report_has (codes "memory")) said) status.Memory (cond (list_any has_refused said) status.Refused status.Done)

-- the line of an input that is not of this form
abbrev pub refused_input : List ℕ
refused_input = line (codes "refused input")

-- what came of looking at the files of an input
abbrev pub IsLooked : (warn : Bool) → (bytes : List ℕ) → Looked → Type 0
IsLooked warn bytes (looked.Whole said) = AreReported warn bytes [] said.items
IsLooked warn bytes looked.NoFile = (left : List ℕ) × (said : List Report) × AreReported warn bytes left said × IsNoEntry left
IsLooked warn bytes looked.OutOfMemory = ⊤

-- what is said of an input: all that is found, in the layout that it names; or that it does not name files
pub data SaysOfFiles (warn : Bool) (bytes : List ℕ) : List ℕ → Status → Type 0 where
  reported : (named rest : List ℕ) (layout : Layout) (said : List Report) → IsFrame bytes named rest → NamesLayout named layout
      → AreReported warn rest [] said
      → SaysOfFiles warn bytes (laid_out layout warn said ++ sums_line said) (call_status said)
  no_layout : IsNoLayout bytes → SaysOfFiles warn bytes refused_input status.Refused
  no_file : (named rest left : List ℕ) (layout : Layout) (said : List Report) → IsFrame bytes named rest → NamesLayout named layout
      → AreReported warn rest left said → IsNoEntry left → SaysOfFiles warn bytes refused_input status.Refused
  no_memory : SaysOfFiles warn bytes memory_line status.Memory

-- the same of an input that may be too long, or not be read
pub data SaysOfReports (warn : Bool) (bytes : List ℕ) : List ℕ → Status → Type 0 where
  too_long : MAX_FILES < length bytes → SaysOfReports warn bytes refused_input status.Refused
  out_of_memory : SaysOfReports warn bytes memory_line status.Memory
  nothing : SaysOfReports warn bytes [] status.Device
  read : (text : List ℕ) (given : Status) → length bytes ≤ MAX_FILES → SaysOfFiles warn bytes text given
      → SaysOfReports warn bytes text given

-- what a person is told of an input that is not of this form
abbrev pub files_message : List ℕ
files_message = codes "error input: these are not messages that name a layout and files\n  = note: the first one is `gcc`, `json` or `sarif VERSION`, and two follow for each file: `file NAME` and its bytes, `unread NAME` and why, or `long NAME` and nothing\n  = note: a message is the line `Content-Length: N`, an empty line, both with a carriage return at the end, and N bytes\n  = hint: `parbegin check --format json FILE ..` writes them\n"
