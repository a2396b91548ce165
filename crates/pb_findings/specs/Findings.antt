-- What there is to say of one text of a file.
use Rattle.std.specs.Prelude.{◌≡◌, ℕ, ◌+◌, ◌-◌, min, Bool, List, [], ◌∷◌, ◌++◌, length, take, Option, Some, None, All, option_map, codes, string_bytes, Vec}
use Rattle.std.specs.declared.alloc.Global.{Global}
use Rattle.pb_accept.specs.Causes.{text_cause}
use Rattle.pb_accept.specs.Refusals.{IsAcceptedText, RefusesWith}
use Rattle.pb_accept.specs.Warned.{AreToldFor, warning_line}
use Rattle.pb_accept.specs.declared.cause.Cause.{Cause}
use Rattle.pb_codegen.specs.Compiled.{IsRefused}
use Rattle.pb_codegen.specs.declared.fault.CompileFault.{CompileFault}
use Rattle.pb_findings.specs.declared.refusal.Refusal.{Refusal}
use Rattle.pb_findings.specs.declared.rule.Rule.{Rule}
use Rattle.pb_findings.specs.declared.rule.Rule.TheVariants as rules
use Rattle.pb_findings.specs.declared.said.Found.{Found}
use Rattle.pb_findings.specs.declared.said.Verdict.{Verdict}
use Rattle.pb_findings.specs.declared.said.Verdict.TheVariants as verdict
use Rattle.pb_findings.specs.declared.spot.Spot.{Spot}
use Rattle.pb_findings.specs.declared.warned.Warned.{Warned}
use Rattle.pb_lexer.specs.Cutting.{line_at}
use Rattle.pb_message_excerpts.specs.Places.{IsPlace}
use Rattle.pb_message_excerpts.specs.declared.place.Place.{Place}
use Rattle.pb_options.specs.declared.code.Code.{Code}
use Rattle.pb_options.specs.declared.code.Code.TheVariants.{W1, W2, W3}
use Rattle.pb_warnings.specs.Warnings.{Warning, OneArm, NeverRead, NotUsed}

-- the place of a byte of a file, or of its end
abbrev pub IsSpotAt : (file : List ℕ) → (at : ℕ) → Spot → Type 0
IsSpotAt file at spot = (place : Place) × IsPlace file at place × (spot.line ≡ place.line) × (spot.column ≡ place.column)

-- the place of some byte of it
abbrev pub IsSpotOf : (file : List ℕ) → Spot → Type 0
IsSpotOf file spot = (at : ℕ) × IsSpotAt file at spot

-- the offset in a file of a byte of a text that begins at an offset of it, at most that of the end of the text
abbrev pub in_file : (start : ℕ) → (text : List ℕ) → (at : ℕ) → ℕ
in_file start text at = start + min at (length text)

-- by the cause of a refusal, its first place: that of the offset, with nothing more to say of it
abbrev pub IsFirstSpot : (file : List ℕ) → Option ℕ → Option Spot → Type 0
IsFirstSpot file None first = first ≡ None
IsFirstSpot file (Some at) None = ⊥
IsFirstSpot file (Some at) (Some spot) = IsSpotAt file (min at (length file)) spot × (string_bytes spot.what ≡ [])

-- what there is to say of the first fault of a text that begins at an offset of a file: its code, its line, its offset in
-- the file, and its place there. All other places are some of the file; no definition says which, nor in which words it
-- is told
pub record IsRefusalOf (file : List ℕ) (start : ℕ) (text : List ℕ) (r : Refusal) : Type 0 where
  pub fault : CompileFault
  pub refused : IsRefused text fault
  pub cause : Cause
  pub of : text_cause fault ≡ Some cause
  pub rule : r.rule ≡ rules.Code cause.code
  pub line : RefusesWith text r.line.items
  pub offset : r.offset ≡ option_map (in_file start text) cause.at
  pub first : IsFirstSpot file r.offset r.first
  pub others : All (IsSpotOf file) r.others.items

-- the code of a warning, and the line of its text that it is about
abbrev pub warning_code : Warning → Code
warning_code (OneArm at) = W1
warning_code (NeverRead at process integer) = W2
warning_code (NotUsed at resource claims capital) = W3

abbrev pub warning_at : Warning → ℕ
warning_at (OneArm at) = at
warning_at (NeverRead at process integer) = at
warning_at (NotUsed at resource claims capital) = at

-- a line without its line feed
abbrev pub without_last : List ℕ → List ℕ
without_last line = take (length line - 1) line

-- what there is to say of a warning of a text that begins at an offset of a file: its code, its line, and the line of the
-- file that it is about; no definition says which column, nor in which words it is told
pub record IsWarned (file : List ℕ) (start : ℕ) (one : Warning) (w : Warned) : Type 0 where
  pub code : w.code ≡ warning_code one
  pub line : w.line.items ≡ without_last (warning_line one)
  pub there : w.spot.line ≡ (line_at file start - 1) + warning_at one

-- the same of warnings, each of one
pub data AreWarned (file : List ℕ) (start : ℕ) : List Warning → List Warned → Type 0 where
  none : AreWarned file start [] []
  more : (found : List Warning) (warned : List Warned) (one : Warning) (w : Warned) → AreWarned file start found warned
      → IsWarned file start one w → AreWarned file start (found ++ one ∷ []) (warned ++ w ∷ [])

-- a refusal of a text as a whole: what it is filed under, and its line; it has no place, and nothing more is said of it
pub record IsWhole (rule : Rule) (words : List ℕ) (r : Refusal) : Type 0 where
  pub filed : r.rule ≡ rule
  pub line : r.line.items ≡ words
  pub nowhere : r.offset ≡ None
  pub no_first : r.first ≡ None
  pub no_others : r.others.items ≡ []

-- what comes of a text that begins at an offset of a file: it is accepted, with the warnings that are asked for; it is
-- refused; or there is too little memory to look at it
pub data IsVerdict (warn : Bool) (file : List ℕ) (start : ℕ) (text : List ℕ) : Verdict → Type 0 where
  accepted : (found : List Warning) (warned : Vec Warned Global) → IsAcceptedText text → AreToldFor warn text found
      → AreWarned file start found warned.items → IsVerdict warn file start text (verdict.Accepted warned)
  refused : (r : Refusal) → IsRefusalOf file start text r → IsVerdict warn file start text (verdict.Refused r)
  no_memory : (r : Refusal) → IsWhole rules.Memory (codes "memory") r → IsVerdict warn file start text (verdict.Refused r)

-- the text with a number, which begins at an offset of a file, and what comes of it
abbrev pub IsFound : (warn : Bool) → (file : List ℕ) → (number start : ℕ) → (text : List ℕ) → Found → Type 0
IsFound warn file number start text found = (found.number ≡ number) × IsVerdict warn file start text found.verdict
