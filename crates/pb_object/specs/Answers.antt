-- Which bytes spell which code, and what reading returns.
use Rattle.std.specs.Prelude.{◌≡◌, ℕ, Bool, true, false, nat_lt, List, length, Result, Ok, Err, ⊤, if◌then◌else◌}
use Rattle.pb_base.specs.declared.limits.TheConstants.{MAX_INPUT}
use Rattle.pb_object.specs.declared.fault.Fault.{Fault}
use Rattle.pb_object.specs.declared.fault.ObjectFault.{ObjectFault}
use Rattle.pb_object.specs.declared.fault.ObjectFault.TheVariants.{NotObject, Limit, NoMemory}
use Rattle.pb_code.specs.declared.format.Format.{Format}
use Rattle.pb_code.specs.declared.format.Format.TheVariants.{One, Two}
use Rattle.pb_object.specs.declared.rows.Rows.{Rows}
use Rattle.pb_code.specs.declared.code.Code.{Code as GivenCode}
use Rattle.pb_code.specs.declared.labels.Labels.{Labels}
use Rattle.pb_code.specs.Whole.{Code, ProcessLabels}
use Rattle.pb_code.specs.View.{code_view, labels_view}
use Rattle.pb_object.specs.Lines.{line_by}
use Rattle.pb_object.specs.Objects.{Object, code_of, labels_of, object_spelling}
use Rattle.pb_object.specs.Ranges.{IsObject}
use Rattle.pb_object.specs.Reading.{heading, answer_of}
use Rattle.pb_object.specs.Rows.{object_row}

-- the object says this code and these labels, in this format
pub record IsObjectOf (format : Format) (code : Code) (labels : List ProcessLabels) (o : Object) : Type 0 where
  pub good : IsObject o
  pub is_format : o.format ≡ format
  pub says_code : code ≡ code_of o
  pub says_labels : labels ≡ labels_of o

-- the bytes spell this code and these labels
abbrev pub SpellsCode : Format → Code → List ProcessLabels → List ℕ → Type 0
SpellsCode format code labels text = (o : Object) × IsObjectOf format code labels o × (text ≡ object_spelling o)

-- the bytes spell this code in the first format, which has no labels
abbrev pub SpellsOne : Code → List ℕ → Type 0
SpellsOne code text = (labels : List ProcessLabels) × SpellsCode One code labels text

-- code and labels keep the ranges and the rules on names of the format, and fit each other
abbrev pub HasText : Format → Code → List ProcessLabels → Type 0
HasText format code labels = (o : Object) × IsObjectOf format code labels o

-- code that keeps the ranges and the rules on names of the first format
abbrev pub HasTextOne : Code → Type 0
HasTextOne code = (labels : List ProcessLabels) × HasText One code labels

-- ---- results

-- what reading rows returned is what the text says, unless out of memory
abbrev pub AnswersRows : List ℕ → Result Rows ObjectFault → Type 0
AnswersRows text (Ok rows) = answer_of text ≡ Ok (object_row rows)
AnswersRows text (Err (NotObject at)) = answer_of text ≡ Err (NotObject at)
AnswersRows text (Err (Limit at)) = answer_of text ≡ Err (Limit at)
AnswersRows text (Err NoMemory) = ⊤

-- the fault is the first one of the text, or out of memory
abbrev pub IsFaultOf : List ℕ → ObjectFault → Type 0
IsFaultOf text (NotObject at) = answer_of text ≡ Err (NotObject at)
IsFaultOf text (Limit at) = answer_of text ≡ Err (Limit at)
IsFaultOf text NoMemory = ⊤

-- the result is this code with these labels, or out of memory
abbrev pub IsAnswer : Code → List ProcessLabels → Result (GivenCode × Labels) ObjectFault → Type 0
IsAnswer code labels (Ok x) = (code_view x.0 ≡ code) × (labels_view x.1 ≡ labels)
IsAnswer code labels (Err (NotObject at)) = ⊥
IsAnswer code labels (Err (Limit at)) = ⊥
IsAnswer code labels (Err NoMemory) = ⊤

-- ---- the first format alone

-- whether it is the second format
abbrev pub is_format_two : Format → Bool
is_format_two One = false
is_format_two Two = true

-- the first line names the second format
abbrev pub is_two : Result (Format × List ℕ) Fault → Bool
is_two (Ok x) = is_format_two x.0
is_two (Err fault) = false

-- the heading of the second format is as faulty as any other first line
abbrev pub answer_one : List ℕ → Result Object ObjectFault
answer_one text =
    if nat_lt MAX_INPUT (length text) then Err (Limit 0)
    else if is_two (line_by heading text) then Err (NotObject 0) else answer_of text

-- the fault is the first one of a text that is to be of the first format, or out of memory
abbrev pub IsFaultOfOne : List ℕ → ObjectFault → Type 0
IsFaultOfOne text (NotObject at) = answer_one text ≡ Err (NotObject at)
IsFaultOfOne text (Limit at) = answer_one text ≡ Err (Limit at)
IsFaultOfOne text NoMemory = ⊤

-- the result is this code, or out of memory
abbrev pub IsAnswerOne : Code → Result GivenCode ObjectFault → Type 0
IsAnswerOne code (Ok x) = code_view x ≡ code
IsAnswerOne code (Err (NotObject at)) = ⊥
IsAnswerOne code (Err (Limit at)) = ⊥
IsAnswerOne code (Err NoMemory) = ⊤
