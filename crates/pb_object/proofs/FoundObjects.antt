-- What reading finds is what the text spells.
use Rattle.std.proofs.Common.{◌≡◌, ℕ, ◌≤◌, Bool, true, false, cond, ltb, List, length, Result, Ok, Err, refl, sym, ap}
use Rattle.std.proofs.Common.{◌∙◌}
use Rattle.std.proofs.lemmas.Bool.{le-ltb}
use Rattle.pb_object.specs.declared.fault.Fault.{Fault}
use Rattle.pb_object.specs.declared.fault.Fault.TheVariants.{Malformed, Beyond}
use Rattle.pb_object.specs.declared.fault.ObjectFault.{ObjectFault}
use Rattle.pb_object.specs.declared.fault.ObjectFault.TheVariants.{NotObject, Limit, NoMemory}
use Rattle.pb_code.specs.declared.format.Format.{Format}
use Rattle.pb_code.specs.declared.format.Format.TheVariants.{One, Two}
use Rattle.pb_object.specs.declared.rows.Rows.{Rows}
use Rattle.pb_code.specs.declared.code.Code.{Code as GivenCode}
use Rattle.pb_code.specs.declared.labels.Labels.{Labels}
use Rattle.pb_code.specs.Whole.{Code, ProcessLabels}
use Rattle.pb_code.specs.View.{code_view, labels_view}
use Rattle.pb_object.specs.Lines.{line_by}
use Rattle.pb_object.specs.Objects.{Object, code_of, labels_of, object_spelling}
use Rattle.pb_object.specs.Ranges.{IsObject}
use Rattle.pb_object.specs.Reading.{heading, all_of, placed, answer_of}
use Rattle.pb_object.specs.Rows.{object_row}
use Rattle.pb_object.specs.Answers.{SpellsCode, SpellsOne, AnswersRows, IsAnswer, IsAnswerOne, is_two, is_format_two}
use Rattle.pb_object.proofs.ObjectLaws.{all_takes, all_again, format_part}

abbrev fine : Object → Result Object ObjectFault
fine o = Ok o

fine_is : (a b : Object) → fine a ≡ fine b → a ≡ b
fine_is a b e = cc

placed_ok : (n : ℕ) (r : Result Object Fault) (o : Object) → placed n r ≡ Ok o → r ≡ Ok o
placed_ok n (Ok p) o e = ap (λ (x : Object). Ok x) (fine_is p o e)
placed_ok n (Err (Malformed left)) o e = absurd cc
placed_ok n (Err (Beyond left)) o e = absurd cc

within : (b : Bool) (r : Result Object ObjectFault) (o : Object) → cond b (Err (Limit 0)) r ≡ Ok o → r ≡ Ok o
within true r o e = absurd cc
within false r o e = e

pub answer_all : (text : List ℕ) (o : Object) → answer_of text ≡ Ok o → all_of text ≡ Ok o
answer_all text o e = placed_ok (length text) (all_of text) o (within (ltb 4194304 (length text)) (placed (length text) (all_of text)) o e)

pub answer_takes : (text : List ℕ) (o : Object) → answer_of text ≡ Ok o → IsObject o × (text ≡ object_spelling o)
answer_takes text o e = all_takes text o (answer_all text o e)

pub answer_again : (text : List ℕ) (o : Object) → IsObject o → text ≡ object_spelling o → length text ≤ 4194304 → answer_of text ≡ Ok o
answer_again text o good is few =
    let small : ltb 4194304 (length text) ≡ false = le-ltb _ _ few in
    let read : all_of text ≡ Ok o = ap all_of is ∙ all_again o good in
    rw (small, read) refl

-- ---- code and labels

pub rows_spelled : (text : List ℕ) (rows : Rows) (code : Code) (labels : List ProcessLabels) → answer_of text ≡ Ok (object_row rows)
    → code ≡ code_of (object_row rows) → labels ≡ labels_of (object_row rows) → (format : Format) × SpellsCode format code labels text
rows_spelled text rows code labels e is_code is_labels =
    let t = answer_takes text (object_row rows) e in
    (rows.format, (object_row rows, record { good = t.0; is_format = refl; says_code = is_code; says_labels = is_labels }, t.1))

pub only_answer : (text : List ℕ) (o : Object) (x : GivenCode × Labels) → answer_of text ≡ Ok o → code_view x.0 ≡ code_of o → labels_view x.1 ≡ labels_of o
    → (format : Format) (code : Code) (labels : List ProcessLabels) → SpellsCode format code labels text → length text ≤
    4194304 → (code_view x.0 ≡ code) × (labels_view x.1 ≡ labels)
only_answer text o x e is_code is_labels format code labels s few =
    let same : o ≡ s.0 = fine_is o s.0 (sym e ∙ answer_again text s.0 s.1.good s.2 few) in
    (is_code ∙ ap code_of same ∙ sym s.1.says_code, is_labels ∙ ap labels_of same ∙ sym s.1.says_labels)

pub no_fault : (text : List ℕ) (fault : ObjectFault) → answer_of text ≡ Err fault
    → (format : Format) (code : Code) (labels : List ProcessLabels) → SpellsCode format code labels text → length text ≤ 4194304 → ⊥
no_fault text fault e format code labels s few =
    let read : answer_of text ≡ Ok s.0 = answer_again text s.0 s.1.good s.2 few in
    absurd cc

pub err_only : (text : List ℕ) (e : ObjectFault) → AnswersRows text (Err e)
    → (format : Format) (code : Code) (labels : List ProcessLabels) → SpellsCode format code labels text → length text ≤ 4194304 → IsAnswer code labels (Err e)
err_only text (NotObject at) h format code labels s few = no_fault text (NotObject at) h format code labels s few
err_only text (Limit at) h format code labels s few = no_fault text (Limit at) h format code labels s few
err_only text NoMemory h format code labels s few = tt

-- ---- the first format

heading_read : (o : Object) → is_two (line_by heading (object_spelling o)) ≡ is_format_two o.format
unfolding object_spelling
heading_read o = ap is_two (format_part.again o.format _ tt)

pub one_heading : (code : Code) (text : List ℕ) → SpellsOne code text → is_two (line_by heading text) ≡ false
one_heading code text s =
    ap (λ (t : List ℕ). is_two (line_by heading t)) s.1.2 ∙ heading_read s.1.0 ∙ ap is_format_two s.1.1.is_format

is_one : (format : Format) → is_format_two format ≡ false → format ≡ One
is_one One h = refl
is_one Two h = absurd cc

pub one_found : (text : List ℕ) (code : Code) (labels : List ProcessLabels) → is_two (line_by heading text) ≡ false →
    (format : Format) × SpellsCode format code labels text → SpellsOne code text
one_found text code labels h s =
    let good = s.1.1 in
    let first : is_format_two s.1.0.format ≡ false = sym (ap (λ (t : List ℕ). is_two (line_by heading t)) s.1.2 ∙ heading_read s.1.0) ∙ h in
    (labels, (s.1.0, record { good = good.good; is_format = is_one s.1.0.format first; says_code = good.says_code; says_labels = good.says_labels }, s.1.2))

pub err_one : (code : Code) (labels : List ProcessLabels) (e : ObjectFault) → IsAnswer code labels (Err e) → IsAnswerOne code (Err e)
err_one code labels (NotObject at) h = h
err_one code labels (Limit at) h = h
err_one code labels NoMemory h = tt
