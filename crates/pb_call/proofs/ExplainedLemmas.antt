-- The words that are read of a call.
use Rattle.std.proofs.Common.{◌≡◌, ◌-◌, ◌<◌, ℕ, Bool, true, false, Option, List, [], ◌∷◌, length, map, take, drop, sym, subst, arith}
use Rattle.std.specs.Borrow.{Bor}
use Rattle.std.proofs.lemmas.List.{take_all}
use Rattle.clap.specs.Words.{Text}
use Rattle.pb_call.specs.Calls.{AfterRead, CallTellsFaults, CallWrites, Saying}
use Rattle.pb_command_io.specs.Faults.{TellsFaults}
use Rattle.pb_command_io.specs.declared.status.Status.{Status}
use Rattle.pb_command_io.specs.declared.status.Status.TheVariants.{Done}
use Rattle.pb_call.specs.Explained.{Answers, AnswersAsObjects, AnswersInJson, AnswersLive, IsFirst, IsWithout, WritesJson, InObjects, devices_of}
use Rattle.pb_call.specs.Explained.IsWithout.{whole, after}
use Rattle.pb_json_lines.specs.Dialects.{comes_live, dialect_of}
use Rattle.pb_json_lines.specs.Live.{LiveSink, seen_by_writers}
use Rattle.pb_voice.specs.declared.form.Form.{Form}
use Rattle.pb_voice.specs.declared.form.Form.TheVariants.{Lines, Objects}
use Rattle.pb_words.specs.declared.tool.Tool.{Tool}

-- after the first word, if it is this one, are the words that are read
pub after_the_name : (word : Text) (words : List (Bor Text)) → IsFirst word words
    → IsWithout word words (take (length words - 1) (drop 1 words))
after_the_name word [] is = absurd is
after_the_name word (name ∷ []) is = absurd is
after_the_name word (name ∷ next ∷ words) is =
    subst (IsWithout word (name ∷ next ∷ words)) (sym (take_all (length (name ∷ next ∷ words) - 1) (next ∷ words) (omega arith)))
    (after name (next ∷ words) is)

-- no words are read of a call without words
pub no_words : (word : Text) (words : List (Bor Text)) → length words < 1 → IsWithout word words words
no_words word [] few = whole [] (λ is. is)
no_words word (name ∷ words) few = absurd (omega (arith, few))

-- an answer that is not to be in JSON lines, and one that is, by its command itself or of its lines, as they come or at the end
module _ (tool : Tool) (MaySay : Saying) (Leaves : Form → AfterRead) (words : List (Bor Text)) (rest left : Option (List ℕ)) (reads_old reads_new : ℕ) (old new : LiveSink) (status : Status) where
  pub as_it_is : (in_objects : InObjects) (json : Bool) → json ≡ false → CallWrites tool MaySay Lines words rest (seen_by_writers old) (seen_by_writers new) status
      → CallTellsFaults tool (Leaves Lines) words rest left (devices_of reads_old old) (devices_of reads_new new) status
      → Answers tool MaySay Leaves in_objects json words rest left reads_old reads_new old new status
  as_it_is in_objects false is writes faults = (writes, faults)
  as_it_is in_objects true is writes faults = absurd cc

  pub as_json : (in_objects : InObjects) (json : Bool) → json ≡ true
      → AnswersAsObjects tool MaySay Leaves (in_objects (map (λ word. word.now) words)) words rest left reads_old reads_new old new status
      → Answers tool MaySay Leaves in_objects json words rest left reads_old reads_new old new status
  as_json in_objects true is answers = answers
  as_json in_objects false is answers = absurd cc

  pub by_itself : (itself : Bool) → itself ≡ true → CallWrites tool MaySay Objects words rest (seen_by_writers old) (seen_by_writers new) status
      → CallTellsFaults tool (Leaves Objects) words rest left (devices_of reads_old old) (devices_of reads_new new) status
      → AnswersAsObjects tool MaySay Leaves itself words rest left reads_old reads_new old new status
  by_itself true is writes faults = (writes, faults)
  by_itself false is writes faults = absurd cc

  pub of_its_lines : (itself : Bool) → itself ≡ false
      → AnswersInJson tool MaySay Leaves (comes_live (dialect_of (map (λ word. word.now) words) Done)) words rest left reads_old reads_new old new status
      → AnswersAsObjects tool MaySay Leaves itself words rest left reads_old reads_new old new status
  of_its_lines false is answers = answers
  of_its_lines true is answers = absurd cc

  pub as_it_comes : (live : Bool) → live ≡ true
      → AnswersLive tool MaySay Leaves (dialect_of (map (λ word. word.now) words) Done) words rest left reads_old reads_new old new status
      → AnswersInJson tool MaySay Leaves live words rest left reads_old reads_new old new status
  as_it_comes true is answers = answers
  as_it_comes false is answers = absurd cc

  pub at_the_end : (live : Bool) → live ≡ false → WritesJson tool MaySay words rest (seen_by_writers old) (seen_by_writers new) status
      → TellsFaults (devices_of reads_old old) (devices_of reads_new new) status
      → AnswersInJson tool MaySay Leaves live words rest left reads_old reads_new old new status
  at_the_end false is writes faults = (writes, faults)
  at_the_end true is writes faults = absurd cc
