-- Things that are said, with the names of what they speak of.
use Rattle.std.specs.Prelude.{ℕ, List, [], map}
use Rattle.pb_base.specs.Lines.{NameTable, name_of}
use Rattle.pb_bank.specs.declared.refusal.Refusal.{Refusal}
use Rattle.pb_bank.specs.declared.refusal.Refusal.TheVariants as refused
use Rattle.pb_bank.specs.declared.said.Said.{Said}
use Rattle.pb_bank.specs.declared.said.Said.TheVariants as told
use Rattle.pb_bank.specs.Words.{shown_word}

-- what the refusal of a command with these words after it is about: one of the words, or a resource; nothing of a line that
-- is no command, a name that is none, and a resource that comes late
abbrev pub refusal_about : NameTable → (words : List (List ℕ)) → Refusal → List ℕ
refusal_about names words refused.Command = []
refusal_about names words (refused.NoComma at) = shown_word words at
refusal_about names words (refused.Amount at) = shown_word words at
refusal_about names words refused.Name = []
refusal_about names words (refused.NoResource at) = shown_word words at
refusal_about names words (refused.NoJob at) = shown_word words at
refusal_about names words (refused.Twice r) = name_of names.resources r
refusal_about names words refused.Taken = shown_word words 0
refusal_about names words refused.Late = []
refusal_about names words refused.Full = shown_word words 0
refusal_about names words (refused.OverCapital r) = name_of names.resources r
refusal_about names words (refused.NotHeld r) = name_of names.resources r
refusal_about names words refused.HasWish = shown_word words 0
refusal_about names words refused.NoWish = shown_word words 0
refusal_about names words (refused.InUse r) = name_of names.resources r

-- what a thing that is said of a command with these words after it is about, if it is a refusal
abbrev pub about_of : NameTable → (words : List (List ℕ)) → Said → List ℕ
about_of names words (told.Refused refusal) = refusal_about names words refusal
about_of names words _ = []

-- a thing that is said: what it is, with the names of jobs and resources, and what it is about if it is a refusal
pub record Saying : Type 0 where
  pub names : NameTable
  pub about : List ℕ
  pub said : Said

-- a thing that is said of a command with these words after it
abbrev pub saying_of : NameTable → (words : List (List ℕ)) → Said → Saying
saying_of names words said = record { names = names; about = about_of names words said; said = said }

-- all that is said of it
abbrev pub sayings_of : NameTable → (words : List (List ℕ)) → List Said → List Saying
sayings_of names words all = map (saying_of names words) all
