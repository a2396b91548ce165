-- Capitals that stand in place of those of a text: how they are written, and what they change.
use Rattle.std.specs.Prelude.{◌≡◌, ◌≢◌, ◌≤◌, ◌==◌, ℕ, AllPairs, Bool, List, find, length, option_map, take, unwrap_or}
use Rattle.std.specs.List.{AllZip, after_first, before_first, list_any}
use Rattle.std.specs.Str.{bytes_eq}
use Rattle.std.specs.Str.Parse.{IsNumeral, digits_value, without_leading_plus}
use Rattle.pb_base.specs.declared.limits.TheConstants.{MAX_RESOURCES}
use Rattle.pb_code.specs.Limits.{IsName}
use Rattle.pb_capitals.specs.declared.change.Change.{Change}
use Rattle.pb_capitals.specs.declared.changes.Changes.{Changes}

-- the bytes of a word
abbrev pub Word : Type 0
Word = List ℕ

-- what stands before the first `=` (61) of a word, and what stands after it
abbrev pub name_part : Word → Word
name_part word = before_first (λ b. b == 61) word

abbrev pub number_part : Word → Word
number_part word = without_leading_plus (after_first (λ b. b == 61) word)

-- the word says how much there is of a resource: its name, `=`, and a number that a capital can be
pub record IsChange (word : Word) (change : Change) : Type 0 where
  pub name : IsName (name_part word)
  pub numeral : IsNumeral 10 (number_part word)
  pub resource : change.resource.bytes ≡ name_part word
  pub capital : change.capital ≡ digits_value 10 (number_part word)

-- the words say so of these resources, of no more than a text can have, and of none twice
pub record AreChanges (words : List Word) (changes : List Change) : Type 0 where
  pub each : AllZip IsChange words changes
  pub few : length words ≤ MAX_RESOURCES
  pub distinct : AllPairs (λ a b. a.resource.bytes ≢ b.resource.bytes) changes

-- the changes, without what fills up their array
abbrev pub changes_in : Changes → List Change
changes_in changes = take changes.len changes.list

-- whether some change names this resource
abbrev pub names : List Change → Word → Bool
names changes resource = list_any (λ change. bytes_eq change.resource.bytes resource) changes

-- the capital of a resource of which a text has so much: that of the change which names it, or else its own
abbrev pub capital_under : List Change → (name : Word) → (own : ℕ) → ℕ
capital_under changes name own =
    unwrap_or (option_map (λ change. change.capital) (find (λ change. bytes_eq change.resource.bytes name) changes)) own
