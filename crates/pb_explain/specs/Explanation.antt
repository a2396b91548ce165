-- What there is to say of a code, as plain texts.
use Rattle.std.specs.Prelude.{ℕ, List, Option, option_map}
use Rattle.pb_explain.specs.declared.entries.Entry.{Entry}
use Rattle.pb_explain.specs.declared.entries.Example.{Example}
use Rattle.pb_explain.specs.declared.entries.ExampleInput.{ExampleInput}
use Rattle.pb_explain.specs.declared.entries.ExampleInput.TheVariants as given

-- what the call of an example reads: a text, or a line that is repeated, between a first and a last line
pub data PlainInput : Type 0 where
  Text : List ℕ → PlainInput
  Repeated : List ℕ → ℕ → PlainInput

-- the words of a call, what it reads, and what it writes, without its last line feed
pub record PlainExample : Type 0 where
  pub command : List ℕ
  pub input : PlainInput
  pub answer : List ℕ

-- the meaning in a few words, the meaning, an example, and what to do
pub record Explanation : Type 0 where
  pub summary : List ℕ
  pub meaning : List ℕ
  pub example : Option PlainExample
  pub mend : List ℕ

-- what an example of the tables reads, as plain texts
abbrev pub plain_input : ExampleInput → PlainInput
plain_input (given.Text text) = Text text.now
plain_input (given.Repeated repeated times) = Repeated repeated.now times

-- an example of the tables, as plain texts
abbrev pub plain_example : Example → PlainExample
plain_example example = record {
  command = example.command.now;
  input = plain_input example.input;
  answer = example.answer.now;
}

-- an entry of the code's tables, as plain texts
abbrev pub plain_entry : Entry → Explanation
plain_entry entry = record {
  summary = entry.summary.now;
  meaning = entry.meaning.now;
  example = option_map plain_example entry.example;
  mend = entry.mend.now;
}
