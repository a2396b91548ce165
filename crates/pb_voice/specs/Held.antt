-- A teller at an output, and what a voice holds.
use Rattle.std.specs.Prelude.{ℕ, List, Option}
use Rattle.pb_voice.specs.declared.form.Form.{Form}

-- a teller, with what is written to its output, and how many writes of that have failed
pub record At (T : Type 0) : Type 0 where
  pub teller : T
  pub written : Option (List ℕ)
  pub failures : ℕ

-- the same of an output of any type
abbrev pub at : {T O : Type 0} (written : O → Option (List ℕ)) (failures : O → ℕ) → T → O → At T
at written failures teller output = record { teller = teller; written = written output; failures = failures output }

-- the form in which a voice writes, and the text that waits to be written
pub record Held : Type 0 where
  pub form : Form
  pub waits : List ℕ
