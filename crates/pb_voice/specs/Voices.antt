-- What becomes of a voice at an output if it is told something.
use Rattle.std.specs.Prelude.{◌≡◌, ◌++◌, ℕ, List, []}
use Rattle.std.specs.List.{flat_map}
use Rattle.pb_base.specs.Device.{one_more_failure, AddsPrefix}
use Rattle.pb_command_io.specs.Answers.{Leaves}
use Rattle.pb_command_io.specs.declared.status.Status.{Status}
use Rattle.pb_voice.specs.Held.{At, Held}
use Rattle.pb_voice.specs.declared.form.Form.{Form}

-- a text is added: of what waited and of the text a first part is written, and the rest waits
pub record Adds (old : At Held) (text : List ℕ) (new : At Held) : Type 0 where
  pub form : new.teller.form ≡ old.teller.form
  pub leaves : Leaves old.written new.written (old.teller.waits ++ text) new.teller.waits
  pub counted : new.failures ≡ old.failures

-- a write failed: a first part of what waited and of the text is written, and nothing waits
pub record Breaks (old : At Held) (text : List ℕ) (new : At Held) : Type 0 where
  pub form : new.teller.form ≡ old.teller.form
  pub prefix : AddsPrefix old.written new.written (old.teller.waits ++ text)
  pub given_up : new.teller.waits ≡ []
  pub counted : new.failures ≡ one_more_failure old.failures

-- a thing is told by its text in the form of the voice, which stays as it is
abbrev pub tells_in : {S : Type 0} (text_of : Form → S → List ℕ) → At Held → S → At Held → Type 0
tells_in text_of old said new = Adds old (text_of old.teller.form said) new

-- a write failed in it
abbrev pub breaks_in : {S : Type 0} (text_of : Form → S → List ℕ) → At Held → S → At Held → Type 0
breaks_in text_of old said new = Breaks old (text_of old.teller.form said) new

-- the text is that of a list of things which may be said of these bytes
abbrev pub Written : {S : Type 0} (text_of : S → List ℕ) → (List ℕ → List S → Status → Type 0) → (bytes text : List ℕ) → Status → Type 0
Written {S} text_of SaysOf bytes text status = (said : List S) × SaysOf bytes said status × (text ≡ flat_map text_of said)
