-- From what is said of the parts of a live input to what is said of it all.
use Rattle.std.proofs.Common.{◌≡◌, ℕ, List, Result, Ok, Err, IfOk, inl, inr}
use Rattle.std.specs.Prelude.{◌⊎◌}
use Rattle.pb_base.specs.declared.lending.Lending.{Lending}
use Rattle.pb_command_io.specs.Parts.{AreTwoParts}
use Rattle.pb_messages.specs.LiveInputs.{IsLongBefore, SaysOfLiveInput, long_part}
use Rattle.pb_messages.specs.Said.{SaysByReading}
use Rattle.pb_messages.specs.declared.message.Reading.TheVariants.{Debugged}

module _ {W E : Type 0} (lending : Lending) (seen : W → List ℕ) (bytes source rest lines commands : List ℕ) where
  -- a part is too long
  pub long_said : (made : Result W E) → AreTwoParts bytes source rest → AreTwoParts rest lines commands
      → IsLongBefore bytes rest ⊎ IsLongBefore rest commands → IfOk made (λ told. seen told ≡ long_part)
      → IfOk made (λ told. SaysOfLiveInput lending bytes (seen told))
  long_said (Ok told) parts more long is = (source, rest, lines, commands, parts, more, inl (long, is))
  long_said (Err e) parts more long is = is

  -- no part is
  pub live_said : (made : Result W E) → AreTwoParts bytes source rest → AreTwoParts rest lines commands
      → (IsLongBefore bytes rest ⊎ IsLongBefore rest commands → ⊥) → IfOk made (λ told. SaysByReading (Debugged lending) bytes (seen told))
      → IfOk made (λ told. SaysOfLiveInput lending bytes (seen told))
  live_said (Ok told) parts more short says =
      (source, rest, lines, commands, parts, more, inr (λ long. short (inl long), λ long. short (inr long), says))
  live_said (Err e) parts more short says = says
