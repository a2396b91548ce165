-- From a refusal, which may be out of memory, to what is told of an input.
use Rattle.std.proofs.Common.{◌≡◌, ◌≢◌, ◌⊎◌, ◌≤◌, ℕ, List, [], ◌∷◌, length, Option, Some, None, MatchOption, refl, inl, inr}
use Rattle.pb_base.specs.declared.limits.TheConstants.{MAX_INPUT}
use Rattle.pb_codegen.specs.declared.fault.CompileFault.{CompileFault}
use Rattle.pb_codegen.specs.declared.fault.CompileFault.TheVariants as kind
use Rattle.pb_command_io.specs.declared.status.Status.{Status}
use Rattle.pb_command_io.specs.declared.status.Status.TheVariants as status
use Rattle.pb_accept.specs.Claims.{SaysOfAny}
use Rattle.pb_accept.specs.Sayings.{Saying, NoMemory, Refused}
use Rattle.pb_accept.specs.declared.cause.Cause.{Cause}
use Rattle.pb_voice.specs.Inputs.{no_memory, read}
use Rattle.pb_voice.specs.Tellings.{Ends, Speaks}

-- whether a fault is out of memory
is_memory : (f : CompileFault) → (f ≡ kind.Memory) ⊎ (f ≢ kind.Memory)
is_memory (kind.Lex f) = inr (λ e. cc)
is_memory (kind.Parse f) = inr (λ e. cc)
is_memory (kind.Names f) = inr (λ e. cc)
is_memory (kind.Claims f) = inr (λ e. cc)
is_memory kind.Memory = inl refl

module _ {T : Type 0} (tells breaks : T → Saying → T → Type 0) (Says : List ℕ → List Saying → Status → Type 0) (old new : T) (given : Status) where
  -- a text is refused for a fault
  pub of_fault : (bytes : List ℕ) (f : CompileFault) → length bytes ≤ MAX_INPUT
      → (f ≢ kind.Memory → Says bytes (Refused f ∷ []) status.Refused)
      → (f ≡ kind.Memory → Ends tells breaks old (NoMemory ∷ []) status.Memory new given)
      → (f ≢ kind.Memory → Ends tells breaks old (Refused f ∷ []) status.Refused new given) → Speaks tells breaks (SaysOfAny Says bytes) old new given
  of_fault bytes f short may memory other = go (is_memory f)
    where
      go : (f ≡ kind.Memory) ⊎ (f ≢ kind.Memory) → Speaks tells breaks (SaysOfAny Says bytes) old new given
      go (inl so) = (NoMemory ∷ [], status.Memory, no_memory, memory so)
      go (inr not) = (Refused f ∷ [], status.Refused, read (Refused f ∷ []) status.Refused short (may not), other not)

  -- what was read is refused, if there is a cause
  pub of_cause : (bytes : List ℕ) (cause : Option Cause) (said : Saying) → length bytes ≤ MAX_INPUT
      → ((c : Cause) → cause ≡ Some c → Says bytes (said ∷ []) status.Refused)
      → MatchOption cause (Ends tells breaks old (NoMemory ∷ []) status.Memory new given) (λ c. Ends tells breaks old (said ∷ []) status.Refused new given)
      → Speaks tells breaks (SaysOfAny Says bytes) old new given
  of_cause bytes None said short may ends = (NoMemory ∷ [], status.Memory, no_memory, ends)
  of_cause bytes (Some c) said short may ends = (said ∷ [], status.Refused, read (said ∷ []) status.Refused short (may c refl), ends)
