-- From what was read, and what is told of it, to what is told of an input.
use Rattle.std.proofs.Common.{◌≡◌, ◌<◌, ◌≤◌, ℕ, List, [], ◌∷◌, length, Option, Some, None, IfSome, subst, inl, inr}
use Rattle.std.specs.Bool.{⊤}
use Rattle.pb_base.specs.declared.limits.TheConstants.{MAX_INPUT}
use Rattle.pb_command_io.specs.declared.status.Status.{Status}
use Rattle.pb_command_io.specs.declared.status.Status.TheVariants as status
use Rattle.pb_voice.specs.Inputs.{SaysOfWhole, SaysOfNothing, too_long, no_memory, nothing, read}
use Rattle.pb_voice.specs.Tellings.{Answers, Ends, Speaks}

module _ {T S : Type 0} (long_said memory_said : S) (tells breaks : T → S → T → Type 0) (Says : List ℕ → List S → Status → Type 0)
    (old new : T) (given : Status) where
  abbrev Any : (List ℕ → List S → Status → Type 0) → List ℕ → List S → Status → Type 0
  Any = SaysOfWhole long_said memory_said

  pub something : (P : List S → Status → Type 0) → Speaks tells breaks P old new given
      → Speaks tells breaks (λ (said : List S) (s : Status). ⊤) old new given
  something P (said, s, is, ends) = (said, s, tt, ends)

  pub of_what_was_read : (rest : Option (List ℕ)) (bytes : List ℕ) → IfSome rest (λ b. bytes ≡ b)
      → Speaks tells breaks (Any Says bytes) old new given → IfSome rest (λ b. Speaks tells breaks (Any Says b) old new given)
  of_what_was_read None bytes same told = tt
  of_what_was_read (Some b) bytes same told = subst (λ (l : List ℕ). Speaks tells breaks (Any Says l) old new given) same told

  pub of_too_long : (rest : Option (List ℕ)) → IfSome rest (λ b. MAX_INPUT < length b) → Ends tells breaks old (long_said ∷ []) status.Refused new given
      → IfSome rest (λ b. Speaks tells breaks (Any Says b) old new given)
  of_too_long None long ends = tt
  of_too_long (Some b) long ends = (long_said ∷ [], status.Refused, too_long long, ends)

  pub of_no_memory : (rest : Option (List ℕ)) → Ends tells breaks old (memory_said ∷ []) status.Memory new given
      → IfSome rest (λ b. Speaks tells breaks (Any Says b) old new given)
  of_no_memory None ends = tt
  of_no_memory (Some b) ends = (memory_said ∷ [], status.Memory, no_memory, ends)

  pub as_any : (bytes : List ℕ) → length bytes ≤ MAX_INPUT → Speaks tells breaks (Says bytes) old new given
      → Speaks tells breaks (Any Says bytes) old new given
  as_any bytes short (said, s, is, ends) = (said, s, read said s short is, ends)

  -- ---- the answer of an engine

  -- the input was read
  pub answers_read : (rest : Option (List ℕ)) (reads reads' : ℕ) (bytes slice : List ℕ) (mid : T) → IfSome rest (λ b. bytes ≡ b)
      → slice ≡ bytes → reads' ≡ reads → mid ≡ old → Speaks tells breaks (Any Says slice) mid new given
      → Answers tells breaks (Any Says) rest reads reads' old new given
  answers_read rest reads reads' bytes slice mid whole same counted untouched told =
      let here : Speaks tells breaks (Any Says bytes) old new given =
      subst (λ (l : List ℕ). Speaks tells breaks (Any Says l) old new given) same
      (subst (λ (m : T). Speaks tells breaks (Any Says slice) m new given) untouched told) in
      inr (counted, something (Any Says bytes) here, of_what_was_read rest bytes whole here)

  -- it was not
  of_no_bytes : (bytes : List ℕ) (said : List S) (s : Status) → Any SaysOfNothing bytes said s → Any Says bytes said s
  of_no_bytes bytes _ _ (too_long long) = too_long long
  of_no_bytes bytes _ _ no_memory = no_memory
  of_no_bytes bytes _ _ nothing = nothing
  of_no_bytes bytes said s (read _ _ short none) = absurd none

  pub answers_unread : (rest : Option (List ℕ)) (reads reads' : ℕ) → Answers tells breaks (Any SaysOfNothing) rest reads reads' old new given
      → Answers tells breaks (Any Says) rest reads reads' old new given
  answers_unread rest reads reads' (inl failed) = inl failed
  answers_unread rest reads reads' (inr (none, some, told)) = inr (none, some, go rest told)
    where
      go : (r : Option (List ℕ)) → IfSome r (λ b. Speaks tells breaks (Any SaysOfNothing b) old new given)
          → IfSome r (λ b. Speaks tells breaks (Any Says b) old new given)
      go None told = tt
      go (Some b) (said, s, is, ends) = (said, s, of_no_bytes b said s is, ends)
