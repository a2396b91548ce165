-- From verified code, and labels that fit it, to the texts that it has and what is told of it.
use Rattle.std.proofs.Common.{◌≡◌, ◌≤◌, ℕ, List, length, Result, Ok, Err, IfOk, refl, subst, sym}
use Rattle.pb_object.specs.Answers.{HasText, HasTextOne, SpellsCode, SpellsOne}
use Rattle.pb_code.specs.Limits.{AreLabels}
use Rattle.pb_object.specs.Formats.{FitsFirst}
use Rattle.pb_code.specs.Whole.{Code, ProcessLabels}
use Rattle.pb_code.specs.declared.format.Format.TheVariants.{One, Two}
use Rattle.pb_verifier.specs.Verified.{IsVerified, VerifiedCode}
use Rattle.pb_verifier.specs.declared.fault.VerifyFault.TheVariants.{OutOfLimits}
use Rattle.pb_object.proofs.SayableCode.{first_text, ranges_text}
use Rattle.pb_base.specs.declared.limits.TheConstants.{MAX_INPUT}
use Rattle.pb_base.specs.declared.memory.NoMemory.{NoMemory}
use Rattle.pb_code.specs.declared.format.Format.{Format}
use Rattle.pb_codegen.specs.Compiled.{IsCompiled}
use Rattle.pb_accept.specs.Claims.{SaysOfAny}
use Rattle.pb_voice.specs.Inputs.{no_memory, read}
use Rattle.pb_accept.specs.Emissions.{IsBeyond, IsWrittenIn, SaysOfCode, SaysOfEmission, beyond, emitted, written}
use Rattle.pb_accept.specs.Emissions.{no_memory as code_memory}
use Rattle.pb_accept.specs.Loading.{IsLoaded}
use Rattle.pb_accept.specs.Migrations.{SaysOfMigration, migrated}
use Rattle.pb_accept.specs.Sayings.{Saying}
use Rattle.pb_command_io.specs.declared.status.Status.{Status}
use Rattle.pb_voice.specs.Tellings.{Speaks}

pub has_first_text : (verified : VerifiedCode) (code : Code) → code ≡ verified.code → IsVerified verified
    → FitsFirst code → HasTextOne code
has_first_text verified code same is fits =
    subst HasTextOne (sym same)
    (first_text verified.code (is.faultless OutOfLimits) is.pushes (subst FitsFirst same fits))

pub has_second_text : (verified : VerifiedCode) (code : Code) (labels given : List ProcessLabels)
    → code ≡ verified.code → given ≡ labels → IsVerified verified → AreLabels verified.code labels
    → HasText Two code given
has_second_text verified code labels given same same_labels is fit =
    subst (λ (c : Code). HasText Two c given) (sym same)
    (subst (λ (l : List ProcessLabels). HasText Two verified.code l) (sym same_labels)
    (ranges_text verified.code labels
    (record { limits = is.faultless OutOfLimits; pushes = is.pushes; fit = fit })))

-- ---- the object that is told

pub is_first : (code given : Code) (labels : List ProcessLabels) (text : List ℕ) → given ≡ code → SpellsOne given text
    → IsWrittenIn One code labels text
is_first code given labels text same spells = subst (λ (c : Code). SpellsOne c text) same spells

pub is_second : {V : Type 0} (seen : V → List ℕ) (code given : Code) (labels known : List ProcessLabels) (r : Result V NoMemory) → given ≡ code
    → known ≡ labels → IfOk r (λ v. SpellsCode Two given known (seen v)) → IfOk r (λ v. IsWrittenIn Two code labels (seen v))
is_second seen code given labels known (Ok v) same same_labels spells =
    subst (λ (c : Code). SpellsCode Two c labels (seen v)) same
    (subst (λ (l : List ProcessLabels). SpellsCode Two given l (seen v)) same_labels spells)
is_second seen code given labels known (Err e) same same_labels spells = tt

pub is_beyond : (code given : Code) → given ≡ code → ¬ FitsFirst given → IsBeyond One code
is_beyond code given same none = (refl, subst (λ (c : Code). ¬ FitsFirst c) same none)

-- ---- what is told

module _ {T : Type 0} (tells breaks : T → Saying → T → Type 0) (old new : T) (given : Status) where
  -- what is told of its code is told of an accepted text
  pub emission_is_told : (format : Format) (bytes : List ℕ) (code : Code) (labels : List ProcessLabels) → length bytes ≤ MAX_INPUT
      → IsCompiled bytes code labels → Speaks tells breaks (SaysOfCode format code labels) old new given
      → Speaks tells breaks (SaysOfAny (SaysOfEmission format) bytes) old new given
  emission_is_told format bytes code labels short compiled (said, status, is, ends) =
      (said, status, read said status short (emitted code labels compiled said status is), ends)

  -- the second format of the code of an object is what is told of it
  pub migration_is_told : (bytes : List ℕ) (code known : Code) (labels : List ProcessLabels) → length bytes ≤ MAX_INPUT → IsLoaded bytes code labels
      → known ≡ code → Speaks tells breaks (SaysOfCode Two known labels) old new given
      → Speaks tells breaks (SaysOfAny SaysOfMigration bytes) old new given
  migration_is_told bytes code known labels short loaded same told =
      go (subst (λ (c : Code). Speaks tells breaks (SaysOfCode Two c labels) old new given) same told)
    where
      of : (said : List Saying) (status : Status) → SaysOfCode Two code labels said status → SaysOfAny SaysOfMigration bytes said status
      of _ _ (written text is) = read _ _ short (migrated code labels loaded text is)
      of _ _ (beyond (is_first, none)) = absurd cc
      of _ _ code_memory = no_memory

      go : Speaks tells breaks (SaysOfCode Two code labels) old new given → Speaks tells breaks (SaysOfAny SaysOfMigration bytes) old new given
      go (said, status, is, ends) = (said, status, of said status is, ends)
