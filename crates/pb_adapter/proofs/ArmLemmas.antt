-- The arms at the position of a debugger.
use Rattle.std.proofs.Common.{◌≡◌, ℕ, ◌<◌, Option, Some, true, false, length, sym, ap, ◌∙◌, arith, lt-ltb, le-ltb}
use Rattle.std.specs.Prelude.{slice_get}
use Rattle.std.proofs.lemmas.Option.{slice_get_past, slice_get_within}
use Rattle.pb_code.specs.Code.{CodeProcess}
use Rattle.pb_code.specs.Whole.{ProcessLabels}
use Rattle.pb_debug_positions.specs.Searches.{line_in}
use Rattle.pb_debug.specs.Refusals.{HasArm, IsMissing}
use Rattle.pb_debug.specs.Shown.{IsArmLine}
use Rattle.pb_debug.specs.Value.{Debugging, IsPosition, state_of}
use Rattle.pb_debug.specs.declared.fault.DebugFault.{DebugFault}
use Rattle.pb_debug.specs.declared.fault.DebugFault.TheVariants as fault
use Rattle.pb_debug.proofs.Positions.{as_many, few_arms}
use Rattle.pb_verifier.specs.declared.fault.VerifyFault.TheVariants.{OutOfLimits}
use Rattle.pb_adapter.specs.Values.{has_arm}

-- the number of a process is small
pub small_process : (d : Debugging) → IsPosition d → (p : ℕ) → p < length (state_of d).processes → p < 64
small_process d h p within =
    let many = as_many d h in
    let few = ((h.verified.faultless OutOfLimits).some_processes).1 in
    omega (arith, many, few, within)

-- and that of an arm
pub small_arm : (d : Debugging) → IsPosition d → (p a : ℕ) → HasArm d p a → (p < 64) × (a < 64)
small_arm d h p a (process, there, within) = (
  small_process d h p (slice_get_within (state_of d).processes p process there),
  (let few = few_arms d h p process there in omega (arith, few, within)),
)

-- there is such an arm
pub arm_there : (d : Debugging) (p a : ℕ) → HasArm d p a → has_arm (slice_get (state_of d).processes p) a ≡ true
arm_there d p a (process, there, within) =
    ap (λ (o : Option CodeProcess). has_arm o a) there ∙ lt-ltb a (length process.threads) within

-- or there is none
pub arm_missing : (d : Debugging) (p a : ℕ) (why : DebugFault) → IsMissing d p a why
    → has_arm (slice_get (state_of d).processes p) a ≡ false
arm_missing d p a fault.PastEnd missing = absurd missing
arm_missing d p a fault.NoProcess missing =
    ap (λ (o : Option CodeProcess). has_arm o a) (slice_get_past (state_of d).processes p missing)
arm_missing d p a fault.NoArm (process, there, past) =
    ap (λ (o : Option CodeProcess). has_arm o a) there ∙ le-ltb a (length process.threads) past
arm_missing d p a fault.BadCommand missing = absurd missing
arm_missing d p a fault.NoMemory missing = absurd missing
arm_missing d p a fault.Device missing = absurd missing

-- its line
pub arm_line : (d : Debugging) (p a : ℕ) (line : Option ℕ) → IsArmLine d p a line
    → line ≡ line_in (slice_get d.labels p) (slice_get (state_of d).processes p) a
arm_line d p a line h =
    h.is
    ∙ sym (ap (λ (o : Option ProcessLabels). line_in o (slice_get (state_of d).processes p) a) h.labels_there
    ∙ ap (λ (o : Option CodeProcess). line_in (Some h.labels) o a) h.there)
