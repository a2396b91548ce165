-- What is known of each step of a run.
use Rattle.std.proofs.Common.{ℕ, ◌+◌, List, Some}
use Rattle.pb_base.specs.declared.lending.Lending.{Lending}
use Rattle.pb_base.specs.declared.pick.Pick.{Pick}
use Rattle.pb_base.specs.declared.step.Step.{Step}
use Rattle.pb_base.specs.declared.step.Step.TheVariants.{Silent, Did, NotEnabled}
use Rattle.pb_debug_positions.specs.Searches.{StepsAt}
use Rattle.pb_debug_positions.proofs.Walks.{moves_at}
use Rattle.pb_history.specs.Positions.{AreEnabledBy, state_after}
use Rattle.pb_history.proofs.Positions.{position_reached}
use Rattle.pb_machine.proofs.NeverStuck.{events_have_names}
use Rattle.pb_page.specs.Rows.{HasNamesOf}
use Rattle.pb_verifier.specs.Verified.{VerifiedCode, IsVerified}

pub steps_named : {lending : Lending} (v : VerifiedCode) → IsVerified v → (picks : List Pick) → AreEnabledBy lending v.code picks → (k : ℕ) (step : Step)
    → StepsAt v.code picks k step → HasNamesOf v.code.names step
steps_named v verified picks all k Silent steps = tt
steps_named {lending = lending} v verified picks all k (Did event) steps =
    events_have_names lending v verified (state_after v.code picks k) (position_reached v.code picks k all) steps.pick event
    (state_after v.code picks (k + 1)) (moves_at v.code picks k (Some event) all steps)
steps_named v verified picks all k NotEnabled steps = tt
