-- A pick that is tried after the last.
use Rattle.std.specs.Prelude.{◌≡◌, ◌+◌, ◌<◌, ◌++◌, ◌∷◌, [], length, None, Some}
use Rattle.pb_base.specs.declared.limits.TheConstants.{MAX_PICKS}
use Rattle.pb_base.specs.declared.pick.Pick.{Pick}
use Rattle.pb_base.specs.declared.step.Step.{Step}
use Rattle.pb_base.specs.declared.step.Step.TheVariants.{Silent, Did, NotEnabled}
use Rattle.pb_code.specs.Reached.{CodeMovesBy, CodeStaysBy}
use Rattle.pb_machine.specs.Steps.{IsStepBy}
use Rattle.pb_machine.specs.Views.{IsMachineBy, machine_view}
use Rattle.pb_debug.specs.Value.{Debugging, moved_to, state_of}
use Rattle.pb_debug.specs.declared.append.Tried.{Tried}

-- the position is that after the last pick, and there may be one more
abbrev pub CanAppend : Debugging → Type 0
CanAppend d = (d.position ≡ length d.picks) × (length d.picks < MAX_PICKS)

-- with this pick after the last, at the position just after it
abbrev pub with_pick : Debugging → Pick → Debugging
with_pick d pick = moved_to (record d { picks = d.picks ++ pick ∷ [] }) (length d.picks + 1)

-- what a pick comes to in the state at the position, and where the debugger then is: a pick that is enabled
-- under the lending is appended, and any other changes nothing
abbrev pub TriesPick : Debugging → Pick → Step → Debugging → Type 0
TriesPick d pick Silent next =
    CodeMovesBy d.lending d.verified.code (state_of d) pick None (state_of next) × (next ≡ with_pick d pick)
TriesPick d pick (Did event) next =
    CodeMovesBy d.lending d.verified.code (state_of d) pick (Some event) (state_of next) × (next ≡ with_pick d pick)
TriesPick d pick NotEnabled next = CodeStaysBy d.lending d.verified.code (state_of d) pick × (next ≡ d)

-- a machine that has tried its pick in the state at the position
pub record IsTried (d : Debugging) (t : Tried) : Type 0 where
  pub machine : IsMachineBy d.lending d.verified t.machine
  pub steps : IsStepBy d.lending d.verified.code (state_of d) t.pick t.step (machine_view t.machine)
