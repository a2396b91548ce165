-- Machines that have made the first picks of a list.
use Rattle.std.specs.Prelude.{◌≡◌, ℕ, ◌+◌, ◌*◌, ◌<◌, ◌≤◌, List, Some, length, slice_get}
use Rattle.pb_base.specs.declared.lending.Lending.{Lending}
use Rattle.pb_base.specs.declared.pick.Pick.{Pick}
use Rattle.pb_code.specs.Whole.{code_opening}
use Rattle.pb_history.specs.Entries.{picks_of}
use Rattle.pb_history.specs.Leads.{LeadsBy}
use Rattle.pb_history.specs.Positions.{AreEnabledBy, IsAfterBy}
use Rattle.pb_machine.specs.Views.{machine_view, IsMachineBy}
use Rattle.pb_machine.specs.declared.machine.Machine.{Machine}
use Rattle.pb_verifier.specs.Verified.{VerifiedCode}
use Rattle.pb_debug_positions.specs.declared.checkpoints.Replaying.{Replaying}
use Rattle.pb_debug_positions.specs.declared.walker.Walker.{Walker}

-- each pick is enabled in turn under this lending, and the machine, which lends so, is in the state at its position
pub record WalksBy (lending : Lending) (v : VerifiedCode) (picks : List Pick) (w : Walker) : Type 0 where
  pub enabled : AreEnabledBy lending v.code picks
  pub stands : IsAfterBy lending v picks w.at w.machine

-- so it is under some lending
abbrev pub Walks : VerifiedCode → List Pick → Walker → Type 0
Walks v picks w = (lending : Lending) × WalksBy lending v picks w

-- the picks from position i on begin with this one, so often
abbrev pub Repeat : List Pick → (i : ℕ) → Pick → (count : ℕ) → Type 0
Repeat picks i pick count = (k : ℕ) → k < count → slice_get picks (i + k) ≡ Some pick

-- a machine at position i under this lending, which is not past the picks
pub record IsCheckpoint (lending : Lending) (v : VerifiedCode) (picks : List Pick) (i : ℕ) (m : Machine) : Type 0 where
  pub stands : IsAfterBy lending v picks i m
  pub within : i ≤ length picks

-- these machines are at the first multiples of the distance
abbrev pub AreCheckpoints : Lending → VerifiedCode → List Pick → (interval : ℕ) → List Machine → Type 0
AreCheckpoints lending v picks interval machines =
    (k : ℕ) (m : Machine) → slice_get machines k ≡ Some m → IsCheckpoint lending v picks (k * interval) m

-- the picks of a replay, each enabled in turn under this lending, led its machine to its state, and it has
-- checkpoints at all multiples of the distance up to the last pick, and no further ones
pub record ReplaysBy (lending : Lending) (v : VerifiedCode) (r : Replaying) : Type 0 where
  pub machine : IsMachineBy lending v r.machine
  pub leads : LeadsBy lending v.code (code_opening v.code) r.trace.entries (machine_view r.machine)
  pub checkpoints : AreCheckpoints lending v (picks_of r.trace.entries) r.interval r.checkpoints.items
  pub before : length r.trace.entries < length r.checkpoints.items * r.interval
  pub after : length r.checkpoints.items * r.interval ≤ length r.trace.entries + r.interval

-- so it is under some lending
abbrev pub Replays : VerifiedCode → Replaying → Type 0
Replays v r = (lending : Lending) × ReplaysBy lending v r
