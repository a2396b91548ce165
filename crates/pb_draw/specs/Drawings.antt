-- What a drawing says of a run.
use Rattle.std.specs.Prelude.{◌≡◌, ℕ, List, length, map, Some, slice_get}
use Rattle.pb_base.specs.declared.lending.Lending.{Lending}
use Rattle.pb_base.specs.declared.pick.Pick.{Pick}
use Rattle.pb_code.specs.Whole.{Code, ProcessLabels}
use Rattle.pb_draw.specs.Accesses.{assignments, integers_drawn, reads}
use Rattle.pb_draw.specs.Arms.{arms_from}
use Rattle.pb_draw.specs.Bars.{bars_of}
use Rattle.pb_draw.specs.Cash.{IsCashCurve}
use Rattle.pb_draw.specs.Lanes.{IsLane}
use Rattle.pb_draw.specs.Marks.{marks_before}
use Rattle.pb_draw.specs.declared.drawing.CashCurve.{CashCurve}
use Rattle.pb_draw.specs.declared.drawing.Drawing.{Drawing}
use Rattle.pb_draw.specs.declared.drawing.Lane.{Lane}

-- each curve shows the cash of its resource, by its number, after each first part of the picks
pub record AreCashCurves (code : Code) (picks : List Pick) (curves : List CashCurve) : Type 0 where
  pub all : length curves ≡ length code.capital
  pub each : (r : ℕ) (curve : CashCurve) → slice_get curves r ≡ Some curve → IsCashCurve code picks r curve

-- each lane shows the state of its arm after each first part of the picks
abbrev pub AreLanes : Lending → Code → List Pick → List Lane → Type 0
AreLanes lending code picks lanes = (k : ℕ) (lane : Lane) → slice_get lanes k ≡ Some lane → IsLane lending code picks lane

-- a drawing shows each event of the picks at its pick, with the line of its arm, and no other; how many picks assign and how many
-- read, and each of these too if they are few enough to be drawn; a bar for each grant, up to where it is
-- given back; a lane for each arm of each process, in their order, and no other, with the state of that arm; and
-- the cash of each resource, after each first part of the picks, which were made under this lending
pub record IsDrawing (lending : Lending) (code : Code) (labels : List ProcessLabels) (picks : List Pick) (d : Drawing)
    : Type 0 where
  pub many : d.picks ≡ length picks
  pub assignments : d.assignments ≡ assignments code picks (length picks)
  pub reads : d.reads ≡ reads code picks (length picks)
  pub integers : d.integers ≡ integers_drawn d.assignments d.reads
  pub marks : d.marks.items ≡ marks_before d.integers code labels picks (length picks)
  pub bars : d.bars.items ≡ bars_of d.marks.items
  pub arms : map (λ lane. lane.pick) d.lanes.items ≡ arms_from 0 code.processes
  pub lanes : AreLanes lending code picks d.lanes.items
  pub curves : AreCashCurves code picks d.curves.items
