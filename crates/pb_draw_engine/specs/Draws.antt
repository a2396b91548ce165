-- What `draw` says of an input, as data, and with which status.
use Rattle.std.specs.Prelude.{◌≡◌, ◌≢◌, ◌⊎◌, ◌<◌, ◌≤◌, ℕ, Bool, true, false, List, [], ◌∷◌, length, map}
use Rattle.pb_base.specs.declared.lending.Lending.{Lending}
use Rattle.pb_base.specs.Steppers.{State}
use Rattle.pb_circles.specs.Circles.{IsCircle}
use Rattle.pb_circles.specs.declared.link.Link.{Link}
use Rattle.pb_code.specs.Code.{CodeProcess}
use Rattle.pb_code.specs.Whole.{Code, ProcessLabels}
use Rattle.pb_codegen.specs.Compiled.{IsCompiled, IsRefused}
use Rattle.pb_codegen.specs.declared.fault.CompileFault.{CompileFault}
use Rattle.pb_codegen.specs.declared.fault.CompileFault.TheVariants as fault
use Rattle.pb_draw.specs.Bars.{AreNested}
use Rattle.pb_draw.specs.Drawings.{IsDrawing}
use Rattle.pb_draw_picture.specs.Marks.{AreFromLeft}
use Rattle.pb_draw_picture.specs.Pictures.{IsLayout}
use Rattle.pb_draw_picture.specs.Rows.{AreStacked}
use Rattle.pb_draw_picture.specs.Shapes.{sign_of}
use Rattle.pb_draw_picture.specs.Svg.{svg}
use Rattle.pb_draw.specs.declared.drawing.Drawing.{Drawing}
use Rattle.pb_draw_picture.specs.declared.picture.Picture.{Picture}
use Rattle.pb_draw_picture.specs.declared.picture.Size.{Size}
use Rattle.pb_draw_picture.specs.declared.sizes.TheConstants.{TOP}
use Rattle.pb_command_io.specs.Parts.{AreTwoParts}
use Rattle.pb_accept.specs.ReplayLines.{AreReplayedBy, IsEnding, IsEndStatus}
use Rattle.pb_accept.specs.Replays.{SaysOfNoLines}
use Rattle.pb_accept.specs.Sayings.{Saying, Limit, NoMemory, Refused, Text}
use Rattle.pb_accept.specs.declared.ending.Ending.{Ending}
use Rattle.pb_accept.specs.declared.ending.Ending.TheVariants.{Open, Over, Stuck}
use Rattle.pb_command_io.specs.declared.status.Status.{Status}
use Rattle.pb_command_io.specs.declared.status.Status.TheVariants as status
use Rattle.pb_history.specs.Entries.{Entry, picks_of}
use Rattle.pb_options.specs.declared.options.DrawOptions.{DrawOptions}

-- how large these options ask a picture to be
abbrev pub size_of : DrawOptions → Size
size_of options = record { width = options.width; scale = options.scale }

-- the links of a circular wait; none, only if there is no such wait
abbrev pub IsSomeCircle : Code → State CodeProcess → List Link → Type 0
IsSomeCircle code s links = IsCircle code s links ⊎ ((links ≡ []) × ((circle : List Link) → IsCircle code s circle → ⊥))

-- a text is the picture of these entries as SVG, as large as it is asked to be: the layout of what their run shows under
-- this lending, and whether it ends in a deadlock, with a circular wait then. Its rows are one below the other, a hold inside
-- another of its arm is drawn below it, and of two marks the earlier is further left
pub record IsPictured (lending : Lending) (size : Size) (code : Code) (labels : List ProcessLabels) (entries : List Entry)
    (end : State CodeProcess) (deadlock : Bool) (text : List ℕ) : Type 0 where
  pub circle : List Link
  pub waits : IsSomeCircle code end circle
  pub drawing : Drawing
  pub picture : Picture
  pub drawn : IsDrawing lending code labels (picks_of entries) drawing
  pub laid_out : IsLayout code.names labels code.capital drawing deadlock circle picture
  pub stacked : AreStacked laid_out.places drawing.bars.items TOP drawing.lanes.items laid_out.places.bottom
  pub nested : AreNested drawing.bars.items
  pub rising : AreFromLeft (map sign_of picture.ticks.items)
  pub written : text ≡ svg size picture

-- whether this is a deadlock
abbrev pub is_stuck : Ending → Bool
is_stuck Over = false
is_stuck Stuck = true
is_stuck Open = false

-- a text is the picture of a run that made these entries and led to this state, and the status is that of its end
pub record IsDrawn (lending : Lending) (size : Size) (code : Code) (labels : List ProcessLabels) (entries : List Entry) (end : State CodeProcess)
    (text : List ℕ) (given : Status) : Type 0 where
  pub ending : Ending
  pub ends : IsEnding lending code end ending
  pub picture : IsPictured lending size code labels entries end (is_stuck ending) text
  pub told : IsEndStatus end ending given

-- what is said of a picture with a status: the picture, with that status; or if it is longer than 8,388,608 bytes, that
-- this is the limit
pub data Fits (picture : List ℕ) (ended : Status) : List Saying → Status → Type 0 where
  whole : length picture ≤ 8388608 → Fits picture ended (Text picture ∷ []) ended
  too_large : 8388608 < length picture → Fits picture ended (Limit 8388608 ∷ []) status.Limit

-- what is said of a run that made these entries and led to this state: its picture, if that is not too large
pub record IsShown (lending : Lending) (size : Size) (code : Code) (labels : List ProcessLabels) (entries : List Entry) (end : State CodeProcess)
    (said : List Saying) (given : Status) : Type 0 where
  pub picture : List ℕ
  pub ended : Status
  pub drawn : IsDrawn lending size code labels entries end picture ended
  pub fits : Fits picture ended said given

-- what is said of the lines after an accepted text, by its code and its labels: their picks are refused under this
-- lending; or all are made, and the picture of them is told, or that it is too large
pub data SaysOfDrawnLines (lending : Lending) (size : Size) (code : Code) (labels : List ProcessLabels) (lines : List ℕ)
    : List Saying → Status → Type 0 where
  not_made : (said : List Saying) (given : Status) → SaysOfNoLines lending code lines said given
      → SaysOfDrawnLines lending size code labels lines said given
  no_memory : SaysOfDrawnLines lending size code labels lines (NoMemory ∷ []) status.Memory
  drawn : (entries : List Entry) (end : State CodeProcess) → AreReplayedBy lending code lines entries end
      → (said : List Saying) (given : Status) → IsShown lending size code labels entries end said given
      → SaysOfDrawnLines lending size code labels lines said given

-- what is said of an input, which is a text and pick lines after it: its text is refused; or it is accepted
pub data SaysOfDraw (lending : Lending) (size : Size) (bytes : List ℕ) : List Saying → Status → Type 0 where
  no_text : (text lines : List ℕ) → AreTwoParts bytes text lines
      → (f : CompileFault) → f ≢ fault.Memory → IsRefused text f → SaysOfDraw lending size bytes (Refused f ∷ []) status.Refused
  with_code : (text lines : List ℕ) → AreTwoParts bytes text lines
      → (code : Code) (labels : List ProcessLabels) → IsCompiled text code labels
      → (said : List Saying) (given : Status) → SaysOfDrawnLines lending size code labels lines said given
      → SaysOfDraw lending size bytes said given
