-- Circles of nested holds: why there is no order of the resources.
use Rattle.std.specs.Prelude.{◌≡◌, ℕ, ◌+◌, ◌-◌, ◌<◌, true, List, length, Some, slice_get, All}
use Rattle.pb_names.specs.Program.{Block, Process}
use Rattle.pb_plan.specs.Nests.{asks, IsAmong}
use Rattle.pb_plan.specs.Standing.{OneHold, StandsIn}
use Rattle.pb_plan.specs.declared.edge.Edge.{Edge}
use Rattle.pb_plan.specs.declared.nest.Nest.{Nest}

-- a hold that asks for the inner resource stands inside one that asks for the outer one, each at its line
pub record IsNestIn (body : Block) (nest : Nest) : Type 0 where
  pub around : OneHold
  pub inside : OneHold
  pub stands : StandsIn around body
  pub within : StandsIn inside around.body
  pub outer_line : around.line ≡ nest.outer_line
  pub outer : asks nest.outer around.asked ≡ true
  pub inner_line : inside.line ≡ nest.inner_line
  pub inner : asks nest.inner inside.asked ≡ true

-- it stands so in the process that is named
pub record IsEdge (processes : List Process) (edge : Edge) : Type 0 where
  pub process : Process
  pub there : slice_get processes edge.process ≡ Some process
  pub nest : IsNestIn process.body edge.nest

-- the inner resource of each is the outer one of the next, and that of the last the outer one of the first; no
-- resource is the inner one of two
pub record IsCircle (processes : List Process) (circle : List Edge) : Type 0 where
  pub some : 0 < length circle
  pub each : All (IsEdge processes) circle
  pub next : (k : ℕ) (edge next : Edge) → slice_get circle k ≡ Some edge → slice_get circle (k + 1) ≡ Some next
      → edge.nest.inner ≡ next.nest.outer
  pub last : (edge first : Edge) → slice_get circle (length circle - 1) ≡ Some edge → slice_get circle 0 ≡ Some first
      → edge.nest.inner ≡ first.nest.outer
  pub once : (i k : ℕ) (edge other : Edge) → slice_get circle i ≡ Some edge → slice_get circle k ≡ Some other
      → edge.nest.inner ≡ other.nest.inner → i ≡ k

-- an edge leads from one of these resources to one of them
abbrev pub JoinsThese : List ℕ → Edge → Type 0
JoinsThese among edge = IsAmong among edge.nest.outer × IsAmong among edge.nest.inner

-- a circle of these resources alone
abbrev pub IsCircleAmong : List ℕ → List Process → List Edge → Type 0
IsCircleAmong among processes circle = IsCircle processes circle × All (JoinsThese among) circle

-- the numbers of an edge are those of processes and resources that are there
pub record IsBelow (processes resources : ℕ) (edge : Edge) : Type 0 where
  pub process : edge.process < processes
  pub outer : edge.nest.outer < resources
  pub inner : edge.nest.inner < resources

-- ---- how a circle is found. No public contract cites what follows

-- an edge from one resource to another
pub record IsEdgeOf (processes : List Process) (outer inner : ℕ) (edge : Edge) : Type 0 where
  pub is : IsEdge processes edge
  pub outer_is : edge.nest.outer ≡ outer
  pub inner_is : edge.nest.inner ≡ inner

-- an edge from one of these resources
pub record IsEdgeInto (processes : List Process) (among : List ℕ) (inner : ℕ) (edge : Edge) : Type 0 where
  pub is : IsEdge processes edge
  pub inner_is : edge.nest.inner ≡ inner
  pub member : IsAmong among edge.nest.outer

-- an edge from one of these resources to one of them
abbrev pub IsEdgeAmong : List Process → List ℕ → Edge → Type 0
IsEdgeAmong processes among edge = IsEdge processes edge × JoinsThese among edge

-- edges one before another, of which the first leads from `at`
pub record IsPath (Good : Edge → Type 0) (path : List Edge) (at : ℕ) : Type 0 where
  pub each : All Good path
  pub next : (k : ℕ) (edge next : Edge) → slice_get path k ≡ Some edge → slice_get path (k + 1) ≡ Some next
      → edge.nest.inner ≡ next.nest.outer
  pub first : (edge : Edge) → slice_get path 0 ≡ Some edge → edge.nest.outer ≡ at
  pub once : (i k : ℕ) (edge other : Edge) → slice_get path i ≡ Some edge → slice_get path k ≡ Some other
      → edge.nest.inner ≡ other.nest.inner → i ≡ k

-- an edge of the path leads to this resource
abbrev pub IsOnPath : List Edge → ℕ → Type 0
IsOnPath path r = (k : ℕ) × (edge : Edge) × (slice_get path k ≡ Some edge) × (edge.nest.inner ≡ r)
