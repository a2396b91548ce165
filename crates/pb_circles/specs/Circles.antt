-- Circular waits: processes each of which waits for a resource that the next one holds.
use Rattle.std.specs.Prelude.{◌≡◌, ℕ, ◌+◌, ◌-◌, ◌<◌, List, length, Some, slice_get, All}
use Rattle.pb_base.specs.Steppers.{State}
use Rattle.pb_code.specs.Code.{CodeProcess}
use Rattle.pb_code.specs.Whole.{Code}
use Rattle.pb_circles.specs.Links.{IsAmong, IsLink, LinksTo}
use Rattle.pb_circles.specs.declared.link.Link.{Link}

-- each waits for the process of the next link, and the last for that of the first; no process is in it twice. Nobody
-- waits for himself, so there are two or more
pub record IsCircle (code : Code) (s : State CodeProcess) (circle : List Link) : Type 0 where
  pub some : 0 < length circle
  pub each : All (IsLink code s) circle
  pub next : (k : ℕ) (link next : Link) → slice_get circle k ≡ Some link → slice_get circle (k + 1) ≡ Some next
      → link.holder ≡ next.process
  pub last : (link first : Link) → slice_get circle (length circle - 1) ≡ Some link → slice_get circle 0 ≡ Some first
      → link.holder ≡ first.process
  pub once : (i k : ℕ) (link other : Link) → slice_get circle i ≡ Some link → slice_get circle k ≡ Some other
      → link.process ≡ other.process → i ≡ k

-- ---- how one is found. No public contract cites what follows

-- each of these processes waits for one of them
abbrev pub EachLinks : Code → State CodeProcess → List ℕ → Type 0
EachLinks code s among = (p : ℕ) → IsAmong among p → (link : Link) × LinksTo code s among p link

-- the process in this place waits for none of them
pub record IsFreeAt (code : Code) (s : State CodeProcess) (among : List ℕ) (i : ℕ) : Type 0 where
  pub p : ℕ
  pub there : slice_get among i ≡ Some p
  pub free : (link : Link) → LinksTo code s among p link → ⊥

-- links one after another, of which the last waits for `at`
pub record IsPath (Good : Link → Type 0) (path : List Link) (at : ℕ) : Type 0 where
  pub each : All Good path
  pub next : (k : ℕ) (link next : Link) → slice_get path k ≡ Some link → slice_get path (k + 1) ≡ Some next
      → link.holder ≡ next.process
  pub last : (link : Link) → slice_get path (length path - 1) ≡ Some link → link.holder ≡ at
  pub once : (i k : ℕ) (link other : Link) → slice_get path i ≡ Some link → slice_get path k ≡ Some other
      → link.process ≡ other.process → i ≡ k

-- a process is on a path
abbrev pub IsOnPath : List Link → ℕ → Type 0
IsOnPath path p = (k : ℕ) × (link : Link) × (slice_get path k ≡ Some link) × (link.process ≡ p)
