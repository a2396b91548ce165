-- What an input names: a layout, and then files, each by two messages.
use Rattle.std.specs.Prelude.{◌≡◌, ◌⊎◌, ◌++◌, ℕ, List, [], codes, ⊤}
use Rattle.pb_findings.specs.declared.entry.Entry.{Entry}
use Rattle.pb_findings.specs.declared.entry.Entry.TheVariants as entry
use Rattle.pb_findings.specs.declared.entry.Layout.{Layout}
use Rattle.pb_findings.specs.declared.entry.Layout.TheVariants as layout
use Rattle.pb_findings.specs.declared.entry.Next.{Next}
use Rattle.pb_findings.specs.declared.entry.Next.TheVariants as next
use Rattle.pb_findings.specs.declared.entry.First.{First}
use Rattle.pb_findings.specs.declared.entry.First.TheVariants as first
use Rattle.pb_frames.specs.Frames.{IsFrame}
use Rattle.pb_frames.specs.declared.fault.FrameFault.{FrameFault}
use Rattle.pb_frames.specs.declared.fault.FrameFault.TheVariants as frame

-- the layout that a message names: `gcc`, `json`, or `sarif` with a version
abbrev pub NamesLayout : (named : List ℕ) → Layout → Type 0
NamesLayout named layout.Gcc = named ≡ codes "gcc"
NamesLayout named layout.Json = named ≡ codes "json"
NamesLayout named (layout.Sarif version) = named ≡ codes "sarif " ++ version.items

-- what two messages say: the name of a file, with its bytes; with why it cannot be read; or that it is too long
abbrev pub IsFileEntry : (head content : List ℕ) → Entry → Type 0
IsFileEntry head content (entry.File name bytes) = (head ≡ codes "file " ++ name.items) × (bytes.items ≡ content)
IsFileEntry head content (entry.Unread name reason) = (head ≡ codes "unread " ++ name.items) × (reason.items ≡ content)
IsFileEntry head content (entry.Long name) = head ≡ codes "long " ++ name.items

-- no message comes next
abbrev pub IsNoFrame : List ℕ → Type 0
IsNoFrame left = (content rest : List ℕ) → ¬ IsFrame left content rest

-- what comes next are not two messages that say something of a file
abbrev pub IsNoEntry : List ℕ → Type 0
IsNoEntry left =
    IsNoFrame left
    ⊎ ((head : List ℕ) × (mid : List ℕ) × IsFrame left head mid
    × (IsNoFrame mid
    ⊎ ((content : List ℕ) × (rest : List ℕ) × IsFrame mid content rest × ((one : Entry) → ¬ IsFileEntry head content one))))

-- what comes next is not a message that names a layout
abbrev pub IsNoLayout : List ℕ → Type 0
IsNoLayout left =
    IsNoFrame left ⊎ ((named : List ℕ) × (rest : List ℕ) × IsFrame left named rest × ((one : Layout) → ¬ NamesLayout named one))

-- what comes next in an input, and what is left then
abbrev pub IsNextEntry : (old : List ℕ) → Next → (new : List ℕ) → Type 0
IsNextEntry old (next.Entry one) new =
    (head : List ℕ) × (mid : List ℕ) × (content : List ℕ) × IsFrame old head mid × IsFrame mid content new × IsFileEntry head content one
IsNextEntry old next.End new = old ≡ []
IsNextEntry old next.NoEntry new = IsNoEntry old
IsNextEntry old next.OutOfMemory new = ⊤

-- the same after the first of two messages
abbrev pub IsNextContent : (old : List ℕ) → (head : List ℕ) → Next → (new : List ℕ) → Type 0
IsNextContent old head (next.Entry one) new = (content : List ℕ) × IsFrame old content new × IsFileEntry head content one
IsNextContent old head next.End new = ⊥
IsNextContent old head next.NoEntry new =
    IsNoFrame old ⊎ ((content : List ℕ) × (rest : List ℕ) × IsFrame old content rest × ((one : Entry) → ¬ IsFileEntry head content one))
IsNextContent old head next.OutOfMemory new = ⊤

-- what a message that is not read comes to
abbrev pub fault_next : FrameFault → Next
fault_next frame.Early = next.NoEntry
fault_next frame.Malformed = next.NoEntry
fault_next frame.TooLong = next.NoEntry
fault_next frame.Memory = next.OutOfMemory
fault_next frame.Device = next.OutOfMemory

-- the layout that comes first in an input, and what is left then
abbrev pub IsFirstLayout : (old : List ℕ) → First → (new : List ℕ) → Type 0
IsFirstLayout old (first.Layout one) new = (named : List ℕ) × IsFrame old named new × NamesLayout named one
IsFirstLayout old first.NoLayout new = IsNoLayout old
IsFirstLayout old first.OutOfMemory new = ⊤
