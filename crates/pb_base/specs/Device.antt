-- What a contract says of a device that gives or takes bytes.
use Rattle.std.specs.Prelude.{◌≡◌, ◌≤◌, ◌+◌, ◌++◌, ℕ, zero, suc, List, Option, Some, None, length, take, drop}
use Rattle.std.specs.Prelude.{option_map, IfSome, if◌then◌else◌, nat_lt}

-- the bytes that a device holds after more were added, if they are known
abbrev pub appended : Option (List ℕ) → List ℕ → Option (List ℕ)
appended held bytes = option_map (λ h. h ++ bytes) held

-- the bytes that are still to come after n were taken, if they are known
abbrev pub dropped : Option (List ℕ) → ℕ → Option (List ℕ)
dropped rest n = option_map (drop n) rest

-- the count of failures after one more, which stays at the greatest u64
abbrev pub one_more_failure : ℕ → ℕ
one_more_failure n = if nat_lt n 18446744073709551615 then n + 1 else n

-- the first n bytes of the buffer are the next n bytes of the input, if these are known
abbrev pub GivesNext : Option (List ℕ) → List ℕ → ℕ → Type 0
GivesNext rest buf n = IfSome rest (λ bytes. take n bytes ≡ take n buf)

-- the device holds what it held and then some first part of these bytes
abbrev pub AddsPrefix : Option (List ℕ) → Option (List ℕ) → List ℕ → Type 0
AddsPrefix old new bytes =
    (done : List ℕ) × (left : List ℕ) × (bytes ≡ done ++ left) × (new ≡ appended old done)

-- what was to come is some first part, of at most `most` bytes, and then what is still to come
abbrev pub LeavesRest : Option (List ℕ) → Option (List ℕ) → ℕ → Type 0
LeavesRest old new most =
    (read : List ℕ) × (length read ≤ most) × (old ≡ option_map (λ left. read ++ left) new)

-- an output over memory: the bytes that it was given, its whole room, and its failures
pub record Memory : Type 0 where
  pub bytes : List ℕ
  pub room : ℕ
  pub failures : ℕ

-- how many calls are still to pass before the one that fails, after a call; None once that one was made
abbrev pub one_call_less : Option ℕ → Option ℕ
one_call_less None = None
one_call_less (Some zero) = None
one_call_less (Some (suc n)) = Some n

-- an input over memory of which one call fails: the bytes still to come, the most bytes of a call, the calls
-- that pass before the one that fails, and the failures
pub record FaultySource : Type 0 where
  pub bytes : List ℕ
  pub most : ℕ
  pub passing : Option ℕ
  pub failures : ℕ

-- such an output: the bytes that it was given, its whole room, and the same
pub record FaultySink : Type 0 where
  pub bytes : List ℕ
  pub room : ℕ
  pub most : ℕ
  pub passing : Option ℕ
  pub failures : ℕ
