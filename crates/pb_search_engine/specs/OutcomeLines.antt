-- The lines of outcomes.
use Rattle.std.specs.Prelude.{◌≡◌, ℕ, zero, suc, ℤ, Bool, true, false, List, [], ◌++◌, codes, slice_index_or}
use Rattle.std.specs.Fmt.{decimal, signed_decimal}
use Rattle.pb_base.specs.declared.pick.Pick.{Pick}
use Rattle.pb_base.specs.Lines.{NameTable, name_of, line}
use Rattle.pb_code.specs.Whole.{ProcessLabels}
use Rattle.pb_search_stages.specs.Reaching.{ProcessOutcome}
use Rattle.pb_search_stages.specs.declared.print.Print.{Print}
use Rattle.pb_base.specs.declared.limits.TheConstants.{MAX_PICKS}
use Rattle.pb_search.specs.declared.found.Extent.{Extent}
use Rattle.pb_search.specs.declared.found.Extent.TheVariants as extent
use Rattle.pb_history.specs.Replays.{spread}
use Rattle.pb_history.specs.declared.counted.CountedPick.{CountedPick}
use Rattle.pb_picks.specs.Counted.{AreApart}

-- the integers of a process have these names
abbrev pub integer_names : List ProcessLabels → ℕ → List (List ℕ)
integer_names labels p = (slice_index_or labels p (record { lines = []; integers = [] })).integers

-- how a process ended
abbrev pub outcome_at : List ProcessOutcome → ℕ → ProcessOutcome
outcome_at outcome p = slice_index_or outcome p (record { integers = []; faulted = false })

-- `.a print V`: the print of an arm, after the name of its process
abbrev pub arm_print_text : (arm : ℕ) → (value : ℤ) → List ℕ
arm_print_text arm value = codes "." ++ decimal arm ++ codes " print " ++ signed_decimal value

-- `P.a print V`: a print of an arm of the process with this name
abbrev pub process_print_text : List ℕ → (arm : ℕ) → (value : ℤ) → List ℕ
process_print_text name arm value = name ++ arm_print_text arm value

-- the same, by the names
abbrev pub print_text : NameTable → Print → List ℕ
print_text names p = process_print_text (name_of names.processes p.pick.process) p.pick.arm p.value

-- the heading of n prints, which is empty if there are none
abbrev pub printed_head : ℕ → List ℕ
printed_head zero = []
printed_head (suc n) = line (codes "printed")

-- counted picks that say these picks, each count as great as can be
pub record AreCounted (picks : List Pick) (counted : List CountedPick) : Type 0 where
  pub same : spread counted ≡ picks
  pub apart : AreApart counted

-- the end of a word, if it is said of this number
abbrev pub plural : ℕ → List ℕ
plural zero = codes "s"
plural (suc zero) = []
plural (suc (suc n)) = codes "s"

-- how many deadlocks there are, if there are some
abbrev pub deadlocks_text : ℕ → List ℕ
deadlocks_text zero = []
deadlocks_text (suc n) = codes ", " ++ decimal (suc n) ++ codes " deadlock" ++ plural (suc n)

-- how the last line ends, by whether some run never ends
abbrev pub runs_text : Bool → List ℕ
runs_text true = codes ", some runs do not end"
runs_text false = []

-- the last line, if these are all: how many outcomes and deadlocks there are, and whether some run never ends
abbrev pub all_line : (outcomes deadlocks : ℕ) → Bool → List ℕ
all_line outcomes deadlocks cycles =
    line (decimal outcomes ++ codes " outcome" ++ plural outcomes ++ deadlocks_text deadlocks ++ runs_text cycles)

-- the last line, by how much was found with this number of configurations
abbrev pub last_line : (states outcomes deadlocks : ℕ) → Extent → List ℕ
last_line states outcomes deadlocks (extent.All cycles) = all_line outcomes deadlocks cycles
last_line states outcomes deadlocks extent.TooMany =
    line (codes "more than " ++ decimal states ++ codes " configurations, there may be others")
last_line states outcomes deadlocks extent.TooLong =
    line (codes "more than " ++ decimal MAX_PICKS ++ codes " picks, there may be others")
last_line states outcomes deadlocks extent.AtDeadlock = line (codes "first deadlock, there may be others")
