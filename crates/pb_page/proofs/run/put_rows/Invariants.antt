use Rattle.std.proofs.Common.{◌≡◌, ◌+◌, ◌++◌, ℕ, List}
use Rattle.pb_base.specs.declared.lending.Lending.{Lending}
use Rattle.pb_code.specs.View.{labels_view}
use Rattle.pb_debug_positions.specs.Walks.{WalksBy}
use Rattle.pb_history.specs.Entries.{picks_of}
use Rattle.pb_history.specs.Positions.{state_after}
use Rattle.pb_page.specs.Runs.{AreRows}
use Rattle.pb_page.specs.States.{IsStateBy}
use Rattle.pb_page.specs.Texts.{texts}
use Rattle.pb_page.proofs.run.put_rows.Given as goal

-- the machine and the entries are at the next position, and the rows so far are written
abbrev pub invariant-loop-k : goal.invariant-loop-k
invariant-loop-k l = record {
  walks : (lending : Lending) → WalksBy lending l.verified (picks_of l.trace.entries) l.initial.walker
      → WalksBy lending l.verified (picks_of l.trace.entries) l.walker;
  at : l.walker.at ≡ l.initial.walker.at + l.k;
  state : (lending : Lending) → WalksBy lending l.verified (picks_of l.trace.entries) l.initial.walker
      → IsStateBy lending l.verified.code (labels_view l.labels) (state_after l.verified.code (picks_of l.trace.entries) l.initial.walker.at) (texts l.initial.state.items)
      → IsStateBy lending l.verified.code (labels_view l.labels) (state_after l.verified.code (picks_of l.trace.entries) l.walker.at) (texts l.state.items);
  rows : (written : List ℕ) × (l.out.items ≡ (l.initial.out.items ++ written))
      × ((lending : Lending) → WalksBy lending l.verified (picks_of l.trace.entries) l.initial.walker
      → IsStateBy lending l.verified.code (labels_view l.labels) (state_after l.verified.code (picks_of l.trace.entries) l.initial.walker.at) (texts l.initial.state.items)
      → AreRows lending l.verified.code (labels_view l.labels) (picks_of l.trace.entries) l.initial.walker.at l.k written);
}
