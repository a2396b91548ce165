-- What contracts see of the fields of a book.
use Rattle.std.specs.Prelude.{◌≡◌}
use Rattle.pb_machine.specs.Views.{machine_view, IsMachineOf}
use Rattle.pb_verifier.specs.Verified.{VerifiedCode}
use Rattle.pb_shared.specs.Ledgers.{Ledger, IsLegal}
use Rattle.pb_shared.specs.Spares.{AreSpares}
use Rattle.pb_shared.specs.declared.book.Book.TheInside.{Inside}

-- its machine, picks, limit, slips and marks
abbrev pub ledger_of : {C : Type 0} → Inside C → Ledger
ledger_of b = record {
  machine = machine_view b.machine;
  entries = b.trace.entries;
  limit = b.limit;
  left = b.left;
  slips = b.slips.items;
  refused = b.refused.items;
}

-- the book refers to this code and is legal, the machine has the banker of the code and room for all
-- operands, and the spares are of their processes
pub record IsSound {C : Type 0} (code : VerifiedCode) (b : Inside C) : Type 0 where
  pub refers : b.code.now ≡ code
  pub legal : IsLegal code (ledger_of b)
  pub machine : IsMachineOf code b.machine
  pub spares : AreSpares code b.slips.items b.spares.items
