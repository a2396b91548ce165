-- Why workers report nothing, once they have ended. No public contract cites this file.
use Rattle.std.specs.Prelude.{◌≡◌, ◌⊎◌, ℕ, Bool, true, false, None}
use Rattle.pb_shared.specs.Ledgers.{Ledger, HasOutcome}
use Rattle.pb_workers.specs.declared.fault.RunFault.{RunFault}
use Rattle.pb_workers.specs.declared.fault.RunFault.TheVariants.{Limits, NoMemory, NoThread, Foreign}

-- out of memory only if the book has no outcome; no thread only if one was not started; and foreign only if
-- there is no outcome, a stretch was a stranger, or the limit is another one
abbrev pub IsCause : Ledger → ℕ → Bool → Bool → RunFault → Type 0
IsCause book limit stranger started Limits = ⊥
IsCause book limit stranger started NoMemory = HasOutcome book None
IsCause book limit stranger started NoThread = started ≡ false
IsCause book limit stranger started Foreign = HasOutcome book None ⊎ ((stranger ≡ true) ⊎ (book.limit ≡ limit → ⊥))
