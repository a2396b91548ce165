-- What entries lead to in the code.
use Rattle.std.specs.Prelude.{◌≡◌, ℕ, List, [], ◌∷◌, slice_get, Some}
use Rattle.pb_base.specs.declared.lending.Lending.{Lending}
use Rattle.pb_base.specs.declared.lending.Lending.TheVariants.{ByBanker}
use Rattle.pb_base.specs.declared.pick.Pick.{Pick}
use Rattle.pb_base.specs.Steppers.{State, Makes}
use Rattle.pb_code.specs.Code.{CodeProcess, code_step}
use Rattle.pb_code.specs.Reached.{CodeMovesBy}
use Rattle.pb_code.specs.Whole.{Code, bank_by}
use Rattle.pb_history.specs.Entries.{Entry, events_of, picks_of, silent_picks}
use Rattle.pb_machine.specs.Steps.{MakesSilently, with_process}

-- these picks, each enabled in turn under this lending, lead from one state to another, and each shows just what is
-- beside it
abbrev pub LeadsBy : Lending → Code → State CodeProcess → List Entry → State CodeProcess → Type 0
LeadsBy lending code before [] after = after ≡ before
LeadsBy lending code before (e ∷ entries) after =
    (next : State CodeProcess)
    × CodeMovesBy lending code before e.pick e.event next × LeadsBy lending code next entries after

-- so they do under the banker
abbrev pub Leads : Code → State CodeProcess → List Entry → State CodeProcess → Type 0
Leads code = LeadsBy ByBanker code

-- ---- laws

-- what a trace says is what its picks make
abbrev pub TracesMake : Type 0
TracesMake =
    (lending : Lending) (code : Code) (before after : State CodeProcess) (entries : List Entry)
    → LeadsBy lending code before entries after
    → Makes (bank_by lending code) (code_step code.processes) before (picks_of entries) (events_of entries) after

-- silent picks of one process, made apart from the others, are picks of the code
abbrev pub SilentPicksLead : Type 0
SilentPicksLead =
    (lending : Lending) (code : Code) (s : State CodeProcess) (pick : Pick) (count : ℕ) (before after : CodeProcess)
    → slice_get s.processes pick.process ≡ Some before
    → MakesSilently code pick.process pick.arm count before after
    → LeadsBy lending code s (silent_picks pick count) (with_process s pick.process after)
