-- Which states the code of a program comes to, and what one pick does there.
use Rattle.std.specs.Prelude.{List, Option}
use Rattle.pb_base.specs.declared.event.Event.{Event}
use Rattle.pb_base.specs.declared.pick.Pick.{Pick}
use Rattle.pb_base.specs.Steppers.{State, Makes}
use Rattle.pb_base.specs.Steps.{Moves, Stays}
use Rattle.pb_code.specs.Code.{CodeProcess, code_step}
use Rattle.pb_base.specs.declared.lending.Lending.{Lending}
use Rattle.pb_base.specs.declared.lending.Lending.TheVariants.{ByBanker}
use Rattle.pb_code.specs.Whole.{Code, bank_by, code_opening}

-- some picks, each enabled in turn under this lending, lead from the opening to this state
abbrev pub CodeReachesBy : Lending → Code → State CodeProcess → Type 0
CodeReachesBy lending code s =
    (picks : List Pick) × (events : List Event)
    × Makes (bank_by lending code) (code_step code.processes) (code_opening code) picks events s

-- the pick is enabled under this lending, and leads to this state with this event or with none
abbrev pub CodeMovesBy : Lending → Code → State CodeProcess → Pick → Option Event → State CodeProcess → Type 0
CodeMovesBy lending code = Moves (bank_by lending code) (code_step code.processes)

-- the pick is not enabled under this lending
abbrev pub CodeStaysBy : Lending → Code → State CodeProcess → Pick → Type 0
CodeStaysBy lending code = Stays (bank_by lending code) (code_step code.processes)

-- ---- under the banker

-- the code reaches this state under the banker
abbrev pub CodeReaches : Code → State CodeProcess → Type 0
CodeReaches code s = CodeReachesBy ByBanker code s

-- the pick is enabled under the banker, and leads to this state with this event or with none
abbrev pub CodeMoves : Code → State CodeProcess → Pick → Option Event → State CodeProcess → Type 0
CodeMoves code = CodeMovesBy ByBanker code

-- the pick is not enabled under the banker
abbrev pub CodeStays : Code → State CodeProcess → Pick → Type 0
CodeStays code = CodeStaysBy ByBanker code
