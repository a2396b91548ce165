-- Picks of a run, one after another.
use Rattle.std.proofs.Common.{List, [], ◌∷◌, ◌++◌, Option, option_to_list, subst}
use Rattle.pb_base.specs.declared.event.Event.{Event}
use Rattle.pb_base.specs.declared.lending.Lending.{Lending}
use Rattle.pb_base.specs.declared.pick.Pick.{Pick}
use Rattle.pb_base.specs.Steppers.{State, Makes}
use Rattle.pb_code.specs.Code.{CodeProcess, code_step}
use Rattle.pb_code.specs.Reached.{CodeMovesBy}
use Rattle.pb_code.specs.Whole.{Code, bank_by, code_opening}
use Rattle.pb_machine.proofs.OneMorePick.{makes_more}

-- these picks make these events under this lending and lead to this state
abbrev pub CodeMakes : Lending → Code → List Pick → List Event → State CodeProcess → Type 0
CodeMakes lending code picks events after =
    Makes (bank_by lending code) (code_step code.processes) (code_opening code) picks events after

-- one more pick
pub makes_last : (lending : Lending) (code : Code) (picks : List Pick) (events : List Event) (before after : State CodeProcess) (pick : Pick)
    (event : Option Event) → CodeMakes lending code picks events before → CodeMovesBy lending code before pick event after
    → CodeMakes lending code (picks ++ pick ∷ []) (events ++ option_to_list event) after
makes_last lending code picks events before after pick event makes moves =
    subst (λ (e : Option Event). CodeMakes lending code (picks ++ pick ∷ []) (events ++ option_to_list e) after) moves.3
    (makes_more (bank_by lending code) (code_step code.processes) (code_opening code) before picks events pick
    (record { next = after; effect = moves.0 }) makes moves.1 moves.2)
