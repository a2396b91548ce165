-- What the definitions say of small programs, by computing.
use Rattle.std.proofs.Common.{◌≡◌, ℕ, pos, List, [], ◌∷◌, ◌++◌, replicate, Option, Some, None, option_map}
use Rattle.std.proofs.Common.{option_and_then, refl}
use Rattle.std.specs.Prelude.{codes, option_to_list}
use Rattle.pb_base.specs.Arithmetic.{apply}
use Rattle.pb_base.specs.Steppers.{Bundle, State, move_of, event_of, opening}
use Rattle.pb_base.specs.declared.event.Event.{Event}
use Rattle.pb_base.specs.declared.event.Event.TheVariants.{Granted, Returned, Printed, Faulted, Finished}
use Rattle.pb_base.specs.declared.operators.BinaryOp.TheVariants.{Add, Less, Remainder}
use Rattle.pb_base.specs.declared.operators.FaultKind.TheVariants.{Divide}
use Rattle.pb_base.specs.declared.pick.Pick.{Pick}
use Rattle.pb_names.specs.Program.{Number, Variable, Binary, Stmt, Assign, Print, While, Hold, Parbegin, Skip}
use Rattle.pb_names.specs.Program.{Then, NoArm, AndArm, Process, IsWellNumbered}
use Rattle.pb_names.specs.Source.{SourceProcess, source_step, source_process}
use Rattle.pb_base.specs.declared.lending.Lending.TheVariants.{ByBanker}

-- ---- runs by explicit picks

-- the events of these picks, if each can be made; the banker is not asked
abbrev play : List Pick → State SourceProcess → Option (List Event)
play [] s = Some []
play (pick ∷ picks) s =
    option_and_then
    (λ move. option_map (λ later. option_to_list (event_of pick move.effect) ++ later) (play picks move.next))
    (move_of source_step s pick)

-- an arm of the one process
abbrev pub by_arm : ℕ → Pick
by_arm a = record { process = 0; arm = a }

-- an arm and a number of picks of it, one such span after another
abbrev of_arms : List (ℕ × ℕ) → List Pick
of_arms [] = []
of_arms (span ∷ spans) = replicate span.1 (by_arm span.0) ++ of_arms spans

abbrev run_of : Process → List (ℕ × ℕ) → Option (List Event)
run_of process spans =
    play (of_arms spans)
    (opening (record { capital = 9 ∷ []; claims = []; lends = ByBanker }) (source_process process ∷ []))

-- an amount of the one resource
abbrev of_tape : ℕ → Bundle
of_tape amount = record { resource = 0; amount = amount } ∷ []

-- ---- two arms that add 1 to one integer

-- x := x + 1
abbrev increment : Stmt
increment = Assign 1 0 (Binary Add (Variable 0) (Number (pos 1)))

-- parbegin x := x + 1; x := x + 1 parend; print x
abbrev two_increments : Process
two_increments = record {
  name = codes "p";
  integers = codes "x" ∷ [];
  body =
      Then (Parbegin 1 1 (AndArm (Then increment Skip) (AndArm (Then increment Skip) NoArm)))
      (Then (Print 1 (Variable 0)) Skip);
}

two_increments_numbered : IsWellNumbered two_increments
two_increments_numbered = ((refl, ((tt, tt), ((tt, tt), tt))), (tt, tt))

both_increments_count : run_of two_increments ((0, 1) ∷ (1, 4) ∷ (2, 4) ∷ (0, 4) ∷ [])
    ≡ Some (Printed (by_arm 0) (pos 2) ∷ Finished 0 ∷ [])
unfolding apply
both_increments_count = refl

-- the first arm has read 0 before the second adds
one_increment_is_lost : run_of two_increments ((0, 1) ∷ (1, 1) ∷ (2, 4) ∷ (1, 3) ∷ (0, 4) ∷ [])
    ≡ Some (Printed (by_arm 0) (pos 1) ∷ Finished 0 ∷ [])
unfolding apply
one_increment_is_lost = refl

-- ---- a loop of two printing arms

-- while i < 2 do parbegin print i; print i + 10 parend; i := i + 1 od
abbrev two_rounds : Process
two_rounds = record {
  name = codes "p";
  integers = codes "i" ∷ [];
  body =
      Then (While 1 (Binary Less (Variable 0) (Number (pos 2)))
      (Then (Parbegin 1 1
      (AndArm (Then (Print 1 (Variable 0)) Skip)
      (AndArm (Then (Print 1 (Binary Add (Variable 0) (Number (pos 10)))) Skip) NoArm)))
      (Then increment Skip))) Skip;
}

rounds_print_in_turn : run_of two_rounds
    ((0, 4) ∷ (2, 4) ∷ (1, 3) ∷ (0, 8) ∷ (1, 3) ∷ (2, 4) ∷ (0, 8) ∷ [])
    ≡ Some (
    Printed (by_arm 2) (pos 10) ∷ Printed (by_arm 1) (pos 0)
    ∷ Printed (by_arm 1) (pos 1) ∷ Printed (by_arm 2) (pos 11) ∷ Finished 0 ∷ []
    )
unfolding apply
rounds_print_in_turn = refl

-- ---- holds

-- hold 1 of t do parbegin hold 1 of t do skip od; hold 2 of t do skip od parend od
abbrev nested_holds : Process
nested_holds = record {
  name = codes "p";
  integers = [];
  body =
      Then (Hold 1 (of_tape 1)
      (Then (Parbegin 1 1
      (AndArm (Then (Hold 1 (of_tape 1) Skip) Skip)
      (AndArm (Then (Hold 1 (of_tape 2) Skip) Skip) NoArm))) Skip)) Skip;
}

inner_holds_overlap : run_of nested_holds ((0, 2) ∷ (1, 1) ∷ (2, 1) ∷ (1, 2) ∷ (2, 2) ∷ (0, 3) ∷ [])
    ≡ Some (
    Granted (by_arm 0) (of_tape 1) ∷ Granted (by_arm 1) (of_tape 1) ∷ Granted (by_arm 2) (of_tape 2)
    ∷ Returned (by_arm 1) (of_tape 1) ∷ Returned (by_arm 2) (of_tape 2) ∷ Returned (by_arm 0) (of_tape 1)
    ∷ Finished 0 ∷ []
    )
inner_holds_overlap = refl

-- the body does not go on before its arms have ended
no_early_join : run_of nested_holds ((0, 2) ∷ (1, 3) ∷ (0, 1) ∷ []) ≡ None
no_early_join = refl

-- ---- a fault beside a hold

-- parbegin hold 1 of t do print 5 od; print 1 mod 0 parend
abbrev faulty : Process
faulty = record {
  name = codes "p";
  integers = [];
  body =
      Then (Parbegin 1 1
      (AndArm (Then (Hold 1 (of_tape 1) (Then (Print 1 (Number (pos 5))) Skip)) Skip)
      (AndArm (Then (Print 1 (Binary Remainder (Number (pos 1)) (Number (pos 0)))) Skip) NoArm))) Skip;
}

fault_ends_the_process : run_of faulty ((0, 1) ∷ (1, 1) ∷ (2, 1) ∷ [])
    ≡ Some (Granted (by_arm 1) (of_tape 1) ∷ Faulted (by_arm 2) Divide ∷ [])
unfolding apply
fault_ends_the_process = refl

nothing_after_a_fault : run_of faulty ((0, 1) ∷ (1, 1) ∷ (2, 1) ∷ (1, 1) ∷ []) ≡ None
unfolding apply
nothing_after_a_fault = refl
