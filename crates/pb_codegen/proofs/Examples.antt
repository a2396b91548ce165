-- What the definitions say of worked programs, by computing.
use Rattle.std.proofs.Common.{◌≡◌, ℕ, pos, List, [], ◌∷◌, ◌++◌, replicate, Option, Some, None, option_map}
use Rattle.std.proofs.Common.{option_and_then, option_to_list, refl}
use Rattle.std.specs.Prelude.{codes}
use Rattle.pb_base.specs.Arithmetic.{apply}
use Rattle.pb_base.specs.declared.operators.FaultKind.TheVariants.{Divide}
use Rattle.pb_base.specs.declared.operators.BinaryOp.TheVariants.{Add, Less, Remainder}
use Rattle.pb_base.specs.Steppers.{Bundle, State, Stepper, move_of, event_of, opening}
use Rattle.pb_base.specs.declared.pick.Pick.{Pick}
use Rattle.pb_base.specs.declared.event.Event.{Event}
use Rattle.pb_base.specs.declared.event.Event.TheVariants.{Granted, Returned, Printed, Faulted, Finished}
use Rattle.pb_names.specs.Program.{Number, Variable, Binary, Stmt, Assign, Print, While, Hold, Parbegin, Skip}
use Rattle.pb_names.specs.Program.{Then, NoArm, AndArm, Process, IsWellNumbered}
use Rattle.pb_names.specs.Source.{source_step, source_process}
use Rattle.pb_code.specs.Code.{Push, Load, Store, Compute2, Jump, JumpIfZero, PrintTop, Take, Give, Fork}
use Rattle.pb_code.specs.Code.{Join, End, code_step, code_process}
use Rattle.pb_generator.specs.Generate.{process_code}
use Rattle.pb_generator.specs.Lines.{process_lines}
use Rattle.pb_names.proofs.Examples.{by_arm}
use Rattle.pb_base.specs.declared.lending.Lending.TheVariants.{ByBanker}

-- an amount of one resource
abbrev amounts : ℕ → ℕ → Bundle
amounts r k = record { resource = r; amount = k } ∷ []

-- the events of these picks, if each can be made (the banker is not asked)
abbrev mutual
  play : {P : Type 0} → Stepper P → List Pick → State P → Option (List Event)
  play step [] s = Some []
  play step (pick ∷ picks) s = option_and_then (λ move. option_map (λ later. option_to_list (event_of pick
      move.effect) ++ later) (play step picks move.next)) (move_of step s pick)

abbrev of_arms : List (ℕ × ℕ) → List Pick
of_arms [] = []
of_arms (span ∷ spans) = replicate span.1 (record { process = 0; arm = span.0 }) ++ of_arms spans

abbrev in_source : Process → List (ℕ × ℕ) → Option (List Event)
in_source p spans = play source_step (of_arms spans) (opening (record { capital = 9 ∷ []; claims = []; lends = ByBanker }) (source_process p ∷ []))

abbrev in_code : Process → List (ℕ × ℕ) → Option (List Event)
in_code p spans = play (code_step (process_code p ∷ [])) (of_arms spans) (opening (record {
  capital = 9 ∷ [];
  claims = [];
  lends = ByBanker;
}) (code_process (process_code p) ∷ []))

-- x := x + 1 in two arms, and print x
abbrev bump : Stmt
bump = Assign 1 0 (Binary Add (Variable 0) (Number (pos 1)))

abbrev two_bumps : Process
two_bumps = record {
  name = codes "p";
  integers = codes "x" ∷ [];
  body = Then (Parbegin 1 1 (AndArm (Then bump Skip)
      (AndArm (Then bump Skip) NoArm))) (Then (Print 1 (Variable 0)) Skip);
}

two_bumps_numbered : IsWellNumbered two_bumps
two_bumps_numbered = ((refl, ((tt, tt), ((tt, tt), tt))), (tt, tt))

one_after_another : in_code two_bumps ((0, 1) ∷ (1, 5) ∷ (2, 5) ∷ (0, 4) ∷ []) ≡ Some
    (Printed (by_arm 0) (pos 2) ∷ Finished 0 ∷ [])
unfolding apply
one_after_another = refl

lost_bump : in_code two_bumps ((0, 1) ∷ (1, 1) ∷ (2, 5) ∷ (1, 4) ∷ (0, 4) ∷ []) ≡ Some
    (Printed (by_arm 0) (pos 1) ∷ Finished 0 ∷ [])
unfolding apply
lost_bump = refl

-- the same in the source, without the picks that push
lost_bump_in_source : in_source two_bumps ((0, 1) ∷ (1, 1) ∷ (2, 4) ∷ (1, 3) ∷ (0, 4) ∷ []) ≡ Some
    (Printed (by_arm 0) (pos 1) ∷ Finished 0 ∷ [])
unfolding apply
lost_bump_in_source = refl

-- while i < 3 do parbegin print i; print i + 10 parend; i := i + 1 od
abbrev thrice : Process
thrice = record {
  name = codes "p";
  integers = codes "x" ∷ [];
  body =
      Then (While 1 (Binary Less (Variable 0) (Number (pos 3)))
      (Then (Parbegin 1 1 (AndArm (Then (Print 1 (Variable 0)) Skip) (AndArm (Then (Print 1 (Binary Add (Variable 0) (Number (pos 10)))) Skip) NoArm)))
      (Then bump Skip))) Skip;
}

thrice_code : process_code thrice ≡ record {
  integers = 1;
  entries = 0 ∷ 12 ∷ 15 ∷ [];
  instrs =
      Load 0 ∷ Push (pos 3) ∷ Compute2 Less ∷ JumpIfZero 11 ∷ Fork 1 2 ∷ Join 1 2 ∷ Load 0 ∷ Push (pos 1) ∷ Compute2 Add ∷ Store 0 ∷ Jump 0 ∷ End
      ∷ Load 0 ∷ PrintTop ∷ End ∷ Load 0 ∷ Push (pos 10) ∷ Compute2 Add ∷ PrintTop ∷ End ∷ [];
}
thrice_code = refl

thrice_run : in_code thrice
    ((0, 5) ∷ (1, 3) ∷ (2, 5) ∷ (0, 11) ∷ (1, 3) ∷ (2, 5) ∷ (0, 11) ∷ (1, 3) ∷ (2, 5) ∷ (0, 11) ∷ [])
    ≡ Some (Printed (by_arm 1) (pos 0) ∷ Printed (by_arm 2) (pos 10) ∷ Printed (by_arm 1) (pos 1) ∷ Printed (by_arm 2)
    (pos 11) ∷ Printed (by_arm 1) (pos 2) ∷ Printed (by_arm 2) (pos 12) ∷ Finished 0 ∷ [])
unfolding apply
thrice_run = refl

-- hold 1 of t do parbegin hold 1 of t do skip od; hold 2 of t do skip od parend od
abbrev nested_holds : Process
nested_holds = record {
  name = codes "p";
  integers = [];
  body =
      Then (Hold 1 (amounts 0 1) (Then (Parbegin 1 1 (AndArm (Then (Hold 1 (amounts 0 1) Skip) Skip) (AndArm (Then
      (Hold 1 (amounts 0 2) Skip) Skip) NoArm))) Skip)) Skip;
}

nested_holds_code : process_code nested_holds ≡ record {
  integers = 0;
  entries = 0 ∷ 5 ∷ 8 ∷ [];
  instrs =
      Take (amounts 0 1) ∷ Fork 1 2 ∷ Join 1 2 ∷ Give (amounts 0 1) ∷ End ∷ Take (amounts 0 1) ∷ Give (amounts 0 1) ∷
      End ∷ Take (amounts 0 2) ∷ Give (amounts 0 2) ∷ End ∷ [];
}
nested_holds_code = refl

nested_holds_run : in_source nested_holds ((0, 2) ∷ (1, 1) ∷ (2, 1) ∷ (1, 2) ∷ (2, 2) ∷ (0, 3) ∷ [])
    ≡ Some (Granted (by_arm 0) (amounts 0 1) ∷ Granted (by_arm 1) (amounts 0 1) ∷ Granted (by_arm 2) (amounts 0 2) ∷
    Returned (by_arm 1) (amounts 0 1) ∷ Returned (by_arm 2) (amounts 0 2) ∷ Returned (by_arm 0) (amounts 0 1) ∷
    Finished 0 ∷ [])
nested_holds_run = refl

-- the parent is not picked before its arms have ended
no_early_join : in_source nested_holds ((0, 2) ∷ (1, 3) ∷ (0, 1) ∷ []) ≡ None
no_early_join = refl

-- parbegin hold 1 of t do print 5 od; print 1 mod 0 parend: the fault ends every arm
abbrev faulty : Process
faulty = record {
  name = codes "p";
  integers = [];
  body = Then (Parbegin 1 1 (AndArm (Then (Hold 1 (amounts 0 1) (Then (Print 1 (Number (pos 5))) Skip)) Skip)
      (AndArm (Then (Print 1 (Binary Remainder (Number (pos 1)) (Number (pos 0)))) Skip) NoArm))) Skip;
}

faulty_run : in_code faulty ((0, 1) ∷ (1, 1) ∷ (2, 3) ∷ []) ≡ Some
    (Granted (by_arm 1) (amounts 0 1) ∷ Faulted (by_arm 2) Divide ∷ [])
unfolding apply
faulty_run = refl

faulty_over : in_code faulty ((0, 1) ∷ (1, 1) ∷ (2, 3) ∷ (1, 1) ∷ []) ≡ None
unfolding apply
faulty_over = refl

-- the lines of the loop's code, with a line for each of its parts
abbrev laid : Process
laid = record {
  name = codes "p";
  integers = codes "x" ∷ [];
  body =
      Then (While 1 (Binary Less (Variable 0) (Number (pos 3)))
      (Then (Parbegin 2 1 (AndArm (Then (Print 2 (Variable 0)) Skip) (AndArm (Then (Print 3 (Binary Add (Variable 0) (Number (pos 10)))) Skip) NoArm)))
      (Then (Assign 4 0 (Binary Add (Variable 0) (Number (pos 1)))) Skip))) Skip;
}

laid_lines : process_lines laid ≡
    Some 1 ∷ Some 1 ∷ Some 1 ∷ Some 1 ∷ Some 2 ∷ Some 2 ∷ Some 4 ∷ Some 4 ∷ Some 4 ∷ Some 4 ∷ Some 1 ∷ None
    ∷ Some 2 ∷ Some 2 ∷ None ∷ Some 3 ∷ Some 3 ∷ Some 3 ∷ Some 3 ∷ None ∷ []
laid_lines = refl
