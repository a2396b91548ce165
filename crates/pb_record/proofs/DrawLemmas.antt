-- Drawn runs, pick by pick.
use Rattle.std.proofs.Common.{◌≡◌, ℕ, zero, suc, List, ◌++◌, [], replicate, Some, None, sym, subst, arith}
use Rattle.pb_base.specs.declared.event.Event.{Event}
use Rattle.pb_base.specs.declared.lending.Lending.{Lending}
use Rattle.pb_base.specs.declared.pick.Pick.{Pick}
use Rattle.pb_base.specs.Steppers.{State}
use Rattle.pb_code.specs.Code.{CodeProcess}
use Rattle.pb_code.specs.Reached.{CodeMovesBy}
use Rattle.pb_code.specs.Whole.{Code, code_opening}
use Rattle.pb_history.specs.Replays.{spread}
use Rattle.pb_history.specs.declared.counted.CountedPick.{CountedPick}
use Rattle.pb_record.specs.Draws.{DrawsRun, IsDrawn, one_more, opening}
use Rattle.pb_record.specs.Schedule.{MakesAtMost, StepsSome}
use Rattle.pb_record.specs.declared.schedule.Next.{Next}
use Rattle.pb_record.specs.declared.schedule.Next.TheVariants.{Silent, Did}
use Rattle.rand_pcg.specs.Lcg.{Lcg}

pub drawn_first : (lending : Lending) (code : Code) (first now : Lcg) (picks : List CountedPick) (state : State CodeProcess) → picks ≡ [] → state ≡ code_opening code → now ≡ first
    → DrawsRun lending code first (spread picks) state now
drawn_first lending code first now picks state none opens starts =
    subst (λ (cs : List CountedPick). DrawsRun lending code first (spread cs) state now) (sym none)
    (subst (λ (s : State CodeProcess). DrawsRun lending code first [] s now) (sym opens)
    (subst (λ (g : Lcg). DrawsRun lending code first [] (code_opening code) g) (sym starts) opening))

module _ (lending : Lending) (code : Code) (first : Lcg) (picks more : List CountedPick) (before after : State CodeProcess) (now next : Lcg) (answer : Next)
    (pick : Pick) (run : DrawsRun lending code first (spread picks) before now) (drawn : IsDrawn lending code before now answer next)
    (step : StepsSome lending code before answer after) where
  -- one more silent pick
  pub drawn_silent : (made : ℕ) → answer ≡ Silent pick made → MakesAtMost 1 answer → spread more ≡ spread picks ++ replicate made pick
      → DrawsRun lending code first (spread more) after next
  drawn_silent made is within counted = go made is counted
    where
      go : (made : ℕ) → answer ≡ Silent pick made → spread more ≡ spread picks ++ replicate made pick → DrawsRun lending code first (spread more) after next
      go zero is counted =
          let moves : StepsSome lending code before (Silent pick zero) after = subst (λ (n : Next). StepsSome lending code before n after) is step in
          let some = moves.0 in
          absurd (omega (arith, some))
      go (suc (suc n)) is counted =
          let few : MakesAtMost 1 (Silent pick (suc (suc n))) = subst (MakesAtMost 1) is within in
          absurd (omega (arith, few))
      go (suc zero) is counted =
          let moves : StepsSome lending code before (Silent pick 1) after = subst (λ (n : Next). StepsSome lending code before n after) is step in
          let draws : IsDrawn lending code before now (Silent pick 1) next = subst (λ (n : Next). IsDrawn lending code before now n next) is drawn in
          let (between, same, last) = moves.1 in
          let one : CodeMovesBy lending code before pick None after = subst (λ (s : State CodeProcess). CodeMovesBy lending code s pick None after) same last in
          subst (λ (ps : List Pick). DrawsRun lending code first ps after next) (sym counted)
          (one_more (spread picks) before after now next pick None run draws one)

  -- one more pick that shows an event
  pub drawn_shown : (event : Event) → answer ≡ Did pick event → spread more ≡ spread picks ++ replicate 1 pick
      → DrawsRun lending code first (spread more) after next
  drawn_shown event is counted =
      let moves : StepsSome lending code before (Did pick event) after = subst (λ (n : Next). StepsSome lending code before n after) is step in
      let draws : IsDrawn lending code before now (Did pick event) next = subst (λ (n : Next). IsDrawn lending code before now n next) is drawn in
      subst (λ (ps : List Pick). DrawsRun lending code first ps after next) (sym counted)
      (one_more (spread picks) before after now next pick (Some event) run draws moves)
