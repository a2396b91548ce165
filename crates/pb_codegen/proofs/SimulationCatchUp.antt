-- If the source may take a pick, the code comes to do the same.
use Rattle.std.proofs.Common.{◌≡◌, ℕ, zero, suc, true, false, List, Some, None, sym, ap, ◌∙◌, true≢false}
use Rattle.pb_base.specs.declared.pick.Pick.{Pick}
use Rattle.pb_base.specs.Steppers.{Effect, State, Move, move_of}
use Rattle.pb_names.specs.Program.{Process}
use Rattle.pb_names.specs.Source.{SourceProcess, source_step}
use Rattle.pb_code.specs.Code.{CodeProcess, code_step}
use Rattle.pb_code.specs.Shadows.{is_skipped}
use Rattle.pb_code.proofs.Chains.{chain_skips, chain_stops}
use Rattle.pb_codegen.specs.Correct.{generated}
use Rattle.pb_codegen.proofs.SimulationBack.{chain_at}
use Rattle.pb_codegen.proofs.SimulationRuns.{StatesAlike, at_process, ChainAt, PicksAlike, not_enabled, code_alone}
use Rattle.pb_codegen.proofs.SimulationRuns.{together, picks_alike, pick_skipped}

-- in some state of the code the pick has the same effect, whether or not the banker allows it
pub record Catches (program : List Process) (pick : Pick) (move : Move SourceProcess) : Type 0 where
  pub last : State CodeProcess
  pub next : State CodeProcess
  pub enabled : move_of (code_step (generated program)) last pick ≡ Some
      (record { next = next; effect = move.effect })

module _ (program : List Process) (ss : State SourceProcess) (pick : Pick) (move : Move SourceProcess) (enabled : move_of source_step ss pick ≡ Some move) where
  catches_after : (k : ℕ) (cs : State CodeProcess) → StatesAlike program cs ss → ChainAt program cs pick k
      → Catches program pick move
  catches_after zero cs h ch = go (picks_alike program cs ss pick h)
    where
      stops : is_skipped (generated program) cs pick ≡ false
      stops =
          pick_skipped program cs ss pick h ch.0 ch.1 false ch.2 ch.3 (chain_stops ch.0 ch.1 pick.arm ch.4)

      go : PicksAlike program cs ss pick → Catches program pick move
      go (not_enabled c s) = let w : None ≡ Some move = sym s ∙ enabled in cc
      go (code_alone cs' skips c alike on) = elim (true≢false (sym skips ∙ stops)) [ ]
      go (together cs' ss' effect skips c s alike) =
          let same : Some (record { next = ss'; effect = effect }) ≡ Some move = sym s ∙ enabled in
          let same' : record { next = ss'; effect = effect } ≡ move = cc in
          let effect_is : effect ≡ move.effect = ap (λ m. m.effect) same' in
          record {
            last = cs;
            next = cs';
            enabled = c ∙ ap (λ (e : Effect). Some (record { next = cs'; effect = e })) effect_is;
          }
  catches_after (suc k) cs h ch =
      go (picks_alike program cs ss pick h) (λ cs' alike ch'. catches_after k cs' alike ch')
    where
      skips' : is_skipped (generated program) cs pick ≡ true
      skips' =
          pick_skipped program cs ss pick h ch.0 ch.1 true ch.2 ch.3 (chain_skips ch.0 ch.1 pick.arm k ch.4)

      go : PicksAlike program cs ss pick
          → ((cs' : State CodeProcess) → StatesAlike program cs' ss → ChainAt program cs' pick k
          → Catches program pick move)
          → Catches program pick move
      go (not_enabled c s) rest = let w : None ≡ Some move = sym s ∙ enabled in cc
      go (together cs' ss' effect skips c s alike) rest = elim (true≢false (sym skips' ∙ skips)) [ ]
      go (code_alone cs' skips c alike on) rest = rest cs' alike (on k ch)

  pub catches : (cs : State CodeProcess) → StatesAlike program cs ss → Catches program pick move
  catches cs h =
      let ch =
      chain_at program ss pick move enabled cs
      (at_process program cs.processes ss.processes h.processes pick.process)
      in
      catches_after ch.0 cs h ch.1
