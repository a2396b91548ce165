-- The source of a resolved program asks within its claims, and if the capital is enough for them its states
-- stay well formed and safe.
use Rattle.std.proofs.Common.{◌≡◌, ℕ, ◌<◌, ◌≤◌, List, [], ◌∷◌, length, get_or, map, Some, sym, ap, ◌∙◌, subst}
use Rattle.std.proofs.Common.{arith, refl}
use Rattle.std.specs.Prelude.{slice_get}
use Rattle.std.proofs.lemmas.List.{length-map}
use Rattle.std.proofs.lemmas.List.Elements.{All-map}
use Rattle.std.proofs.lemmas.Option.{slice_get_within}
use Rattle.pb_base.specs.declared.event.Event.{Event}
use Rattle.pb_base.specs.declared.pick.Pick.{Pick}
use Rattle.pb_base.specs.Steppers.{Bank, Table, State, Move, Makes, loans_after, opening}
use Rattle.pb_base.proofs.Lists.{get_mapped}
use Rattle.pb_tree.specs.Syntax.{ProgramSyntax}
use Rattle.pb_names.specs.Meaning.{AreClaims}
use Rattle.pb_names.specs.Program.{Resource, Program, AllWellNumbered, capital_of}
use Rattle.pb_names.specs.Resolves.{Resolves, ResolvesProcess, resource_names}
use Rattle.pb_names.specs.Source.{SourceProcess, source_process, source_step}
use Rattle.pb_claims.specs.Fits.{FitCapital}
use Rattle.pb_code.specs.Code.{CodeProcess, ProcessCode, code_process}
use Rattle.pb_verifier.proofs.States.{code_move}
use Rattle.pb_codegen.specs.Correct.{generated}
use Rattle.pb_generator.specs.Generate.{process_code}
use Rattle.pb_codegen.specs.SourceBehaviour.{bank_with, SourceReaches, SourceAsksWithin, SourceIsSafe}
use Rattle.pb_codegen.specs.SourceBehaviour.{SourceIsWellFormed}
use Rattle.pb_codegen.proofs.VerifiedProcesses.{well_numbered, small_capital}
use Rattle.pb_codegen.proofs.ClaimsOnAll.{all_claims}
use Rattle.pb_codegen.proofs.SimulationBack.{chain_at, catch_up}
use Rattle.pb_codegen.proofs.SimulationCatchUp.{Catches, catches}
use Rattle.pb_codegen.proofs.ClaimsHeld.{asks_at_most, opened}
use Rattle.pb_codegen.proofs.VerifiedInstructions.{EachInstr}
use Rattle.pb_verifier.proofs.LoansWithinClaims.{pair_in}
use Rattle.pb_codegen.proofs.SimulationRuns.{StatesAlike, at_process, opening_alike}
use Rattle.pb_codegen.proofs.ClaimsSafety.{IsSound, IsFairBank, sound_after, sound_opening}
use Rattle.pb_codegen.proofs.VerifiedBundles.{AsksTidily, IsTidyEffect, asks_tidily, step_tidy}
use Rattle.pb_names.proofs.Holds.{zip_at}

module _ (tree : ProgramSyntax) (program : Program) (claims : Table) (h : Resolves tree program) where
  abbrev bank : Bank
  bank = bank_with program claims

  numbered : AllWellNumbered program.processes
  numbered = well_numbered (resource_names program) tree.processes program.processes h.processes

  pub source_asks : AreClaims program claims → (s : State SourceProcess) → SourceReaches program claims s
      → SourceAsksWithin program claims s
  source_asks are s reached pick move bundle enabled takes k d u =
      let most =
      asks_at_most bank program.processes numbered (all_claims tree program claims h are) reached.0 reached.1
      s reached.2
      pick move bundle enabled takes (get_or bundle k d).resource
      in
      let pair = pair_in bundle k d u in
      omega (arith, most, pair)

  -- ---- safe states

  -- the code of each process asks for no resource twice
  tidy_code : (p : ℕ) (code : ProcessCode) → slice_get (generated program.processes) p ≡ Some code
      → EachInstr (AsksTidily (length (capital_of program))) code.instrs
  tidy_code p code at =
      let w = get_mapped process_code program.processes p code at in
      let resources = resource_names program in
      let r = zip_at (ResolvesProcess resources) tree.processes program.processes p w.0 h.processes w.1 in
      let n : length resources ≡ length (capital_of program) =
      length-map program.resources (λ (resource : Resource). resource.name)
      ∙ sym (length-map program.resources (λ (resource : Resource). resource.capital))
      in
      subst (λ (c : ProcessCode). EachInstr (AsksTidily (length (capital_of program))) c.instrs) w.2
      (subst (λ k. EachInstr (AsksTidily k) (process_code w.0).instrs) n
      (asks_tidily w.0.integers resources r.0.body w.0 r.2.body))

  -- what the source does, the code comes to do, and that is tidy
  tidy_pick : (cs : State CodeProcess) (ss : State SourceProcess) (pick : Pick) (move : Move SourceProcess)
      → StatesAlike program.processes cs ss → Catches program.processes pick move
      → (pick.process < length program.processes) × IsTidyEffect (length (capital_of program)) move.effect
  tidy_pick cs ss pick move alike c =
      let m =
      code_move (generated program.processes) c.last pick (record { next = c.next; effect = move.effect })
      c.enabled
      in
      let u = slice_get_within (generated program.processes) pick.process m.code m.at in
      let n = length-map program.processes process_code in
      let effect = ap (λ (x : Move CodeProcess). x.effect) m.is in (
        omega (arith, u, n),
        subst (IsTidyEffect (length (capital_of program))) effect
            (step_tidy (length (capital_of program)) m.code m.before pick.arm m.after m.effect (tidy_code pick.process m.code m.at) m.steps),
      )

  module _ (fair : IsFairBank bank (length program.processes)) where
    sound_makes : (cs : State CodeProcess) (ss : State SourceProcess) (picks : List Pick)
        (events : List Event)
        (end : State SourceProcess) → StatesAlike program.processes cs ss → IsSound bank ss.loans
        → Makes bank source_step ss picks events end → IsSound bank end.loans
    sound_makes cs ss [] events end alike sound m =
        subst (λ (x : State SourceProcess). IsSound bank x.loans) (sym m.1) sound
    sound_makes cs ss (pick ∷ picks) events end alike sound m =
        let c = catches program.processes ss pick m.0 m.1 cs alike in
        let tidy = tidy_pick cs ss pick m.0 alike c in
        let all = fair.all_claims in
        let inside = tidy.0 in
        let o = opened ss pick m.0 m.1 in
        let loans : loans_after ss.loans pick.process m.0.effect ≡ m.0.next.loans =
        ap (λ (x : Move SourceProcess). loans_after ss.loans pick.process x.effect) (sym o.is)
        ∙ ap (λ (x : Move SourceProcess). x.next.loans) o.is
        in
        let next =
        sound_after bank ss.loans pick.process sound (omega (arith, inside, all)) refl m.0.effect m.2 tidy.1
        in
        let ch =
        chain_at program.processes ss pick m.0 m.1 cs
        (at_process program.processes cs.processes ss.processes alike.processes pick.process)
        in
        let there = catch_up program.processes ss pick m.0 m.1 bank ch.0 cs alike ch.1 m.2 in
        sound_makes there.0 m.0.next picks m.3 end there.2 (subst (IsSound bank) loans next) m.5

  fair_bank : AreClaims program claims → FitCapital claims (capital_of program)
      → IsFairBank bank (length program.processes)
  fair_bank are enough =
      let m = length-map program.resources (λ (resource : Resource). resource.capital) in
      let few = h.few_resources in
      record {
        few_processes = h.few_processes;
        few_resources = omega (arith, m, few);
        all_claims = are.height;
        claim_width = λ p u. are.width p u ∙ sym m;
        small = λ r u.
            All-map (λ n. n ≤ 1000000) (λ (resource : Resource). resource.capital) program.resources (small_capital tree program h) r 0 u;
        claims_fit = λ p r u v. enough p u r v;
      }

  source_sound : AreClaims program claims → FitCapital claims (capital_of program)
      → (s : State SourceProcess) → SourceReaches program claims s → IsSound bank s.loans
  source_sound are enough s reached =
      let fair = fair_bank are enough in
      let n = length-map program.processes source_process in
      sound_makes fair (opening bank (map code_process (generated program.processes)))
      (opening bank (map source_process program.processes)) reached.0 reached.1 s
      (opening_alike bank program.processes numbered)
      (sound_opening bank (map source_process program.processes) (subst (IsFairBank bank) (sym n) fair))
      reached.2

  pub source_well_formed : AreClaims program claims → FitCapital claims (capital_of program)
      → (s : State SourceProcess) → SourceReaches program claims s → SourceIsWellFormed program claims s
  source_well_formed are enough s reached = (source_sound are enough s reached).formed

  pub source_safe : AreClaims program claims → FitCapital claims (capital_of program)
      → (s : State SourceProcess) → SourceReaches program claims s → SourceIsSafe program claims s
  source_safe are enough s reached = (source_sound are enough s reached).safe
