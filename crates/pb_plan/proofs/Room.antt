-- What a process asks for is there, of a resource of which there is enough for all claims at once.
use Rattle.std.proofs.Common.{◌≡◌, ⊎_elim, ℕ, ◌+◌, ◌<◌, ◌≤◌, ℤ, List, [], length, get_or, map, Some, refl, ap, arith}
use Rattle.std.specs.Prelude.{slice_get}
use Rattle.std.proofs.lemmas.Bool.{cases_lt}
use Rattle.std.proofs.lemmas.List.{get_or_past, length-map}
use Rattle.pb_base.specs.Banker.{BankerState, cash, cell, row_of}
use Rattle.pb_base.specs.declared.event.Event.{Event}
use Rattle.pb_base.specs.declared.lending.Lending.TheVariants.{ByCash}
use Rattle.pb_base.specs.declared.pair.Pair.{Pair}
use Rattle.pb_base.specs.declared.pick.Pick.{Pick}
use Rattle.pb_base.specs.Steppers.{Bank, Bundle, Makes, State, Table, Takes, banker_state, opening}
use Rattle.pb_codegen.proofs.ClaimsHeld.{asks_at_most}
use Rattle.pb_codegen.proofs.ClaimsOnAll.{all_claims}
use Rattle.pb_codegen.proofs.VerifiedProcesses.{well_numbered}
use Rattle.pb_names.specs.Meaning.{AreClaims, source_bank_by}
use Rattle.pb_names.specs.Program.{Program, Resource, capital_of}
use Rattle.pb_names.specs.Resolves.{Resolves, resource_names}
use Rattle.pb_names.specs.Source.{Arm, Goes, SourceProcess, find, source_process, source_step, step_arm}
use Rattle.pb_plan.proofs.Blocked.{enabled_by, pick_of}
use Rattle.pb_plan.proofs.Free.{room_for}
use Rattle.pb_plan.proofs.FreeLoans.{loans_within}
use Rattle.pb_plan.specs.Needs.{IsFree}
use Rattle.pb_tree.specs.Syntax.{ProgramSyntax}
use Rattle.pb_verifier.proofs.LoansWithinClaims.{pair_in}

module _ (tree : ProgramSyntax) (program : Program) (claims : Table) (h : Resolves tree program) (are : AreClaims program claims)
    (picks : List Pick) (events : List Event) (s : State SourceProcess)
    (made : Makes (source_bank_by ByCash program claims) source_step
    (opening (source_bank_by ByCash program claims) (map source_process program.processes)) picks events s) where
  abbrev bank : Bank
  bank = source_bank_by ByCash program claims

  abbrev b : BankerState
  b = banker_state bank s.loans

  -- nothing is claimed where there is no process, or no resource
  none_there : (p r : ℕ) → length claims ≤ p → cell claims p r ≡ 0
  none_there p r past = ap (λ (row : List ℕ). get_or row r 0) (get_or_past claims p [] past)

  none_of : (p r : ℕ) → p < length claims → length (capital_of program) ≤ r → cell claims p r ≡ 0
  none_of p r there past =
      let wide = are.width p there in
      let n = length-map program.resources (λ (resource : Resource). resource.capital) in
      get_or_past (row_of claims p) r 0 (omega (arith, wide, n, past))

  -- there is enough of the resource, if it is there
  abbrev pub IsFreeIfThere : ℕ → Type 0
  IsFreeIfThere r = r < length (capital_of program) → IsFree claims (capital_of program) r

  room : (p r amount : ℕ) → IsFreeIfThere r → cell s.loans p r + amount ≤ cell claims p r → amount ≤ cash b r
  room p r amount free asks =
      let numbered = well_numbered (resource_names program) tree.processes program.processes h.processes in
      let claimed = all_claims tree program claims h are in
      ⊎_elim
      (λ there. ⊎_elim
      (λ inside.
      room_for b p r amount there (λ q lq. loans_within bank program.processes numbered claimed picks events s made q r) asks (free inside))
      (λ past. let none = none_of p r there past in omega (arith, asks, none)) (cases_lt r (length (capital_of program))))
      (λ past. let none = none_there p r past in omega (arith, asks, none)) (cases_lt p (length claims))

  -- so it is of each pair that an arm asks for
  pub asked_room : (p a : ℕ) (process : SourceProcess) (root found : Arm) (vars : List ℤ) (new : Arm) (bundle : Bundle)
      → slice_get s.processes p ≡ Some process → process.run ≡ Some root → find a 0 root ≡ Some found
      → step_arm process.vars found ≡ Some (Goes vars new (Takes bundle))
      → (k : ℕ) (d : Pair) → k < length bundle → IsFreeIfThere (get_or bundle k d).resource
      → (get_or bundle k d).amount ≤ cash b (get_or bundle k d).resource
  asked_room p a process root found vars new bundle at runs f e k d l free =
      let numbered = well_numbered (resource_names program) tree.processes program.processes h.processes in
      let claimed = all_claims tree program claims h are in
      let asks =
      asks_at_most bank program.processes numbered claimed picks events s made (pick_of p a) _ bundle
      (enabled_by s p a process root found (Goes vars new (Takes bundle)) at runs f e) refl (get_or bundle k d).resource in
      let pair = pair_in bundle k d l in
      room p (get_or bundle k d).resource (get_or bundle k d).amount free (omega (arith, asks, pair))
