-- The code of an accepted program passes the verifier.
use Rattle.std.proofs.Common.{◌≡◌, ℕ, ◌<◌, ◌≤◌, List, [], length, get_or, map, Some, refl, sym, ap, ◌∙◌}
use Rattle.std.proofs.Common.{subst, arith}
use Rattle.std.specs.Prelude.{All, slice_get}
use Rattle.std.proofs.lemmas.List.{get_or_default, length-map}
use Rattle.std.proofs.lemmas.List.Elements.{All-map}
use Rattle.pb_base.specs.Banker.{cell}
use Rattle.pb_base.specs.Steppers.{Bundle, Table}
use Rattle.pb_base.proofs.Lists.{get_mapped}
use Rattle.pb_tree.specs.Syntax.{ResourceSyntax, ProgramSyntax}
use Rattle.pb_names.specs.Claims.{peak}
use Rattle.pb_names.specs.Program.{Process, Resource, Program, capital_of}
use Rattle.pb_names.specs.Meaning.{AreClaims}
use Rattle.pb_names.specs.Resolves.{Resolves, ResolvesProcess, ResolvesResource, process_names}
use Rattle.pb_names.specs.Resolves.{resource_names}
use Rattle.pb_parser.specs.Limits as parser
use Rattle.pb_grammar.specs.Programs.{ReadsProgram}
use Rattle.pb_lexer.specs.Cutting.{AreTokensOf}
use Rattle.pb_lexer.specs.Tokens.{Token}
use Rattle.pb_claims.specs.Fits as claimed
use Rattle.pb_claims.proofs.Bounds.{claim-unique}
use Rattle.pb_claims.proofs.OnePass.{is_claim}
use Rattle.pb_code.specs.Code.{ProcessCode}
use Rattle.pb_code.specs.Whole.{Code}
use Rattle.pb_verifier.specs.declared.fault.VerifyFault.{VerifyFault}
use Rattle.pb_verifier.specs.declared.fault.VerifyFault.TheVariants.{OutOfLimits, OverCapital, OutOfRange}
use Rattle.pb_verifier.specs.declared.fault.VerifyFault.TheVariants.{WrongArms, WrongForks, NoDepths}
use Rattle.pb_verifier.specs.declared.fault.VerifyFault.TheVariants.{NoHoldings, LeftAtEnd, OverClaim}
use Rattle.pb_verifier.specs.declared.fault.VerifyFault.TheVariants.{NoMemory}
use Rattle.pb_verifier.specs.Faults.{ClaimsFitCapital, IsInRange, HasArms, HasForks, AreDepths, AreHoldings}
use Rattle.pb_verifier.specs.Faults.{EndsClear, PeakFits}
use Rattle.pb_verifier.specs.Limits.{IsName, IsSmallProcess, KeepsLimits}
use Rattle.pb_verifier.specs.Behaviour.{IsWellBehaved}
use Rattle.pb_verifier.specs.Verified.{IsFaultless, IsRefusedFor}
use Rattle.pb_verifier.proofs.SoundBehaviour.{behaved}
use Rattle.pb_verifier.proofs.LimitTests.{all_from, all_at}
use Rattle.pb_codegen.specs.Accepted.{CanBeCompiled, HasSoundCode}
use Rattle.pb_codegen.specs.Form.{IsFormedProcess}
use Rattle.pb_generator.specs.Generate.{process_code, program_code}
use Rattle.pb_generator.specs.Sizes.{IsGeneratable, IsGeneratableProcess}
use Rattle.pb_codegen.proofs.VerifiedProcesses.{IsFine, fine_process, generatable, low, sound_forks}
use Rattle.pb_codegen.proofs.VerifiedDepths.{has_depths, has_holdings, ends_clear, peak_fits}
use Rattle.pb_codegen.proofs.ClaimsKept.{source_asks, source_safe, source_well_formed}
use Rattle.pb_codegen.proofs.VerifiedLimits.{in_range, small_process}
use Rattle.pb_codegen.proofs.VerifiedArmRanges.{has_arms}
use Rattle.pb_codegen.proofs.TextForms.{read_program_formed}
use Rattle.pb_names.proofs.Holds.{zip_at}

module _ (tree : ProgramSyntax) (program : Program) (claims : Table) (h : CanBeCompiled tree program claims) where
  abbrev code : Code
  code = program_code program claims

  -- what holds of each process's code
  each_code : (Holds : ℕ → ProcessCode → Type 0)
      → ((p : ℕ) (process : Process) → slice_get program.processes p ≡ Some process
      → IsFine (resource_names program) process → Holds p (process_code process))
      → (p : ℕ) (c : ProcessCode) → slice_get code.processes p ≡ Some c → Holds p c
  each_code Holds each p c at =
      let w = get_mapped process_code program.processes p c at in
      subst (Holds p) w.2
      (each p w.0 w.1 (fine_process tree program h.formed h.limits h.numbered p w.0 w.1))

  length-capital : length (capital_of program) ≡ length program.resources
  length-capital = length-map program.resources (λ (resource : Resource). resource.capital)

  length-names : length (resource_names program) ≡ length program.resources
  length-names = length-map program.resources (λ (resource : Resource). resource.name)

  length-codes : length (map process_code program.processes) ≡ length program.processes
  length-codes = length-map program.processes process_code

  sizes : IsGeneratable program
  sizes = generatable tree program h.limits h.numbered

  -- ---- limits

  process_names_formed : All IsName (process_names program)
  process_names_formed =
      All-map IsName (λ (process : Process). process.name) program.processes
      (all_from (λ (process : Process). IsName process.name) program.processes (λ k process at.
      let w =
      zip_at (ResolvesProcess (resource_names program)) tree.processes program.processes k process
      h.numbered.processes at
      in
      subst IsName (sym w.2.name) (all_at IsFormedProcess tree.processes h.formed.processes k w.0 w.1).name))

  resource_names_formed : All IsName (resource_names program)
  resource_names_formed =
      All-map IsName (λ (resource : Resource). resource.name) program.resources
      (all_from (λ (resource : Resource). IsName resource.name) program.resources (λ k resource at.
      let w = zip_at ResolvesResource tree.resources program.resources k resource h.numbered.resources at in
      subst IsName (sym w.2.name)
      (all_at (λ (written : ResourceSyntax). IsName written.name.text) tree.resources h.formed.resources k w.0 w.1)))

  few_capital : (r : ℕ) → r < length (capital_of program) → get_or (capital_of program) r 0 ≤ 1000000
  few_capital r u =
      All-map (λ n. n ≤ 1000000) (λ (resource : Resource). resource.capital) program.resources sizes.small r 0 u

  fit_capital : ClaimsFitCapital code
  fit_capital p r u v =
      let n = h.claimed.height in
      let m = length-codes in
      h.enough p (omega (arith, u, n, m)) r v

  keeps_limits : KeepsLimits code
  keeps_limits =
      let n = length-codes in
      let m = length-capital in
      let some = h.numbered.some_processes in
      let few = h.numbered.few_processes in
      let few_resources = h.numbered.few_resources in
      let rows = h.claimed.height in
      record {
        some_processes = (omega (arith, n, some), omega (arith, n, few));
        few_resources = omega (arith, m, few_resources);
        capital =
            All-map (λ n. n ≤ 1000000) (λ (resource : Resource). resource.capital) program.resources
            sizes.small;
        process_names = record {
          all = length-map program.processes (λ (process : Process). process.name) ∙ sym length-codes;
          formed = process_names_formed;
          apart = h.numbered.distinct_processes;
        };
        resource_names = record {
          all = length-names ∙ sym length-capital;
          formed = resource_names_formed;
          apart = h.numbered.distinct_resources;
        };
        rows = rows ∙ sym length-codes;
        width = λ k d u.
            ap (λ (row : List ℕ). length row) (get_or_default claims k d [] u) ∙ (h.claimed.width k u ∙ sym length-capital);
        claims = λ p r u v.
            let a = fit_capital p r u v in
            let b = few_capital r v in
            omega (arith, a, b);
        each = each_code (λ p c. IsSmallProcess c) (λ p process at fine.
            small_process (resource_names program) process fine
            (all_at IsGeneratableProcess program.processes sizes.each p process at));
      }

  -- ---- all faults

  peaks_fit : (p r : ℕ) (c : ProcessCode) → slice_get code.processes p ≡ Some c → r < length code.capital
      → PeakFits c r (cell claims p r)
  peaks_fit p r c at u =
      each_code (λ q d. PeakFits d r (cell claims q r)) (λ q process at' fine.
      let m = length-capital in
      let claim = h.claimed.each q r process at' (omega (arith, u, m)) in
      let same = claim-unique process r (peak r process.body) (cell claims q r) (is_claim process r) claim in
      let l = low (resource_names program) process fine in
      peak_fits process fine.tree.resolves.numbered (omega (arith, l)) r (cell claims q r)
      (omega (arith, same))) p c at

  pub annotated_code : IsFaultless (program_code program claims)
  annotated_code OutOfLimits = keeps_limits
  annotated_code OverCapital = fit_capital
  annotated_code OutOfRange =
      each_code (λ p c. IsInRange (length code.capital) c) (λ p process at fine.
      subst (λ n. IsInRange n (process_code process)) (length-names ∙ sym length-capital)
      (in_range (resource_names program) process fine))
  annotated_code WrongArms = each_code (λ p c. HasArms c) (λ p process at fine. has_arms process)
  annotated_code WrongForks =
      each_code (λ p c. HasForks c) (λ p process at fine. sound_forks (resource_names program) process fine)
  annotated_code NoDepths =
      each_code (λ p c. (depth : ℕ → ℕ) × AreDepths c depth) (λ p process at fine.
      let l = low (resource_names program) process fine in
      has_depths process fine.tree.resolves.numbered (omega (arith, l)))
  annotated_code NoHoldings =
      each_code (λ p c. (held : ℕ → List Bundle) × AreHoldings c held) (λ p process at fine.
      let l = low (resource_names program) process fine in
      has_holdings process fine.tree.resolves.numbered (omega (arith, l)))
  annotated_code LeftAtEnd =
      each_code (λ p c. EndsClear c) (λ p process at fine.
      let l = low (resource_names program) process fine in
      ends_clear process fine.tree.resolves.numbered (omega (arith, l)))
  annotated_code OverClaim = peaks_fit
  annotated_code NoMemory = tt

-- ---- what verified code does

pub code_behaves : (tree : ProgramSyntax) (program : Program) (claims : Table)
    → CanBeCompiled tree program claims
    → IsWellBehaved (program_code program claims)
code_behaves tree program claims h =
    behaved (program_code program claims) (annotated_code tree program claims h)

-- ---- a refusal

wrong_fault : (c : Code) (fault : VerifyFault) → IsFaultless c → IsRefusedFor c fault
    → (fault ≡ NoMemory → ⊥) → ⊥
wrong_fault c fault faultless refused other = (refused other).0 (faultless fault)

-- faultless code is refused only if out of memory
pub memory_alone : (c : Code) (fault : VerifyFault) → IsFaultless c → IsRefusedFor c fault → fault ≡ NoMemory
memory_alone c OutOfLimits faultless refused =
    elim (wrong_fault c OutOfLimits faultless refused (λ e. cc)) [ ]
memory_alone c OverCapital faultless refused =
    elim (wrong_fault c OverCapital faultless refused (λ e. cc)) [ ]
memory_alone c OutOfRange faultless refused = elim (wrong_fault c OutOfRange faultless refused (λ e. cc)) [ ]
memory_alone c WrongArms faultless refused = elim (wrong_fault c WrongArms faultless refused (λ e. cc)) [ ]
memory_alone c WrongForks faultless refused = elim (wrong_fault c WrongForks faultless refused (λ e. cc)) [ ]
memory_alone c NoDepths faultless refused = elim (wrong_fault c NoDepths faultless refused (λ e. cc)) [ ]
memory_alone c NoHoldings faultless refused = elim (wrong_fault c NoHoldings faultless refused (λ e. cc)) [ ]
memory_alone c LeftAtEnd faultless refused = elim (wrong_fault c LeftAtEnd faultless refused (λ e. cc)) [ ]
memory_alone c OverClaim faultless refused = elim (wrong_fault c OverClaim faultless refused (λ e. cc)) [ ]
memory_alone c NoMemory faultless refused = refl

-- ---- an accepted text

pub sound_code : (text : List ℕ) (tokens : List Token) (tree : ProgramSyntax) (program : Program)
    (claims : Table)
    → AreTokensOf text tokens → ReadsProgram tokens tree → parser.IsSmallTree tree → Resolves tree program
    → AreClaims program claims → claimed.FitCapital claims (capital_of program) → HasSoundCode program claims
sound_code text tokens tree program claims cut read limits numbered are_claims enough =
    let accepted : CanBeCompiled tree program claims = record {
      formed = read_program_formed text tokens tree cut read;
      limits = limits;
      numbered = numbered;
      claimed = are_claims;
      enough = enough;
    } in
    let faultless = annotated_code tree program claims accepted in
    record {
      generatable = generatable tree program limits numbered;
      faultless = faultless;
      memory_alone = λ fault. memory_alone (program_code program claims) fault faultless;
      behaves = code_behaves tree program claims accepted;
      keeps = record {
        asks_within = source_asks tree program claims numbered are_claims;
        well_formed = source_well_formed tree program claims numbered are_claims enough;
        safe = source_safe tree program claims numbered are_claims enough;
      };
    }
