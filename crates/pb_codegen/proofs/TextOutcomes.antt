-- From what each part returns to what a compiled, or a refused, text is.
use Rattle.std.proofs.Common.{◌≡◌, ◌⊎◌, ℕ, List, length, Result, Ok, Err, refl, ap, ◌∙◌, arith}
use Rattle.std.proofs.lemmas.List.{length-map}
use Rattle.std.proofs.lemmas.List.Elements.{All-weaker}
use Rattle.pb_base.specs.Steppers.{Table}
use Rattle.pb_base.specs.Tables.{width_of}
use Rattle.pb_lexer.specs.Cutting.{AreTokensOf}
use Rattle.pb_lexer.specs.Tokens.{Token}
use Rattle.pb_tree.specs.Syntax as tree
use Rattle.pb_grammar.specs.declared.fault.ParseFault.{ParseFault}
use Rattle.pb_grammar.specs.declared.fault.ParseFault.TheVariants as parse
use Rattle.pb_parser.specs.Limits.{IsTooHigh, IsTooLarge, IsNoProgram, IsSyntax, IsSmallTree}
use Rattle.pb_parser.specs.Nesting.{NestsTooDeep}
use Rattle.pb_grammar.specs.Programs.{ReadsProgram}
use Rattle.pb_names.specs.declared.fault.NameFault.{NameFault}
use Rattle.pb_names.specs.declared.fault.NameFault.TheVariants as names
use Rattle.pb_names.specs.Faults.{IsFault}
use Rattle.pb_names.specs.Ready.{IsCompleteStmt, AreComplete, AreCompleteArms, IsComplete}
use Rattle.pb_names.specs.Meaning.{AreClaims}
use Rattle.pb_claims.specs.Inferred.{HaveSmallClaims}
use Rattle.pb_claims.proofs.Bounds.{small_claims}
use Rattle.pb_names.specs.Program.{Program, Resource, capital_of}
use Rattle.pb_names.specs.Resolves.{Resolves, resource_names}
use Rattle.pb_claims.specs.Fits.{FitCapital}
use Rattle.pb_code.specs.Whole.{bank_of}
use Rattle.pb_codegen.specs.Accepted.{HasSoundCode}
use Rattle.pb_codegen.specs.declared.fault.CompileFault.{CompileFault}
use Rattle.pb_codegen.specs.declared.fault.CompileFault.TheVariants.{Lex, Parse, Names, Claims, Memory}
use Rattle.pb_codegen.specs.Compiled.{IsBeforeClaims, IsCapitalFault, IsCompiled, IsRefused, of_parse, of_names}
use Rattle.pb_codegen.specs.Numbered.{IsReadAs, Spells}
use Rattle.pb_codegen.specs.Form.{IsFormedProcess, IsFullStmt, IsFull, AreFull}
use Rattle.pb_generator.specs.Generate.{program_code}
use Rattle.pb_generator.specs.Lines.{program_labels}
use Rattle.pb_codegen.proofs.VerifiedProcesses.{well_numbered}
use Rattle.pb_codegen.proofs.SimulationLines.{is_followed}
use Rattle.pb_codegen.proofs.TextLabels.{fitting_labels}
use Rattle.pb_codegen.proofs.SimulationMeaning.{means_the_same}
use Rattle.pb_codegen.proofs.TextForms.{read_program_formed}
use Rattle.pb_codegen.proofs.VerifiedPrograms.{sound_code}

-- ---- what was read

-- a tree that was read within its limits, from tokens that nest not too deep
pub spells : {T : Type 0} (text : List ℕ) (tokens : List Token) (written : tree.ProgramSyntax) (t : T) (r : Result T ParseFault)
    → AreTokensOf text tokens → ReadsProgram tokens written → IsSmallTree written
    → r ≡ Ok t → (NestsTooDeep tokens → r ≡ Err parse.TooDeep) → Spells text written
spells text tokens written t r cut read limits is nested = record {
  tokens = tokens;
  cut = cut;
  flat = λ deep. let e : r ≡ Err parse.TooDeep = nested deep in cc;
  read = read;
  limits = limits;
}

-- the program of a tree that a text spells, with its claims
pub numbered : (text : List ℕ) (written : tree.ProgramSyntax) (program : Program) (claims : Table) → Spells text written
    → Resolves written program → (HaveSmallClaims program → AreClaims program claims) → IsReadAs text program claims
numbered text written program claims spelled resolves claimed = record {
  tree = written;
  spelled = spelled;
  numbered = resolves;
  claimed = claimed (small_claims written program resolves spelled.limits.nodes);
}

-- what is formed is complete
mutual
  complete_stmt : (s : tree.StmtSyntax) → IsFullStmt s → IsCompleteStmt s
  complete_stmt (tree.assign line x e) h = tt
  complete_stmt (tree.print line e) h = tt
  complete_stmt (tree.if_else line e a b) h = (complete_list a h.1, complete_list b h.2)
  complete_stmt (tree.while_do line e body) h = complete_list body h.1
  complete_stmt (tree.hold line demands body) h = (h.1, complete_list body h.2)
  complete_stmt (tree.parbegin line arms) h = (h.1, complete_arms arms h.2)

  complete_list : (ss : tree.StmtsSyntax) → IsFull ss → AreComplete ss
  complete_list tree.no_stmt h = tt
  complete_list (tree.stmt_then s ss) h = (complete_stmt s h.0, complete_list ss h.1)

  complete_arms : (arms : tree.ArmsSyntax) → AreFull arms → AreCompleteArms arms
  complete_arms tree.no_arm h = tt
  complete_arms (tree.arm_then arm arms) h = (complete_list arm h.0, complete_arms arms h.1)

pub complete : (text : List ℕ) (tokens : List Token) (written : tree.ProgramSyntax)
    → AreTokensOf text tokens → ReadsProgram tokens written → IsComplete written
complete text tokens written cut read =
    let formed = read_program_formed text tokens written cut read in
    record {
      some_process = formed.some_processes;
      bodies =
          All-weaker IsFormedProcess (λ process. AreComplete process.body) (λ process h. complete_list process.body h.full)
          written.processes formed.processes;
    }

-- ---- refusals

pub parse_refused : (text : List ℕ) (tokens : List Token) (fault : ParseFault) → AreTokensOf text tokens
    → (IsSyntax fault → IsNoProgram tokens) → (fault ≡ parse.TooDeep → NestsTooDeep tokens ⊎ IsTooHigh tokens)
    → (fault ≡ parse.TooLarge → IsTooLarge tokens) → (NestsTooDeep tokens → fault ≡ parse.TooDeep)
    → (IsTooHigh tokens → fault ≡ parse.TooDeep) → IsRefused text (of_parse fault)
parse_refused text tokens (parse.Syntax at) cut syntax deep large nested high =
    (tokens, cut, ((λ n. let e : parse.Syntax at ≡ parse.TooDeep = nested n in cc), syntax tt))
parse_refused text tokens parse.TooDeep cut syntax deep large nested high = (tokens, cut, deep refl)
parse_refused text tokens parse.TooLarge cut syntax deep large nested high = (
  tokens,
  cut,
  (
    (λ n. let e : parse.TooLarge ≡ parse.TooDeep = nested n in cc),
    (λ h. let e : parse.TooLarge ≡ parse.TooDeep = high h in cc),
    large refl,
  ),
)
parse_refused text tokens parse.NoMemory cut syntax deep large nested high = tt

pub names_refused : (text : List ℕ) (program : tree.ProgramSyntax) (fault : NameFault)
    → Spells text program → IsFault program fault → IsRefused text (of_names fault)
names_refused text program (names.TooMany kind) spelled is = (program, spelled, is)
names_refused text program (names.Twice at) spelled is = (program, spelled, is)
names_refused text program (names.Unknown at) spelled is = (program, spelled, is)
names_refused text program (names.Amount at) spelled is = (program, spelled, is)
names_refused text program (names.Repeated at) spelled is = (program, spelled, is)
names_refused text program names.NoMemory spelled is = tt

-- names are looked at before the claims
pub names_come_early : (fault : NameFault) → IsBeforeClaims (of_names fault)
names_come_early (names.TooMany kind) = tt
names_come_early (names.Twice at) = tt
names_come_early (names.Unknown at) = tt
names_come_early (names.Amount at) = tt
names_come_early (names.Repeated at) = tt
names_come_early names.NoMemory = tt

-- ---- an accepted program

-- claims have a column for each resource
pub claims_width : (written : tree.ProgramSyntax) (program : Program) (claims : Table)
    → Resolves written program → AreClaims program claims → width_of claims ≡ length program.resources
claims_width written program claims resolves are =
    let some = resolves.some_processes in
    let rows = are.height in
    are.width 0 (omega (arith, some, rows))

-- the code of a program that a text spells has none of the faults that the verifier looks for
pub sound : (text : List ℕ) (program : Program) (claims : Table) → IsReadAs text program claims
    → FitCapital claims (capital_of program) → HasSoundCode program claims
sound text program claims is enough =
    sound_code text is.spelled.tokens is.tree program claims is.spelled.cut is.spelled.read is.spelled.limits is.numbered is.claimed enough

pub compiled : (text : List ℕ) (program : Program) (claims : Table) → IsReadAs text program claims
    → FitCapital claims (capital_of program) → IsCompiled text (program_code program claims) (program_labels program)
compiled text program claims is enough =
    let arms = well_numbered (resource_names program) is.tree.processes program.processes is.numbered.processes in
    let sure = sound text program claims is enough in
    record {
      program = program;
      numbered = is;
      generated = refl;
      names = refl;
      enough = enough;
      same = means_the_same program claims arms is.claimed;
      labelled = refl;
      lines = is_followed (bank_of (program_code program claims)) program.processes arms;
      behaves = sure.behaves;
      keeps = sure.keeps;
      fit =
          fitting_labels is.tree program claims
          (read_program_formed text is.spelled.tokens is.tree is.spelled.cut is.spelled.read) is.numbered;
    }

-- ---- the capital of resources in memory

pub capital_width : (program : Program) (capital : List ℕ) (claims : Table) → capital ≡ capital_of program
    → width_of claims ≡ length program.resources → width_of claims ≡ length capital
capital_width program capital claims is width =
    let seen = ap length is in
    let all = length-map program.resources (λ (r : Resource). r.capital) in
    omega (arith, width, seen, all)

-- a claim over the capital refuses the text
pub capital_refused : (text : List ℕ) (program : Program) (claims : Table) (fault : CompileFault) → IsReadAs text program claims
    → IsCapitalFault program claims fault → IsRefused text fault
capital_refused text program claims (Lex fault) is h = elim h [ ]
capital_refused text program claims (Parse fault) is h = elim h [ ]
capital_refused text program claims (Names fault) is h = elim h [ ]
capital_refused text program claims (Claims fault) is h = (program, claims, is, h)
capital_refused text program claims Memory is h = tt
