-- A text has at most one numbered program with its claims, and is compiled to at most one code.
use Rattle.std.proofs.Common.{◌≡◌, ℕ, List, ap, subst, sym, ◌∙◌}
use Rattle.pb_base.specs.Steppers.{Table}
use Rattle.pb_lexer.proofs.Cuttings.{one_cutting}
use Rattle.pb_lexer.specs.Tokens.{Token}
use Rattle.pb_grammar.proofs.ProgramLaws.{one_program}
use Rattle.pb_grammar.specs.Programs.{ReadsProgram}
use Rattle.pb_tree.specs.Syntax.{ProgramSyntax}
use Rattle.pb_names.specs.Meaning.{AreClaims}
use Rattle.pb_names.specs.Program.{Program}
use Rattle.pb_names.specs.Resolves.{Resolves}
use Rattle.pb_names.proofs.OneNumbering.{resolves_once}
use Rattle.pb_code.specs.Whole.{Code, ProcessLabels}
use Rattle.pb_codegen.specs.Compiled.{IsCompiled}
use Rattle.pb_generator.specs.Generate.{program_code}
use Rattle.pb_generator.specs.Lines.{program_labels}
use Rattle.pb_codegen.specs.Numbered.{IsReadAs}
use Rattle.pb_codegen.proofs.SimulationMeaning.{one_table}

pub one_analysis : (text : List ℕ) (p q : Program) (a b : Table) → IsReadAs text p a → IsReadAs text q b
    → (p ≡ q) × (a ≡ b)
one_analysis text p q a b x y =
    let cut : x.spelled.tokens ≡ y.spelled.tokens =
    one_cutting text x.spelled.tokens y.spelled.tokens x.spelled.cut.cuts y.spelled.cut.cuts in
    let read : ReadsProgram y.spelled.tokens x.tree =
    subst (λ (ts : List Token). ReadsProgram ts x.tree) cut x.spelled.read in
    let tree : x.tree ≡ y.tree = one_program read y.spelled.read in
    let numbered : Resolves y.tree p = subst (λ (t : ProgramSyntax). Resolves t p) tree x.numbered in
    let program : p ≡ q = resolves_once y.tree p q numbered y.numbered in (
      program,
      one_table q a b (subst (λ (z : Program). AreClaims z a) program x.claimed) y.claimed,
    )

pub one_code : (text : List ℕ) (code other : Code) (labels others : List ProcessLabels) → IsCompiled text code labels
    → IsCompiled text other others → (code ≡ other) × (labels ≡ others)
one_code text code other labels others x y =
    let same = one_analysis text x.program y.program code.claims other.claims x.numbered y.numbered in (
      x.generated
          ∙ ap (λ (p : Program). program_code p code.claims) same.0
          ∙ ap (λ (c : Table). program_code y.program c) same.1
          ∙ sym y.generated,
      x.labelled ∙ ap program_labels same.0 ∙ sym y.labelled,
    )
