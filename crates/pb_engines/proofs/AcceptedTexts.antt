-- An accepted text has no fault.
use Rattle.std.proofs.Common.{◌≡◌, ◌≢◌, ℕ, List, inl, inr, refl, sym, subst, arith}
use Rattle.pb_base.specs.Steppers.{Table}
use Rattle.pb_claims.specs.Fits.{FitCapital, IsFirstOver}
use Rattle.pb_claims.specs.declared.over_capital.OverCapital.{OverCapital}
use Rattle.pb_codegen.proofs.TextOneCode.{one_analysis}
use Rattle.pb_codegen.specs.Compiled.{IsParseFault, IsRefused}
use Rattle.pb_codegen.specs.Numbered.{IsReadAs, Spells}
use Rattle.pb_codegen.specs.declared.fault.CompileFault.{CompileFault}
use Rattle.pb_codegen.specs.declared.fault.CompileFault.TheVariants.{Lex, Parse, Names, Claims, Memory}
use Rattle.pb_lexer.proofs.Cuttings.{one_cutting}
use Rattle.pb_lexer.proofs.Faults.{no_fault as no_lex_fault}
use Rattle.pb_lexer.specs.Tokens.{Token}
use Rattle.pb_lexer.specs.declared.fault.LexFault.{LexFault}
use Rattle.pb_lexer.specs.declared.fault.LexFault.TheVariants as lex
use Rattle.pb_names.proofs.ResolvedLimits.{no_fault as no_name_fault}
use Rattle.pb_names.specs.Faults.{IsFault}
use Rattle.pb_names.specs.Program.{Program, capital_of}
use Rattle.pb_names.specs.declared.fault.NameFault.{NameFault}
use Rattle.pb_names.specs.declared.fault.NameFault.TheVariants as names
use Rattle.pb_grammar.proofs.ProgramLaws.{one_program}
use Rattle.pb_parser.specs.Limits.{IsSmallTree}
use Rattle.pb_grammar.specs.Programs.{ReadsProgram}
use Rattle.pb_grammar.specs.declared.fault.ParseFault.{ParseFault}
use Rattle.pb_grammar.specs.declared.fault.ParseFault.TheVariants as parse
use Rattle.pb_tree.specs.Syntax.{ProgramSyntax}
use Rattle.pb_accept.specs.Refusals.{IsAcceptedText}

module _ (text : List ℕ) (accepted : IsAcceptedText text) where
  spelled : Spells text accepted.numbered.tree
  spelled = accepted.numbered.spelled

  same_tree : (other : ProgramSyntax) → Spells text other → other ≡ accepted.numbered.tree
  same_tree other is =
      let cut = one_cutting text is.tokens spelled.tokens is.cut.cuts spelled.cut.cuts in
      one_program (subst (λ (ts : List Token). ReadsProgram ts other) cut is.read) spelled.read

  no_token_fault : (fault : LexFault) → IsRefused text (Lex fault) → ⊥
  no_token_fault lex.NoMemory is = is
  no_token_fault lex.TooLong is = no_lex_fault text spelled.tokens lex.TooLong spelled.cut (λ e. absurd cc) is
  no_token_fault (lex.BadByte at) is = no_lex_fault text spelled.tokens (lex.BadByte at) spelled.cut (λ e. absurd cc) is
  no_token_fault (lex.NumberTooLarge at) is =
      no_lex_fault text spelled.tokens (lex.NumberTooLarge at) spelled.cut (λ e. absurd cc) is
  no_token_fault (lex.NameTooLong at) is =
      no_lex_fault text spelled.tokens (lex.NameTooLong at) spelled.cut (λ e. absurd cc) is

  no_parse_fault : (fault : ParseFault) → IsParseFault spelled.tokens fault → ⊥
  no_parse_fault (parse.Syntax at) is = is.1 accepted.numbered.tree spelled.read
  no_parse_fault parse.TooDeep (inl deep) = spelled.flat deep
  no_parse_fault parse.TooDeep (inr (other, reads, high)) =
      let same : other ≡ accepted.numbered.tree = one_program reads spelled.read in
      let limits : IsSmallTree other = subst IsSmallTree (sym same) spelled.limits in
      let most = limits.height in
      omega (arith, high, most)
  no_parse_fault parse.TooLarge (flat, low, (other, reads, height, large)) =
      let same : other ≡ accepted.numbered.tree = one_program reads spelled.read in
      let limits : IsSmallTree other = subst IsSmallTree (sym same) spelled.limits in
      let most = limits.nodes in
      omega (arith, large, most)
  no_parse_fault parse.NoMemory is = is

  no_fault_of : (fault : NameFault) → fault ≢ names.NoMemory → (other : ProgramSyntax) → Spells text other → IsFault other fault → ⊥
  no_fault_of fault real other spells is =
      no_name_fault accepted.numbered.tree accepted.program fault accepted.numbered.numbered real
      (subst (λ (t : ProgramSyntax). IsFault t fault) (same_tree other spells) is)

  no_names_fault : (fault : NameFault) → IsRefused text (Names fault) → ⊥
  no_names_fault names.NoMemory is = is
  no_names_fault (names.TooMany kind) is = no_fault_of (names.TooMany kind) (λ e. absurd cc) is.0 is.1 is.2
  no_names_fault (names.Twice at) is = no_fault_of (names.Twice at) (λ e. absurd cc) is.0 is.1 is.2
  no_names_fault (names.Unknown at) is = no_fault_of (names.Unknown at) (λ e. absurd cc) is.0 is.1 is.2
  no_names_fault (names.Amount at) is = no_fault_of (names.Amount at) (λ e. absurd cc) is.0 is.1 is.2
  no_names_fault (names.Repeated at) is = no_fault_of (names.Repeated at) (λ e. absurd cc) is.0 is.1 is.2

  none_over : (program : Program) (claims : Table) (over : OverCapital) → IsReadAs text program claims
      → IsFirstOver claims (capital_of program) over → ⊥
  none_over program claims over numbered first =
      let same = one_analysis text program accepted.program claims accepted.claims numbered accepted.numbered in
      let fits : FitCapital accepted.claims (capital_of program) =
      subst (λ (p : Program). FitCapital accepted.claims (capital_of p)) (sym same.0) accepted.enough in
      let all : FitCapital claims (capital_of program) =
      subst (λ (t : Table). FitCapital t (capital_of program)) (sym same.1) fits in
      let at = first.first_resource in
      let most = all over.process first.process over.resource at.resource in
      let less = at.over in
      omega (arith, most, less)

  pub accepted_has_no_fault : (fault : CompileFault) → fault ≢ Memory → IsRefused text fault → ⊥
  accepted_has_no_fault (Lex fault) not is = no_token_fault fault is
  accepted_has_no_fault (Parse fault) not (tokens, cut, is) =
      no_parse_fault fault (subst (λ (ts : List Token). IsParseFault ts fault) (one_cutting text tokens spelled.tokens cut.cuts spelled.cut.cuts) is)
  accepted_has_no_fault (Names fault) not is = no_names_fault fault is
  accepted_has_no_fault (Claims fault) not (program, claims, numbered, is) = none_over program claims is.over numbered is.first
  accepted_has_no_fault Memory not is = not refl
