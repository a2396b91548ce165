-- A program takes all tokens.
use Rattle.std.proofs.Common.{◌≡◌, ℕ, List, [], ◌∷◌, Result, Ok, Err, sym, ap, ◌∙◌}
use Rattle.pb_lexer.specs.Tokens.{Token}
use Rattle.pb_tree.specs.Syntax.{ProgramSyntax}
use Rattle.pb_grammar.specs.declared.fault.ParseFault.{ParseFault}
use Rattle.pb_grammar.specs.Reader.{Found, ended}
use Rattle.pb_grammar.specs.ProgramReader.{resources_part, processes_part, program}
use Rattle.pb_grammar.specs.Making.{IsMadeOf}
use Rattle.pb_grammar.proofs.Chains.{goes_on, found_rest}

none_left : (ts rest : List Token) → ended ts ≡ Found tt rest → rest ≡ []
none_left [] rest p = sym (found_rest p)
none_left (t ∷ ts) rest p = cc

program_ends : (d : ℕ) (ts rest : List Token) (p : ProgramSyntax) → program d ts ≡ Found p rest → rest ≡ []
unfolding program
program_ends d ts rest p q =
    let x = goes_on (resources_part ts) _ q in
    let y = goes_on (processes_part d x.1) _ x.3 in
    let z = goes_on (ended y.1) _ y.3 in
    sym (found_rest z.3) ∙ none_left y.1 z.1 z.2

pub to_the_end : {X : Type 0} (is : X → ProgramSyntax → Type 0) (wants : Type 0) (r : Result X ParseFault) (d : ℕ) (ts rest : List Token)
    → IsMadeOf wants is r (program d ts) rest → IsMadeOf wants is r (program d ts) []
to_the_end is wants (Ok x) d ts rest f = record {
  syntax = f.syntax;
  found = f.found ∙ ap (Found f.syntax)
      (program_ends d ts rest f.syntax f.found);
  same = f.same;
}
to_the_end is wants (Err e) d ts rest f = f
