-- What the parser of whole programs returns.
use Rattle.std.proofs.Common.{◌≡◌, ◌↔◌, ℕ, ◌<◌, ◌≤◌, ◌⊎◌, inl, inr, List, [], ◌∷◌, Result, Ok, Err, false, IsTrue}
use Rattle.std.proofs.Common.{refl, sym, ap, ◌∙◌, subst, arith}
use Rattle.std.specs.Prelude.{IfOk, IfErr}
use Rattle.pb_lexer.specs.Tokens.{Token}
use Rattle.pb_tree.specs.declared.program.Program.{Program}
use Rattle.pb_tree.specs.Measure.{program_height, program_nodes}
use Rattle.pb_tree.specs.Syntax.{ProgramSyntax}
use Rattle.pb_tree.specs.View.{program_view}
use Rattle.pb_grammar.specs.declared.fault.ParseFault.{ParseFault}
use Rattle.pb_grammar.specs.declared.fault.ParseFault.TheVariants as fault
use Rattle.pb_parser.specs.Limits.{IsSmallTree, IsTooHigh, IsTooLarge, IsNoProgram, IsSmallProgram, IsSyntax}
use Rattle.pb_parser.specs.Nesting.{NestsTooDeep}
use Rattle.pb_grammar.specs.Programs.{ReadsProgram}
use Rattle.pb_grammar.specs.Reader.{Refused, Found}
use Rattle.pb_grammar.specs.ProgramReader.{program}
use Rattle.pb_parser.specs.declared.measure.Measure.{Measure}
use Rattle.pb_parser.specs.Measured.{IsMeasure}
use Rattle.pb_grammar.specs.Making.{Fails, IsMadeOf}
use Rattle.pb_parser.proofs.Depths.{within_depth}
use Rattle.pb_grammar.proofs.ProgramLaws.{program_complete, program_sound, one_program}

-- ---- what is to be shown of what was read

pub record Judged {A : Type 0} (ts : List Token) (r : Result (Program A) ParseFault) : Type 0 where
  pub found : IfOk r (λ p. ReadsProgram ts (program_view p))
  pub limits : IfOk r (λ p. IsSmallTree (program_view p))
  pub too_deep : (r ≡ Err fault.TooDeep) ↔ (NestsTooDeep ts ⊎ IsTooHigh ts)
  pub syntax : ((at : ℕ) × (r ≡ Err (fault.Syntax at))) ↔ ((¬ NestsTooDeep ts) × IsNoProgram ts)
  pub too_large : (r ≡ Err fault.TooLarge) ↔ ((¬ NestsTooDeep ts) × IsTooLarge ts)
  pub memory : r ≡ Err fault.NoMemory → IsSmallProgram ts

none_reads : (ts : List Token) → (NestsTooDeep ts → ⊥) → program 257 ts ≡ Refused → IsNoProgram ts
none_reads ts shallow none p reads = let found = program_complete 257 reads (within_depth reads shallow) in cc

pub judged_refused : {A : Type 0} (ts : List Token) (e : ParseFault) → (NestsTooDeep ts → ⊥) → Fails ⊥ e (program 257 ts)
    → Judged {A = A} ts (Err e)
judged_refused ts (fault.Syntax at) shallow fails =
    let none = none_reads ts shallow fails in
    record {
      found = tt;
      limits = tt;
      too_deep = (λ e. cc, λ s. elim s [ inl nests ↦ absurd (shallow nests) | inr high ↦ absurd (none high.0 high.1) ]);
      syntax = (λ _. (shallow, none), λ _. (at, refl));
      too_large = (λ e. cc, λ s. absurd (none s.1.0 s.1.1));
      memory = λ e. cc;
    }
judged_refused ts fault.TooDeep shallow fails = absurd fails
judged_refused ts fault.TooLarge shallow fails = absurd fails
judged_refused ts fault.NoMemory shallow fails = absurd fails

pub judged_high : {A : Type 0} (ts : List Token) (p : ProgramSyntax) → (NestsTooDeep ts → ⊥) → ReadsProgram ts p
    → 200 < program_height p → Judged {A = A} ts (Err fault.TooDeep)
judged_high ts p shallow reads high = record {
  found = tt;
  limits = tt;
  too_deep = (λ _. inr (p, reads, high), λ _. refl);
  syntax = (λ s. (let e = s.1 in cc), λ s. absurd (s.1 p reads));
  too_large = (λ e. cc, λ s. (let same = ap program_height (one_program s.1.1 reads) in let low = s.1.2 in absurd (omega arith)));
  memory = λ e. cc;
}

pub judged_large : {A : Type 0} (ts : List Token) (p : ProgramSyntax) → (NestsTooDeep ts → ⊥) → ReadsProgram ts p
    → program_height p ≤ 200 → 16384 < program_nodes p
    → Judged {A = A} ts (Err fault.TooLarge)
judged_large ts p shallow reads low large = record {
  found = tt;
  limits = tt;
  too_deep = (
    λ e. cc,
    λ s. elim s [
      | inl nests ↦ absurd (shallow nests)
      | inr high ↦ (let same = ap program_height (one_program high.1 reads) in let over = high.2 in absurd (omega arith))
    ],
  );
  syntax = (λ s. (let e = s.1 in cc), λ s. absurd (s.1 p reads));
  too_large = (λ _. (shallow, (p, reads, low, large)), λ _. refl);
  memory = λ e. cc;
}

pub judged_made : {A : Type 0} (ts : List Token) (d : ℕ) (r : Result (Program A) ParseFault) (p : ProgramSyntax)
    → (NestsTooDeep ts → ⊥) → program d ts ≡ Found p [] → IsSmallTree p
    → IsMadeOf (Unit {0}) (λ x y. program_view x ≡ y) r (program d ts) [] → Judged ts r
judged_made ts d (Ok q) p shallow found keeps made =
    let reads = program_sound d ts [] made.syntax made.found in
    let is : made.syntax ≡ p = one_program reads (program_sound d ts [] p found) in
    let seen = made.same ∙ is in
    record {
      found = subst (ReadsProgram ts) (sym made.same) reads;
      limits = subst IsSmallTree (sym seen) keeps;
      too_deep = (
        λ e. cc,
        λ s. elim s [
          | inl nests ↦ absurd (shallow nests)
          | inr high ↦ (let same = ap program_height (one_program high.1 reads ∙ is) in let over = high.2 in let low = keeps.height in absurd (omega arith))
        ],
      );
      syntax = (λ s. (let e = s.1 in cc), λ s. absurd (s.1 made.syntax reads));
      too_large = (
        λ e. cc,
        λ s. (let same = ap program_nodes (one_program s.1.1 reads ∙ is) in let over = s.1.3 in
            let low = keeps.nodes in absurd (omega arith)),
      );
      memory = λ e. cc;
    }
judged_made ts d (Err (fault.Syntax at)) p shallow found keeps made = cc
judged_made ts d (Err fault.TooDeep) p shallow found keeps made = absurd made
judged_made ts d (Err fault.TooLarge) p shallow found keeps made = absurd made
judged_made ts d (Err fault.NoMemory) p shallow found keeps made =
    let reads = program_sound d ts [] p found in
    record {
      found = tt;
      limits = tt;
      too_deep = (
        λ e. cc,
        λ s. elim s [
          | inl nests ↦ absurd (shallow nests)
          | inr high ↦ (let same = ap program_height (one_program high.1 reads) in let over = high.2 in let low = keeps.height in absurd (omega arith))
        ],
      );
      syntax = (λ s. (let e = s.1 in cc), λ s. absurd (s.1 p reads));
      too_large = (λ e. cc, λ s. (let same = ap program_nodes (one_program s.1.1 reads) in let over = s.1.3 in let low = keeps.nodes in absurd (omega arith)));
      memory = λ _. (shallow, (p, reads, keeps));
    }

pub not_nested : (ts : List Token) → (IsTrue false ↔ NestsTooDeep ts) → NestsTooDeep ts → ⊥
not_nested ts is nests = let e = is.1 nests in cc

-- ---- a measure against the limits

pub is_high : (m : Measure) (h n : ℕ) → IsMeasure m h n → 200 < m.height → 200 < h
is_high m h n is over = let e = is.is_high in omega arith

pub not_high : (m : Measure) (h n : ℕ) → IsMeasure m h n → m.height ≤ 200 → h ≤ 200
not_high m h n is within = let e = is.is_high in omega arith

pub is_large : (m : Measure) (h n : ℕ) → IsMeasure m h n → 16384 < m.nodes → 16384 < n
is_large m h n is over = let e = is.is_large in omega arith

pub not_large : (m : Measure) (h n : ℕ) → IsMeasure m h n → m.nodes ≤ 16384 → n ≤ 16384
not_large m h n is within = let e = is.is_large in omega arith

-- ---- the same, clause by clause

pub syntax_of : {A : Type 0} (ts : List Token) (r : Result (Program A) ParseFault) → Judged ts r
    → IfErr r (λ e. IsSyntax e → IsNoProgram ts)
syntax_of ts (Ok q) j = tt
syntax_of ts (Err (fault.Syntax at)) j = λ _. (j.syntax.0 (at, refl)).1
syntax_of ts (Err fault.TooDeep) j = λ is. absurd is
syntax_of ts (Err fault.TooLarge) j = λ is. absurd is
syntax_of ts (Err fault.NoMemory) j = λ is. absurd is
