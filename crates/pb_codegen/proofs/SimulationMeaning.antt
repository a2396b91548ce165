-- The code of a program means the same as the program.
use Rattle.std.proofs.Common.{◌≡◌, ℕ, suc, ◌<◌, List, [], ◌∷◌, length, get_or, refl, sym, ◌∙◌}
use Rattle.std.proofs.Common.{subst, arith}
use Rattle.pb_base.specs.Banker.{row_of, cell}
use Rattle.pb_base.specs.Steppers.{Table}
use Rattle.pb_base.proofs.Lists.{get_some}
use Rattle.pb_names.specs.Program.{Program, AllWellNumbered}
use Rattle.pb_names.specs.Source.{SourceCanUnder}
use Rattle.pb_names.specs.Meaning.{AreClaims, source_bank_by}
use Rattle.pb_claims.proofs.Bounds.{claim-unique}
use Rattle.pb_generator.specs.Generate.{program_code}
use Rattle.pb_codegen.specs.Correct.{MeansTheSame}
use Rattle.pb_codegen.proofs.SimulationBack.{implements}

-- ---- a program has one table of claims

same_list : {X : Type 0} (d : X) (a b : List X) → length a ≡ length b
    → ((k : ℕ) → k < length a → get_or a k d ≡ get_or b k d) → a ≡ b
same_list d [] [] n h = refl
same_list d [] (y ∷ b) n h = absurd (omega arith)
same_list d (x ∷ a) [] n h = absurd (omega arith)
same_list d (x ∷ a) (y ∷ b) n h =
    let first : x ≡ y = h 0 (omega arith) in
    let rest : a ≡ b = same_list d a b (omega arith) (λ k below. h (suc k) (omega arith)) in
    cc

pub one_table : (program : Program) (a b : Table) → AreClaims program a → AreClaims program b → a ≡ b
one_table program a b h k =
    same_list [] a b (h.height ∙ sym k.height) (λ p within.
    let also : p < length b = omega (arith, h.height, k.height) in
    let process = get_some program.processes p (omega (arith, h.height)) in
    let wide = h.width p within in
    same_list 0 (row_of a p) (row_of b p) (wide ∙ sym (k.width p also)) (λ r below.
    let inside : r < length program.resources = omega (arith, wide) in
    claim-unique process.0 r (cell a p r) (cell b p r) (h.each p r process.0 process.1 inside) (k.each p r process.0 process.1 inside)))

-- ---- both directions

pub means_the_same : (program : Program) (claims : Table) → AllWellNumbered program.processes
    → AreClaims program claims
    → MeansTheSame program (program_code program claims)
means_the_same program claims numbered are lending =
    let both =
    implements (source_bank_by lending program claims) program.processes numbered in
    record {
      no_more = λ events n can. (claims, are, both.no_more events n can);
      no_less = λ events n can.
          both.no_less events n (subst (λ c. SourceCanUnder (source_bank_by lending program c) program.processes events n)
          (one_table program can.0 claims can.1 are) can.2);
    }
