-- All processes before their first step.
use Rattle.std.proofs.Common.{◌≡◌, ℕ, zero, suc, ◌+◌, ◌<◌, List, [], ◌∷◌, ◌++◌, pos, length, map, take, get_or}
use Rattle.std.proofs.Common.{replicate, Option, Some, None, option_map, inl, inr, ap, ap₂, subst, refl, sym, ◌∙◌}
use Rattle.std.proofs.Common.{arith, append-nil, ◌≤◌}
use Rattle.std.specs.Prelude.{slice_get, slice_index}
use Rattle.std.proofs.lemmas.List.{length-map, map_more, map-append}
use Rattle.std.proofs.lemmas.Bool.{cases_lt}
use Rattle.std.proofs.lemmas.Option.{slice_get-map}
use Rattle.pb_base.specs.Banker.{cell, row_of}
use Rattle.pb_base.specs.Steppers.{Table, opening}
use Rattle.pb_banker.specs.Value.{start_state}
use Rattle.pb_names.specs.Program.{Process, Program, capital_of, Block, arms_in, IsNumbered}
use Rattle.pb_names.specs.Source.{SourceProcess, Doing, items_of, source_process}
use Rattle.pb_names.specs.View.{process_view as program_process}
use Rattle.pb_names.specs.declared.resolved.Process.{Process as GivenProgram}
use Rattle.pb_names.proofs.Holdings.{items_held}
use Rattle.pb_rewrite.specs.Sound.{AreSound, IsSoundRun, BlockNames, Owns, IsOwned}
use Rattle.pb_rewrite.specs.Sources.{FitsClaims, FitsCapital}
use Rattle.pb_rewrite.specs.View.{process_view}
use Rattle.pb_rewrite.specs.declared.process.SourceProcess.{SourceProcess as Given}
use Rattle.pb_rewrite.proofs.ArmNumbers.{owns_block}
use Rattle.pb_rewrite.proofs.Processes.{process_of}
use Rattle.pb_rewrite.proofs.Sources.{state_with}
use Rattle.pb_base.specs.declared.lending.Lending.TheVariants.{ByBanker}
use Rattle.pb_names.specs.Meaning.{source_bank_by}

-- ---- one more

-- the processes of a program before their first step
abbrev pub opened : {A : Type 0} → List (GivenProgram A) → List SourceProcess
opened ps = map source_process (map program_process ps)

opened_more : {A : Type 0} (ps : List (GivenProgram A)) (i : ℕ) (p : GivenProgram A) → i < length ps → p ≡ get_or ps i p
    → opened (take (i + 1) ps) ≡ opened (take i ps) ++ source_process (program_process p) ∷ []
opened_more ps i p within here =
    ap (map source_process) (map_more program_process ps i p within)
    ∙ map-append source_process (map program_process (take i ps)) (program_process (get_or ps i p) ∷ [])
    ∙ ap (λ x. opened (take i ps) ++ source_process (program_process x) ∷ []) (sym here)

pub opened_pushed : {A : Type 0} (made made' : List (Given A)) (ps : List (GivenProgram A)) (i : ℕ) (p : GivenProgram A) (q : Given A)
    → map process_view made ≡ opened (take i ps) → i < length ps → p ≡ get_or ps i p → made' ≡ made ++ q ∷ []
    → process_view q ≡ source_process (program_process p) → map process_view made' ≡ opened (take (i + 1) ps)
opened_pushed made made' ps i p q before within here pushed same =
    ap (map process_view) pushed ∙ map-append process_view made (q ∷ [])
    ∙ ap₂ (λ xs x. xs ++ x ∷ []) before same ∙ sym (opened_more ps i p within here)

-- a process is made of its integers and its body
pub source_of : {A : Type 0} (p : GivenProgram A) (count : ℕ) (body : Block) → count ≡ length p.integers.items
    → body ≡ (program_process p).body
    → process_of (replicate count (pos 0)) (Some (Doing (items_of body))) ≡ source_process (program_process p)
source_of p count body number same =
    ap₂ (λ k b. process_of (replicate k (pos 0)) (Some (Doing (items_of b))))
    (number ∙ sym (length-map p.integers.items (λ name. name.items))) same

-- ---- the loans

no_loans : {X : Type 0} (xs : List X) (row : List ℕ) (k : ℕ) → k ≡ length xs → replicate k row ≡ map (λ _. row) xs
no_loans [] row k h = ap (λ j. replicate j row) h
no_loans (x ∷ xs) row k h = ap (λ j. replicate j row) h ∙ ap (λ rs. row ∷ rs) (no_loans xs row (length xs) refl)

row_zero : {X : Type 0} (xs : List X) (n p r : ℕ) → slice_index (row_of (map (λ _. replicate n 0) xs) p) r ≡ 0
row_zero [] n p r = refl
row_zero (x ∷ xs) n zero r = zeros n r
  where
    zeros : (n r : ℕ) → slice_index (replicate n 0) r ≡ 0
    zeros zero r = refl
    zeros (suc n) zero = refl
    zeros (suc n) (suc r) = zeros n r
row_zero (x ∷ xs) n (suc p) r = row_zero xs n p r

-- ---- a process before its first step

starts_owned : (n : ℕ) (body : Block) → BlockNames n body → IsNumbered 1 body → IsOwned n 1 (1 + length (arms_in body)) (Doing (items_of body))
starts_owned n body names numbered =
    subst (Owns n 1 (1 + length (arms_in body))) (append-nil (items_of body))
    (owns_block n 1 (1 + length (arms_in body)) body [] (names, (1, omega arith, numbered, omega arith)) (omega arith))

starts_sound : (n : ℕ) (row : List ℕ) (process : Process) → BlockNames n process.body → IsNumbered 1 process.body
    → ((r : ℕ) → slice_index row r ≡ 0) → IsSoundRun n row (source_process process).run
starts_sound n row process names numbered none = (
  (1 + length (arms_in process.body), starts_owned n process.body names numbered),
  λ r l. let nothing = none r in let holds = items_held r process.body in omega arith,
)

module _ (program : Program) (claims : Table) (fits : FitsClaims program claims) where
  loans_open : (start_state (capital_of program) claims).loans
      ≡ map (λ _. replicate (length (capital_of program)) 0) (map source_process program.processes)
  loans_open =
      no_loans (map source_process program.processes) (replicate (length (capital_of program)) 0) (length claims)
      (fits.height ∙ sym (length-map program.processes source_process))

  pub starts : AreSound (start_state (capital_of program) claims) (map source_process program.processes)
  starts = record {
    number = length-map program.processes source_process ∙ sym fits.height;
    each = λ p q at. go p q (slice_get program.processes p) refl (sym (slice_get-map source_process program.processes p) ∙ at);
  }
    where
      sound : (p : ℕ) (process : Process) → slice_get program.processes p ≡ Some process
          → IsSoundRun (length (capital_of program)) (row_of (start_state (capital_of program) claims).loans p) (source_process process).run
      sound p process there =
          subst (λ n. IsSoundRun n (row_of (start_state (capital_of program) claims).loans p) (source_process process).run)
          (sym (length-map program.resources (λ resource. resource.capital)))
          (starts_sound (length program.resources) (row_of (start_state (capital_of program) claims).loans p) process
          (fits.names p process there) (fits.numbered p process there)
          (λ r. ap (λ ls. slice_index (row_of ls p) r) loans_open ∙ row_zero (map source_process program.processes) (length (capital_of program)) p r))

      go : (p : ℕ) (q : SourceProcess) (o : Option Process) → slice_get program.processes p ≡ o → option_map source_process o ≡ Some q
          → IsSoundRun (length (capital_of program)) (row_of (start_state (capital_of program) claims).loans p) q.run
      go p q None there h = absurd (none_some q h)
        where
          none_some : (q : SourceProcess) → None ≡ Some q → ⊥
          none_some q h = cc
      go p q (Some process) there h =
          subst (λ x. IsSoundRun (length (capital_of program)) (row_of (start_state (capital_of program) claims).loans p) x.run)
          (some_same (source_process process) q h) (sound p process there)
        where
          some_same : (x y : SourceProcess) → Some x ≡ Some y → x ≡ y
          some_same x y h = cc

-- ---- finished

pub none_past : {A : Type 0} (items : List (Given A)) (i : ℕ) (P : SourceProcess → Type 0) (x : Given A)
    → slice_get (map process_view items) i ≡ Some (process_view x) → P (process_view x)
    → ((p : ℕ) (q : SourceProcess) → p < i → slice_get (map process_view items) p ≡ Some q → P q)
    → (p : ℕ) (q : SourceProcess) → p < i + 1 → slice_get (map process_view items) p ≡ Some q → P q
none_past items i P x here holds before p q less at =
    elim (cases_lt p i) [
      | inl below ↦ before p q below at
      | inr above ↦
          (let same : p ≡ i = omega arith in
          subst P (some_same (process_view x) q (sym here ∙ ap (slice_get (map process_view items)) (sym same) ∙ at)) holds)
    ]
  where
    some_same : (x y : SourceProcess) → Some x ≡ Some y → x ≡ y
    some_same x y h = cc

-- ---- the whole

pub opens : (program : Program) (claims : Table) → FitsClaims program claims
    → state_with (map source_process program.processes) (start_state (capital_of program) claims).loans
    ≡ opening (source_bank_by ByBanker program claims) (map source_process program.processes)
opens program claims fits = ap (state_with (map source_process program.processes)) (loans_open program claims fits)

-- ---- the capital that the banker is given

pub as_wide : (program : Program) (claims : Table) (capital : List ℕ) → capital ≡ capital_of program → FitsClaims program claims
    → length (row_of claims 0) ≡ length capital
as_wide program claims capital is fits =
    fits.width 0 (omega (arith, fits.some, fits.height))
    ∙ sym (ap length is ∙ length-map program.resources (λ resource. resource.capital))

pub within_capital : (program : Program) (claims : Table) (capital : List ℕ) → capital ≡ capital_of program
    → FitsCapital program claims
    → (p r : ℕ) → p < length claims → r < length capital → cell claims p r ≤ slice_index capital r
within_capital program claims capital is fits p r in_claims in_capital =
    let resources = ap length is ∙ length-map program.resources (λ resource. resource.capital) in
    subst (λ amounts. cell claims p r ≤ slice_index amounts r) (sym is) (fits p r in_claims (omega arith))
