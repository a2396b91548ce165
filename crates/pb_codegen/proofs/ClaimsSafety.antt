-- Under the banker the loans of processes that ask for no resource twice stay safe.
use Rattle.std.proofs.Common.{◌≡◌, ℕ, zero, suc, ◌+◌, ◌-◌, ◌<◌, ◌≤◌, List, [], ◌∷◌, length, get_or, map}
use Rattle.std.proofs.Common.{replicate, set, sym, ◌∙◌, subst, arith}
use Rattle.std.specs.Prelude.{All}
use Rattle.std.proofs.Math.ListN.{get_or-map}
use Rattle.std.proofs.lemmas.List.{length-map, length-replicate}
use Rattle.std.proofs.lemmas.List.Sorted.{IsPermutation-refl}
use Rattle.pb_base.specs.declared.pair.Pair.{Pair}
use Rattle.pb_base.specs.Banker.{BankerState, claim, loan, everyone, held_by, cash, cell, row_of, IsSafe}
use Rattle.pb_base.specs.Banker.{IsAllowed, IsWellFormed}
use Rattle.pb_base.specs.Bundle.{amount_in, lend, give_back}
use Rattle.pb_base.specs.Steppers.{Bank, Bundle, Table, Effect, Silent, Prints, Takes, Returns, Faults}
use Rattle.pb_base.specs.Steppers.{IsGranted, IsLent, banker_state, loans_after}
use Rattle.pb_base.specs.declared.lending.Lending.TheVariants.{ByBanker}
use Rattle.pb_base.specs.Steppers as steppers
use Rattle.pb_base.proofs.BankerLaws.{fewer_loans_stay_safe}
use Rattle.pb_base.proofs.Groups.{range_below, sum_by-zero_on}
use Rattle.pb_base.proofs.LoanRows.{amount_in-le, get_or-lend, length-give_back, length-lend}
use Rattle.pb_base.proofs.Rows.{with_row, IsWellFormed-with_row, HasFewerLoans-with_row}
use Rattle.pb_codegen.proofs.ClaimsLoans.{give_back_le}
use Rattle.pb_codegen.proofs.VerifiedBundles.{IsTidy, IsTidyEffect}
use Rattle.pb_verifier.proofs.LoansWithinClaims.{zero_loans}

-- loans that a banker may keep
pub record IsSound (bank : Bank) (loans : Table) : Type 0 where
  pub formed : IsWellFormed (banker_state bank loans)
  pub safe : IsSafe (banker_state bank loans)

module _ (bank : Bank) (loans : Table) (p : ℕ) (sound : IsSound bank loans) (there : p < length bank.claims) where
  abbrev s : BankerState
  s = banker_state bank loans

  -- with another row of no larger loans
  fewer : (row : List ℕ) → length row ≡ length bank.capital → ((r : ℕ) → get_or row r 0 ≤ cell loans p r)
      → IsSound bank (set loans p row)
  fewer row width less =
      let formed = sound.formed in
      record {
        formed = IsWellFormed-with_row s p row formed there (record {
          width = width;
          within_claim = λ r u. let a = less r in let b = formed.loans_fit p r there u in omega (arith, a, b);
          within_cash = λ r u. let a = less r in omega (arith, a);
        });
        safe = (
          sound.safe.0,
          fewer_loans_stay_safe (with_row s p row) s formed
              (HasFewerLoans-with_row s p row formed there (λ r u. less r))
              sound.safe.0 sound.safe.1,
        );
      }

  more : (bundle : Bundle) → IsAllowed s p bundle → IsTidy (length bank.capital) bundle
      → IsSound bank (set loans p (lend (row_of loans p) bundle))
  more bundle allowed tidy =
      let formed = sound.formed in
      let wide : length (row_of loans p) ≡ length bank.capital = formed.loan_width p there in
      let here : (r : ℕ) → get_or (lend (row_of loans p) bundle) r 0 ≡ cell loans p r + amount_in bundle r =
      λ r. get_or-lend (row_of loans p) bundle r (subst (λ k. All (λ (pair : Pair). pair.resource < k) bundle) (sym wide) tidy.there)
      in
      record {
        formed = IsWellFormed-with_row s p (lend (row_of loans p) bundle) formed there (record {
          width = length-lend (row_of loans p) bundle ∙ wide;
          within_claim = λ r u.
              let h = here r in
              let fits = formed.loans_fit p r there u in
              let a = amount_in-le bundle (λ q. claim s p q - loan s p q) r tidy.distinct (λ k d v.
              let w = allowed.within_claim k d v in omega (arith, w)) in
              omega (arith, h, a, fits);
          within_cash = λ r u.
              let h = here r in
              let a = amount_in-le bundle (cash s) r tidy.distinct allowed.within_cash in
              omega (arith, h, a);
        });
        safe = allowed.safe;
      }

  -- after any effect of the process, if the banker lends
  pub sound_after : bank.lends ≡ ByBanker → (effect : Effect) → IsGranted bank loans p effect
      → IsTidyEffect (length bank.capital) effect
      → IsSound bank (loans_after loans p effect)
  sound_after by Silent granted tidy = sound
  sound_after by (Prints v) granted tidy = sound
  sound_after by (Takes bundle) granted tidy =
      more bundle (subst (λ lends. IsLent lends s p bundle) by granted) tidy
  sound_after by (Returns bundle) granted tidy =
      fewer (give_back (row_of loans p) bundle)
      (length-give_back (row_of loans p) bundle ∙ sound.formed.loan_width p there)
      (λ r. let h = give_back_le bundle (row_of loans p) r in omega (arith, h))
  sound_after by (Faults kind) granted tidy =
      let none : ℕ → ℕ = λ _. 0 in
      fewer (map none (row_of loans p)) (length-map (row_of loans p) none ∙ sound.formed.loan_width p there)
      (λ r. let e : get_or (map none (row_of loans p)) r 0 ≡ 0 = get_or-map none (row_of loans p) r 0 in omega (arith, e))
  sound_after by steppers.Finishes granted tidy = sound

-- ---- nothing is lent

zero_rows : {X : Type 0} (n : ℕ) (xs : List X) (p : ℕ) → p < length xs
    → length (row_of (map (λ (x : X). replicate n 0) xs) p) ≡ n
zero_rows n [] p u = absurd (omega (arith, u))
zero_rows n (x ∷ xs) zero u = length-replicate n 0
zero_rows n (x ∷ xs) (suc p) u = zero_rows n xs p (omega (arith, u))

-- what a banker asks of its capital and claims
pub record IsFairBank (bank : Bank) (n : ℕ) : Type 0 where
  pub few_processes : n ≤ 64
  pub few_resources : length bank.capital ≤ 16
  pub all_claims : length bank.claims ≡ n
  pub claim_width : (p : ℕ) → p < length bank.claims → length (row_of bank.claims p) ≡ length bank.capital
  pub small : (r : ℕ) → r < length bank.capital → get_or bank.capital r 0 ≤ 1000000
  pub claims_fit : (p r : ℕ) → p < length bank.claims → r < length bank.capital
      → cell bank.claims p r ≤ get_or bank.capital r 0

pub sound_opening : {X : Type 0} (bank : Bank) (xs : List X) → IsFairBank bank (length xs)
    → IsSound bank (map (λ (x : X). replicate (length bank.capital) 0) xs)
sound_opening {X = X} bank xs fair =
    let n : ℕ = length bank.capital in
    let loans : Table = map (λ (x : X). replicate n 0) xs in
    let s : BankerState = banker_state bank loans in
    let rows = fair.all_claims in
    let few = fair.few_processes in
    let len : length loans ≡ length xs = length-map xs (λ (x : X). replicate n 0) in
    let none : (r : ℕ) → held_by s (everyone s) r ≡ 0 =
    λ r. sum_by-zero_on (λ p. loan s p r) (everyone s) (λ k d u. zero_loans n xs (get_or (everyone s) k d) r)
    in
    record {
      formed = record {
        few_processes = omega (arith, rows, few);
        few_resources = fair.few_resources;
        all_loans = len ∙ sym rows;
        claim_width = fair.claim_width;
        loan_width = λ p u. zero_rows n xs p (omega (arith, u, rows));
        small = fair.small;
        claims_fit = fair.claims_fit;
        loans_fit = λ p r u v. let z = zero_loans n xs p r in omega (arith, z);
        lent = λ r u. let z = none r in omega (arith, z);
      };
      safe = (
        everyone s,
        record {
          everyone = IsPermutation-refl (everyone s);
          fits = λ k u. record {
            each = λ r v.
                let p : ℕ = get_or (everyone s) k 0 in
                let below : p < 0 + length bank.claims = range_below 0 (length bank.claims) k 0 u in
                let c : cell bank.claims p r ≤ get_or bank.capital r 0 =
                fair.claims_fit p r (omega (arith, below)) v
                in
                let z = none r in
                omega (arith, c, z);
          };
        },
      );
    }
