use Rattle.std.proofs.Common.{◌≡◌, Bool, ℕ, false, [], take, length, arith, sym, refl, ap, ◌∙◌, replicate}
use Rattle.std.proofs.lemmas.Bool.{false≢true}
use Rattle.std.proofs.lemmas.List.{length-replicate}
use Rattle.std.proofs.lemmas.List.Sorted.{IsPermutation-refl}
use Rattle.pb_base.specs.Banker.{BankerState, Finishes}
use Rattle.pb_banker.specs.Value.{start_state}
use Rattle.pb_banker.proofs.KeptOrders.{Finishes-of}
use Rattle.pb_banker.proofs.KeptSlots.{none_used}
use Rattle.pb_c_bank.proofs.exports.pb_bank_new.Goals as goal

pub returns : goal.returns
returns c =
    let start : Finishes (start_state c.args.capital.now []) (take 0 (replicate {A = ℕ} 64 0)) =
    record { everyone = IsPermutation-refl []; fits = λ k l. absurd (omega (arith, l)) } in
    record {
      made = λ is. (
        refl,
        record {
          sound = c.open-accounts.ensures.sound;
          finishes = Finishes-of c.open-accounts.result (start_state c.args.capital.now []) 0 (replicate {A = ℕ} 64 0)
              c.open-accounts.ensures.state c.open-accounts.ensures.processes start;
          long = (let e : length (replicate {A = Bool} 64 false) ≡ 64 = length-replicate {A = Bool} 64 false in omega (arith, e));
          rows = λ p u. absurd (false≢true (sym (none_used p) ∙ u));
          free = λ p r l fresh lr. (let z = c.open-accounts.ensures.processes in absurd (omega (arith, z, l)));
        },
        ap (λ (s : BankerState). record { state = s; used = replicate {A = Bool} 64 false }) c.open-accounts.ensures.state,
      );
      refused = λ no. absurd (no (c.if-not-is_capital.ensures.0 refl));
    }
