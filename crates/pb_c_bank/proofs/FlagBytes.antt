-- Flags as bytes.
use Rattle.std.proofs.Common.{◌≡◌, ◌<◌, ℕ, zero, suc, Bool, true, false, not, nat_eq, List, [], ◌∷◌, get_or, length, refl}
use Rattle.std.proofs.Common.{sym, ◌∙◌, arith}
use Rattle.std.proofs.lemmas.List.{length-map, ext_get_or}
use Rattle.pb_banker.specs.Jobs.{IsUsed}
use Rattle.pb_c_bank.specs.Banks.{flags, is_set}

pub flag_at : (bytes : List ℕ) (p : ℕ) → get_or (flags bytes) p false ≡ is_set (get_or bytes p 0)
flag_at [] p = refl
flag_at (b ∷ bytes) zero = refl
flag_at (b ∷ bytes) (suc p) = flag_at bytes p

-- a byte that is not 0
pub used_at : (bytes : List ℕ) (p : ℕ) → not (nat_eq (get_or bytes p 0) 0) ≡ true → IsUsed (flags bytes) p
used_at bytes p u = flag_at bytes p ∙ u

-- flags that are set as the bytes say
pub same_flags : (bytes : List ℕ) (set : List Bool) (n : ℕ) → length bytes ≡ n → length set ≡ n
    → ((k : ℕ) → k < n → is_set (get_or bytes k 0) ≡ get_or set k false) → flags bytes ≡ set
same_flags bytes set n few many same =
    let e : length (flags bytes) ≡ length bytes = length-map bytes is_set in
    ext_get_or false (flags bytes) set (e ∙ few ∙ sym many)
    (λ k l. flag_at bytes k ∙ same k (omega (arith, e, few, l)))
