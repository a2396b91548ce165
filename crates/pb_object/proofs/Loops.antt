-- Reading parts one after the other, as a loop does.
use Rattle.std.proofs.Common.{◌≡◌, ℕ, suc, ◌-◌, ◌+◌, ◌≤◌, ◌<◌, List, [], ◌∷◌, ◌++◌, Result, Ok, Err, refl, sym, ◌∙◌}
use Rattle.std.proofs.Common.{arith}
use Rattle.pb_object.specs.declared.fault.Fault.{Fault}
use Rattle.pb_object.specs.declared.fault.ReadError.{ReadError}
use Rattle.pb_object.specs.declared.fault.ReadError.TheVariants as errors
use Rattle.pb_object.specs.Lines.{Fails, many}

pub goes_on : {X : Type 0} (part : List X → List ℕ → Result (X × List ℕ) Fault) (front : List X) (count i : ℕ) (text :
    List ℕ) (x : X) (after : List ℕ) (total : Result (List X × List ℕ) Fault)
    → i < count → part front text ≡ Ok (x, after) → many part front (count - i) text ≡ total → many part (front ++ x ∷ []) (count - (i + 1)) after ≡ total
unfolding many
goes_on part front count i text x after total lt h so_far =
    let k : count - i ≡ suc (count - (i + 1)) = omega arith in
    let one : many part front (count - i) text ≡ many part (front ++ x ∷ []) (count - (i + 1)) after = rw (k, h) refl in
    sym one ∙ so_far

pub ends : {X : Type 0} (part : List X → List ℕ → Result (X × List ℕ) Fault) (e : ReadError) (front : List X) (count i
    : ℕ) (text : List ℕ) (total : Result (List X × List ℕ) Fault)
    → i < count → Fails e (part front text) → many part front (count - i) text ≡ total → Fails e total
unfolding many
ends part errors.Memory front count i text total lt h so_far = tt
ends part (errors.Fault f) front count i text total lt h so_far =
    let k : count - i ≡ suc (count - (i + 1)) = omega arith in
    let one : many part front (count - i) text ≡ Err f = rw (k, h) refl in
    sym so_far ∙ one

pub is_done : {X : Type 0} (part : List X → List ℕ → Result (X × List ℕ) Fault) (front : List X) (count i : ℕ) (text :
    List ℕ) (total : Result (List X × List ℕ) Fault)
    → count ≤ i → many part front (count - i) text ≡ total → total ≡ Ok (front, text)
unfolding many
is_done part front count i text total le so_far =
    let k : count - i ≡ 0 = omega arith in
    let one : many part front (count - i) text ≡ Ok (front, text) = rw k refl in
    sym so_far ∙ one
