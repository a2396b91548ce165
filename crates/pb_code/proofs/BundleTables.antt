-- Instructions that name bundles, while more bundles come after.
use Rattle.std.proofs.Common.{◌≡◌, ℕ, suc, ◌<◌, ◌≤◌, List, [], ◌∷◌, ◌++◌, length, get_or, map, refl, ap, ◌∙◌, arith}
use Rattle.std.proofs.Common.{All}
use Rattle.std.proofs.lemmas.List.{length-append, get_or_append_left}
use Rattle.pb_base.specs.declared.pair.Pair.{Pair}
use Rattle.pb_code.specs.declared.instr.Instr.{Instr as Given}
use Rattle.pb_code.specs.declared.instr.Instr.TheVariants as given
use Rattle.pb_code.specs.Code.{Instr, Take, Give}
use Rattle.pb_code.specs.View.{instr_view}
use Rattle.pb_code.specs.Bundles.{IsPlain, NamesBelow, Extends}

get_before : (xs more : List (List Pair)) (k : ℕ) → k < length xs → get_or (xs ++ more) k [] ≡ get_or xs k []
get_before xs more k lt = get_or_append_left xs more [] k lt

-- a plain instruction is the same with any bundles
pub plain_same : (xs ys : List (List Pair)) (i : Given) → IsPlain i → instr_view xs i ≡ instr_view ys i
plain_same xs ys (given.Take k) h = absurd h
plain_same xs ys (given.Give k) h = absurd h
plain_same xs ys (given.Push v) h = refl
plain_same xs ys i h = refl

pub plain_names : (n : ℕ) (i : Given) → IsPlain i → NamesBelow n i
plain_names n (given.Take k) h = absurd h
plain_names n (given.Give k) h = absurd h
plain_names n i h = tt

same_after : (xs more : List (List Pair)) (i : Given) → NamesBelow (length xs) i → instr_view (xs ++ more) i ≡ instr_view xs i
same_after xs more (given.Take k) h = ap Take (get_before xs more k h)
same_after xs more (given.Give k) h = ap Give (get_before xs more k h)
same_after xs more i h = refl

-- instructions keep what they do
pub views_kept : (xs ys : List (List Pair)) (is : List Given) → Extends xs ys → All (NamesBelow (length xs)) is → map
    (instr_view ys) is ≡ map (instr_view xs) is
views_kept xs ys [] e h = refl
views_kept xs ys (i ∷ is) e h =
    let one : instr_view ys i ≡ instr_view xs i = ap (λ (zs : List (List Pair)). instr_view zs i) e.1 ∙ same_after xs e.0 i (h 0 i (omega arith)) in
    let others = views_kept xs ys is e (λ k d lt. h (suc k) d (omega arith)) in
    ap (λ (j : Instr). j ∷ map (instr_view ys) is) one ∙ ap (λ (l : List Instr). instr_view xs i ∷ l) others

below_more : (n m : ℕ) (i : Given) → n ≤ m → NamesBelow n i → NamesBelow m i
below_more n m (given.Take k) le h = omega (arith, h)
below_more n m (given.Give k) le h = omega (arith, h)
below_more n m i le h = tt

pub names_kept : (xs ys : List (List Pair)) (is : List Given) → Extends xs ys → All (NamesBelow (length xs)) is → All (NamesBelow (length ys)) is
names_kept xs ys is e h =
    let more : length xs ≤ length ys = omega (arith, ap (λ (l : List (List Pair)). length l) e.1, length-append xs e.0) in
    λ k d lt. below_more (length xs) (length ys) (get_or is k d) more (h k d lt)
