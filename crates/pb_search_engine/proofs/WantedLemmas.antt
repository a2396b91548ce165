-- Prints that are compared with those that are wanted.
use Rattle.std.proofs.Common.{◌≡◌, ◌≢◌, ℕ, suc, ◌+◌, ◌<◌, ◌≤◌, Bool, true, false, ◌&&◌, cond, map, List, [], ◌∷◌, ◌++◌}
use Rattle.std.proofs.Common.{length, length-append, append-nil, get_or, drop, take, refl, sym, ap, subst, ◌∙◌, arith, Some}
use Rattle.std.specs.Prelude.{ℤ, All, IsTrue, slice_get, ◌==◌}
use Rattle.std.specs.Bool.{Decides}
use Rattle.std.specs.List.{remove, sum_by}
use Rattle.std.specs.List.Sorted.{IsPermutation}
use Rattle.std.specs.Ordering.{int_eq}
use Rattle.std.proofs.lemmas.Bool.Decides.{Decides-and, Decides-eqb, Decides-int_eq, Decides-like}
use Rattle.std.proofs.lemmas.List.{drop_more, get_or-map, length-map, take-append-drop, take_all, take_more}
use Rattle.std.proofs.lemmas.List.Elements.{All-push}
use Rattle.std.proofs.lemmas.Option.{get_or_from_slice_get, slice_get_within}
use Rattle.std.proofs.lemmas.List.Sorted.{IsPermutation-more, length_permutation, sum_by-IsPermutation}
use Rattle.std.proofs.lemmas.List.Sums.{sum_by-append, sum_by-cons}
use Rattle.pb_search_stages.specs.declared.print.Print.{Print}
use Rattle.pb_search.specs.Outcomes.{Found, found_view, process_outcome_view}
use Rattle.pb_search.specs.declared.found.Found.{Found as GivenFound}
use Rattle.pb_search.specs.declared.found.ProcessOutcome.{ProcessOutcome as GivenOutcome}
use Rattle.pb_search_engine.specs.Expected.{ArePrints, HasNoFault, IsFirstOther, IsWanted}
use Rattle.pb_search_stages.specs.Reaching.{ProcessOutcome}

-- what `==` computes of two prints
abbrev pub same_print : Print → Print → Bool
same_print a b = ((a.pick.process == b.pick.process) && (a.pick.arm == b.pick.arm)) && int_eq a.value b.value

print_of : ℕ → ℕ → ℤ → Print
print_of process arm value = record { pick = record { process = process; arm = arm }; value = value }

pub same_decides : (a b : Print) → Decides (same_print a b) (a ≡ b)
unfolding print_of
same_decides a b =
    Decides-like (same_print a b)
    (λ h. ap (λ n. print_of n a.pick.arm a.value) h.0.0 ∙ (ap (λ n. print_of b.pick.process n a.value) h.0.1
    ∙ ap (λ v. print_of b.pick.process b.pick.arm v) h.1))
    (λ e. ((ap (λ (p : Print). p.pick.process) e, ap (λ (p : Print). p.pick.arm) e), ap (λ (p : Print). p.value) e))
    (Decides-and ((a.pick.process == b.pick.process) && (a.pick.arm == b.pick.arm)) (int_eq a.value b.value)
    (Decides-and (a.pick.process == b.pick.process) (a.pick.arm == b.pick.arm) (Decides-eqb a.pick.process b.pick.process)
    (Decides-eqb a.pick.arm b.pick.arm))
    (Decides-int_eq a.value b.value))

-- 1 for this print, and 0 for others
times : Print → Print → ℕ
times p q = cond (same_print p q) 1 0

one_time : (p : Print) → times p p ≡ 1
unfolding times
one_time p = ap (λ b. cond b 1 0) ((same_decides p p).1 refl)

no_time_at : (p q : Print) (b : Bool) → same_print p q ≡ b → (p ≡ q → ⊥) → times p q ≡ 0
unfolding times
no_time_at p q true is other = absurd (other ((same_decides p q).0 is))
no_time_at p q false is other = ap (λ b. cond b 1 0) is

no_time : (p q : Print) → (p ≡ q → ⊥) → times p q ≡ 0
no_time p q other = no_time_at p q (same_print p q) refl other

-- a print that is not in a list is there no time
not_there : (p : Print) (xs : List Print) → ((at : ℕ) → slice_get xs at ≢ Some p) → sum_by (times p) xs ≡ 0
not_there p [] none = refl
not_there p (x ∷ xs) none =
    let first = no_time p x (λ e. none 0 (ap Some (sym e))) in
    let more = not_there p xs (λ at. none (suc at)) in
    let all = sum_by-cons (times p) x xs in
    omega (arith, first, more, all)

-- if one that is next is not among those that are left, the prints are not the wanted ones
pub not_permuted : (wanted done left rest : List Print) (p : Print) → IsPermutation wanted (done ++ left)
    → ((at : ℕ) → slice_get left at ≢ Some p) → IsPermutation wanted (done ++ p ∷ rest) → ⊥
not_permuted wanted done left rest p h none g =
    let a = sum_by-IsPermutation (times p) wanted (done ++ left) h in
    let b = sum_by-IsPermutation (times p) wanted (done ++ p ∷ rest) g in
    let c = sum_by-append (times p) done left in
    let d = sum_by-append (times p) done (p ∷ rest) in
    let e = not_there p left none in
    let f = one_time p in
    let s = sum_by-cons (times p) p rest in
    omega (arith, a, b, c, d, e, f, s)

empty_is : (xs : List Print) → length xs ≡ 0 → xs ≡ []
empty_is [] e = refl
empty_is (x ∷ xs) e = absurd (omega (arith, e))

-- when all prints were found, none is left
pub nothing_left : (wanted prints left : List Print) (i : ℕ) → length wanted ≡ length prints → length prints ≤ i
    → IsPermutation wanted (take i prints ++ left) → IsPermutation wanted prints
nothing_left wanted prints left i same end h =
    let all : take i prints ≡ prints = take_all i prints (omega arith) in
    let whole : IsPermutation wanted (prints ++ left) = subst (λ (l : List Print). IsPermutation wanted (l ++ left)) all h in
    let long = length_permutation wanted (prints ++ left) whole in
    let sum = length-append prints left in
    let none : length left ≡ 0 = omega (arith, same, long, sum) in
    subst (IsPermutation wanted) (ap (λ (l : List Print). prints ++ l) (empty_is left none) ∙ append-nil prints) whole

-- one print more was found, and is no longer left
pub more_found : (wanted prints left after : List Print) (i at : ℕ) (d : Print) → i < length prints
    → slice_get left at ≡ Some (get_or prints i d) → after ≡ remove left at → IsPermutation wanted (take i prints ++ left)
    → IsPermutation wanted (take (i + 1) prints ++ after)
more_found wanted prints left after i at d within there removed h =
    let x = get_or prints i d in
    let lt = slice_get_within left at x there in
    let same = get_or_from_slice_get left at x x there in
    let whole = IsPermutation-more wanted (take i prints) left at x lt (sym same) h in
    subst (λ (l : List Print). IsPermutation wanted (l ++ after)) (sym (take_more prints i d within))
    (subst (λ (l : List Print). IsPermutation wanted ((take i prints ++ x ∷ []) ++ l)) (sym removed) whole)

-- one print more is not among those that are left
pub not_found : (wanted prints left : List Print) (i : ℕ) (d : Print) → i < length prints
    → ((at : ℕ) → slice_get left at ≢ Some (get_or prints i d)) → IsPermutation wanted (take i prints ++ left)
    → IsPermutation wanted prints → ⊥
not_found wanted prints left i d within none h all =
    let x = get_or prints i d in
    let parts : prints ≡ take i prints ++ x ∷ drop (i + 1) prints =
    sym (take-append-drop i prints) ∙ ap (λ (l : List Print). take i prints ++ l) (drop_more prints i d within) in
    not_permuted wanted (take i prints) left (drop (i + 1) prints) x h none (subst (IsPermutation wanted) parts all)

pub not_so : IsTrue false → ⊥
not_so is = cc

-- what holds of one more holds of all up to it
pub all_more : {A B : Type 0} (view : A → B) (Q : B → Type 0) (xs : List A) (i : ℕ) (x : A) → i < length xs → x ≡ get_or xs i x
    → All Q (take i (map view xs)) → Q (view x) → All Q (take (i + 1) (map view xs))
all_more view Q xs i x within at before one =
    let views = map view xs in
    let size = length-map xs view in
    let there = get_or-map view xs i x (view x) within ∙ ap view (sym at) in
    subst (All Q) (ap (λ g. take i views ++ g ∷ []) (sym there) ∙ sym (take_more views i (view x) (omega (arith, within, size))))
    (All-push Q (take i views) (view x) before one)

-- and what holds of all up to the end holds of all
pub all_there : {A B : Type 0} (view : A → B) (Q : B → Type 0) (xs : List A) (i : ℕ) → length xs ≤ i → All Q (take i (map view xs)) → All Q (map view xs)
all_there view Q xs i end before =
    let size = length-map xs view in
    subst (All Q) (take_all i (map view xs) (omega (arith, end, size))) before

-- where a process has faulted it is not so that none has
pub has_faulted : (outcome : List GivenOutcome) (p : ℕ) (x : GivenOutcome) → p < length outcome → x ≡ get_or outcome p x → x.faulted ≡ true
    → HasNoFault (map process_outcome_view outcome) → ⊥
has_faulted outcome p x within at faulted none =
    let size = length-map outcome process_outcome_view in
    let here = none p (process_outcome_view x) (omega (arith, within, size)) in
    let same : (get_or (map process_outcome_view outcome) p (process_outcome_view x)).faulted ≡ x.faulted =
    ap (λ o. o.faulted) (get_or-map process_outcome_view outcome p x (process_outcome_view x) within ∙ ap process_outcome_view (sym at)) in
    let both : true ≡ false = sym faulted ∙ (sym same ∙ here) in
    cc

-- the first that is not wanted
pub first_is : (any_order : Bool) (wanted : List Print) (found : List GivenFound) (i : ℕ) (x : GivenFound) → i < length found
    → x ≡ get_or found i x → (IsWanted any_order wanted (found_view x).outcome → ⊥)
    → All (λ f. IsWanted any_order wanted f.outcome) (take i (map found_view found))
    → IsFirstOther any_order wanted (map found_view found) i
first_is any_order wanted found i x within at other before =
    let size = length-map found found_view in
    let inside : i < length (map found_view found) = omega (arith, within, size) in
    let there = get_or-map found_view found i x (found_view x) within ∙ ap found_view (sym at) in
    record {
      there = inside;
      other = λ f is h.
          let same : f ≡ found_view x = sym (get_or_from_slice_get (map found_view found) i f (found_view x) is) ∙ there in
          other (subst (λ (g : Found). IsWanted any_order wanted g.outcome) same h);
      before = before;
    }

-- prints that are compared one by one
pub listed : (any_order : Bool) (wanted prints shown : List Print) (processes : List ProcessOutcome) (r : Bool) → any_order ≡ false
    → HasNoFault processes → shown ≡ prints → Decides r (shown ≡ wanted)
    → (IsTrue r → HasNoFault processes × ArePrints any_order wanted prints)
    × (IsWanted any_order wanted (record { processes = processes; prints = prints }) → IsTrue r)
listed any_order wanted prints shown processes r in_order none same decides = (
  λ is. (none, subst (λ (b : Bool). ArePrints b wanted prints) (sym in_order) (sym same ∙ decides.0 is)),
  λ is. decides.1 (same ∙ subst (λ (b : Bool). ArePrints b wanted prints) in_order is.1),
)
