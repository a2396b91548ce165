-- Bundles: what is read is what is spelled.
use Rattle.std.proofs.Common.{◌≡◌, ◌≢◌, ℕ, ◌+◌, ◌*◌, ◌^◌, ◌<◌, ◌≤◌, Bool, true, false, cond, ◌&&◌, ltb, List, [], ◌∷◌}
use Rattle.std.proofs.Common.{length, refl, sym, ap, subst, ◌∙◌, arith}
use Rattle.std.specs.Str.{bytes_eq}
use Rattle.std.specs.Str.Parse.{digits_value}
use Rattle.std.specs.Fmt.{decimal}
use Rattle.std.specs.List.{AllByRecursion}
use Rattle.std.proofs.lemmas.Bool.{ltb-true, lt-ltb}
use Rattle.std.proofs.lemmas.Slice.Eq.{bytes_eq-Decides}
use Rattle.std.proofs.lemmas.Fmt.{digits_value-decimal}
use Rattle.pb_base.specs.declared.pair.Pair.{Pair}
use Rattle.pb_base.proofs.Cases.{both_true}
use Rattle.pb_object.specs.declared.words.Verdict.{Verdict}
use Rattle.pb_object.specs.declared.words.Verdict.TheVariants.{Malformed, Read}
use Rattle.pb_code.specs.declared.format.Format.{Format}
use Rattle.pb_code.specs.Names.{Word}
use Rattle.pb_object.specs.Words.{paired, mapped}
use Rattle.pb_object.specs.Instructions.{names_resource, pair_of, pairs_of, most_pairs, bundle_of, pair_words}
use Rattle.pb_object.specs.Ranges.{IsPair, ArePairs, IsBundle}
use Rattle.pb_code.proofs.NumeralLemmas.{own}
use Rattle.pb_object.proofs.Numbers.{none_of, number_again}
use Rattle.pb_code.proofs.NameTests.{false_from}
use Rattle.pb_object.proofs.LineLemmas.{AreWords}
use Rattle.pb_object.proofs.Verdicts.{mapped_read, paired_read, guard_read}
use Rattle.pb_object.proofs.LineForms.{decimal_clean}
use Rattle.pb_object.proofs.Pairs.{pair_takes}

-- two numerals that are written alike are the same number
pub decimal_same : (a b : ℕ) → a < 2 ^ 64 → b < 2 ^ 64 → decimal a ≡ decimal b → a ≡ b
decimal_same a b sa sb e = sym (digits_value-decimal own a sa) ∙ ap (digits_value 10) e ∙ digits_value-decimal own b sb

pub length_pair_words : (ps : List Pair) → length (pair_words ps) ≡ 2 * length ps
length_pair_words [] = refl
length_pair_words (p ∷ ps) = (let e = length_pair_words ps in omega (arith, e))

-- ---- no resource twice

apart_from : (n : ℕ) (ps : List Pair) → names_resource (pair_words ps) (decimal n) ≡ false → AllByRecursion (λ q. q.resource ≢ n) ps
apart_from n [] h = tt
apart_from n (q ∷ ps) h =
    let s = none_of (bytes_eq (decimal q.resource) (decimal n)) (names_resource (pair_words ps) (decimal n)) h in (
      (λ same. let is : bytes_eq (decimal q.resource) (decimal n) ≡ true = (bytes_eq-Decides (decimal q.resource)
          (decimal n)).1 (ap decimal same) in let other = s.0 in cc),
      apart_from n ps s.1,
    )

apart_to : (n : ℕ) (ps : List Pair) → n ≤ 15 → ArePairs ps → AllByRecursion (λ q. q.resource ≢ n) ps → names_resource (pair_words ps) (decimal n) ≡ false
apart_to n [] small good h = refl
apart_to n (q ∷ ps) small good h =
    let other : bytes_eq (decimal q.resource) (decimal n) ≡ false =
    false_from _ (λ is. h.0 (decimal_same q.resource n (let r = good.0.resource in omega arith) (omega arith)
    ((bytes_eq-Decides (decimal q.resource) (decimal n)).0 is))) in
    rw (other, apart_to n ps small good.2 h.1) refl

-- ---- pairs

new_read : {A : Type 0} (b : Bool) (v : Verdict A) (x : A) → cond b Malformed v ≡ Read x → (b ≡ false) × (v ≡ Read x)
new_read true v x e = absurd cc
new_read false v x e = (refl, e)

pairs_takes : (ws : List Word) (ps : List Pair) → pairs_of ws ≡ Read ps → (ws ≡ pair_words ps) × ArePairs ps
unfolding pairs_of
pairs_takes [] ps e =
    let same : [] ≡ ps = cc in
    subst (λ (l : List Pair). ([] ≡ pair_words l) × ArePairs l) same (refl, tt)
pairs_takes (r ∷ []) ps e = absurd cc
pairs_takes (r ∷ k ∷ ws) ps e =
    let cons : Pair × List Pair → List Pair = λ p. p.0 ∷ p.1 in
    let g = new_read (names_resource ws r) (mapped cons (paired (pair_of r k) (pairs_of ws))) ps e in
    let m = mapped_read cons (paired (pair_of r k) (pairs_of ws)) ps g.1 in
    let q = paired_read (pair_of r k) (pairs_of ws) m.0 m.1 in
    let first = pair_takes r k m.0.0 q.0 in
    let others = pairs_takes ws m.0.1 q.1 in
    let apart : names_resource (pair_words m.0.1) (decimal m.0.0.resource) ≡ false =
    sym (ap (λ (l : List Word). names_resource l (decimal m.0.0.resource)) others.0) ∙ sym (ap (names_resource ws) first.0) ∙ g.0 in
    subst (λ (l : List Pair). (r ∷ k ∷ ws ≡ pair_words l) × ArePairs l) m.2 (
      (let a = first.0 in let b = first.1 in let d = others.0 in cc),
      (record { resource = (let b = first.2 in omega (arith, b)); some = first.3; amount = first.4 }, apart_from m.0.0.resource m.0.1 apart, others.1),
    )

pair_again : (p : Pair) → IsPair p → pair_of (decimal p.resource) (decimal p.amount) ≡ Read p
pair_again p good = rw (
  number_again 0 15 p.resource (omega arith) (omega arith) (let b = good.resource in omega (arith, b)),
  number_again 1 1000000
      p.amount (omega arith) good.some good.amount,
) refl

pairs_again : (ps : List Pair) → ArePairs ps → pairs_of (pair_words ps) ≡ Read ps
unfolding pairs_of
pairs_again [] good = refl
pairs_again (p ∷ ps) good =
    rw (
      apart_to p.resource ps (let b = good.0.resource in omega (arith, b)) good.2 good.1,
      pair_again p good.0,
      pairs_again ps good.2,
    ) refl

pairs_clean : (ps : List Pair) → ArePairs ps → AreWords (pair_words ps)
pairs_clean [] good = tt
pairs_clean (p ∷ ps) good =
    (decimal_clean p.resource (let h = good.0.resource in omega arith), (decimal_clean p.amount (let h = good.0.amount in omega arith), pairs_clean ps good.2))

-- ---- bundles

bound : (words pairs most : ℕ) → words ≡ 2 * pairs → words < 2 * most + 1 → pairs ≤ most
bound words pairs most e h = omega arith

below : (words pairs most : ℕ) → words ≡ 2 * pairs → pairs ≤ most → words < 2 * most + 1
below words pairs most e h = omega arith

pub bundle_takes : (format : Format) (ws : List Word) (ps : List Pair) → bundle_of format ws ≡ Read ps → (ws ≡ pair_words ps) × IsBundle (most_pairs format) ps
unfolding bundle_of
bundle_takes format ws ps e =
    let g = guard_read (ltb 0 (length ws) && ltb (length ws) (2 * most_pairs format + 1)) (pairs_of ws) ps e in
    let s = both_true (ltb 0 (length ws)) (ltb (length ws) (2 * most_pairs format + 1)) g.0 in
    let t = pairs_takes ws ps g.1 in
    let count : length ws ≡ 2 * length ps = ap (λ (l : List Word). length l) t.0 ∙ length_pair_words ps in
    let low : 0 < length ws = ltb-true _ _ s.0 in
    let high : length ws < 2 * most_pairs format + 1 = ltb-true _ _ s.1 in
    (t.0, record { some = omega (arith, count, low); few = bound (length ws) (length ps) (most_pairs format) count high; pairs = t.1 })

pub bundle_again : (format : Format) (ps : List Pair) → IsBundle (most_pairs format) ps → bundle_of format (pair_words ps) ≡ Read ps
unfolding bundle_of
bundle_again format ps good =
    let count = length_pair_words ps in
    let low : ltb 0 (length (pair_words ps)) ≡ true = lt-ltb _ _ (let h = good.some in omega (arith, count, h)) in
    let high : ltb (length (pair_words ps)) (2 * most_pairs format + 1) ≡ true = lt-ltb _ _ (below (length (pair_words
    ps)) (length ps) (most_pairs format) count good.few) in
    rw (low, high, pairs_again ps good.pairs) refl

pub bundle_clean : (format : Format) (ps : List Pair) → IsBundle (most_pairs format) ps → AreWords (pair_words ps)
bundle_clean format ps good = pairs_clean ps good.pairs
