-- Texts that a voice is told one after another.
use Rattle.std.proofs.Common.{◌≡◌, ◌++◌, ◌+◌, ◌<◌, ◌≤◌, ℕ, List, [], length, take, drop, get_or, refl, sym, ap, ◌∙◌, subst, append-nil, arith}
use Rattle.std.specs.List.{flat_map, zip}
use Rattle.std.proofs.lemmas.Slice.Zip.{get_or-zip, length-zip}
use Rattle.std.proofs.lemmas.List.{get_or_default, take_all}
use Rattle.pb_voice.proofs.ListLemmas.{one_further, with_the_rest}
use Rattle.pb_base.specs.Device.{one_more_failure}
use Rattle.pb_command_io.specs.Answers.{Leaves}
use Rattle.pb_command_io.proofs.PageLemmas.{Leaves-more, AddsPrefix-more, AddsPrefix-shorter, leaves_all}
use Rattle.pb_voice.specs.Held.{At, Held}
use Rattle.pb_voice.specs.Voices.{Adds, Breaks}

pub adds_nothing : (s : At Held) → Adds s [] s
adds_nothing s = record {
  form = refl;
  leaves = subst (λ (t : List ℕ). Leaves s.written s.written t s.teller.waits) (sym (append-nil s.teller.waits)) (leaves_all s.written s.teller.waits);
  counted = refl;
}

pub adds_more : (a b c : At Held) (x y : List ℕ) → Adds a x b → Adds b y c → Adds a (x ++ y) c
adds_more a b c x y first later = record {
  form = later.form ∙ first.form;
  leaves = Leaves-more a.written b.written c.written a.teller.waits x y b.teller.waits c.teller.waits first.leaves later.leaves;
  counted = later.counted ∙ first.counted;
}

pub breaks_later : (a b c : At Held) (x y : List ℕ) → Adds a x b → Breaks b y c → Breaks a (x ++ y) c
breaks_later a b c x y first later = record {
  form = later.form ∙ first.form;
  prefix = AddsPrefix-more a.written b.written c.written a.teller.waits x y b.teller.waits first.leaves later.prefix;
  given_up = later.given_up;
  counted = later.counted ∙ ap one_more_failure first.counted;
}

pub breaks_sooner : (a b : At Held) (x y : List ℕ) → Breaks a x b → Breaks a (x ++ y) b
breaks_sooner a b x y broken = record {
  form = broken.form;
  prefix = AddsPrefix-shorter a.written b.written a.teller.waits x y broken.prefix;
  given_up = broken.given_up;
  counted = broken.counted;
}

-- the texts of the first elements of a list, and of one more
module _ {X : Type 0} (f : X → List ℕ) (xs : List X) (i : ℕ) (d : X) (within : i < length xs) (a b c : At Held)
    (first : Adds a (flat_map f (take i xs)) b) where
  at_i : get_or xs i (get_or xs i d) ≡ get_or xs i d
  at_i = get_or_default xs i (get_or xs i d) d within

  pub element_added : Adds b (f (get_or xs i d)) c → Adds a (flat_map f (take (i + 1) xs)) c
  element_added step =
      subst (λ (l : List ℕ). Adds a l c) (one_further f xs i (get_or xs i d) within at_i) (adds_more a b c (flat_map f (take i xs)) (f (get_or xs i d)) first step)

  pub element_broken : Breaks b (f (get_or xs i d)) c → Breaks a (flat_map f xs) c
  element_broken step =
      subst (λ (l : List ℕ). Breaks a l c) (with_the_rest f xs i (get_or xs i d) within at_i)
      (breaks_sooner a c (flat_map f (take i xs) ++ f (get_or xs i d)) (flat_map f (drop (i + 1) xs))
      (breaks_later a b c (flat_map f (take i xs)) (f (get_or xs i d)) first step))

-- the texts of all elements
pub elements_added : {X : Type 0} (f : X → List ℕ) (xs : List X) (i : ℕ) (a b : At Held) → length xs ≤ i → Adds a (flat_map f (take i xs)) b
    → Adds a (flat_map f xs) b
elements_added f xs i a b end added = subst (λ (l : List ℕ). Adds a l b) (ap (flat_map f) (take_all i xs end)) added

-- the texts of pairs, and of one more
module _ {X Y : Type 0} (f : X × Y → List ℕ) (xs : List X) (ys : List Y) (i : ℕ) (d : X) (e : Y) (in_xs : i < length xs) (in_ys : i < length ys)
    (a b c : At Held) (first : Adds a (flat_map f (take i (zip xs ys))) b) where
  in_both : i < length (zip xs ys)
  in_both = let n = length-zip xs ys in omega (arith, n, in_xs, in_ys)

  pair_at : get_or (zip xs ys) i (d, e) ≡ (get_or xs i d, get_or ys i e)
  pair_at = get_or-zip xs ys i (d, e) in_xs in_ys

  pub pair_added : Adds b (f (get_or xs i d, get_or ys i e)) c → Adds a (flat_map f (take (i + 1) (zip xs ys))) c
  pair_added step =
      element_added f (zip xs ys) i (d, e) in_both a b c first (subst (λ (p : X × Y). Adds b (f p) c) (sym pair_at) step)

  pub pair_breaks : Breaks b (f (get_or xs i d, get_or ys i e)) c → Breaks a (flat_map f (zip xs ys)) c
  pair_breaks step =
      element_broken f (zip xs ys) i (d, e) in_both a b c first (subst (λ (p : X × Y). Breaks b (f p) c) (sym pair_at) step)
