-- Words that name changes, one after another.
use Rattle.std.proofs.Common.{◌≡◌, ◌≢◌, ◌∙◌, Bor, ℕ, zero, suc, ◌+◌, ◌<◌, true, false, Option, None, Some, IfNone, List, [], ◌∷◌, ◌++◌, length, get_or, map, take, ap, sym, subst, arith}
use Rattle.std.specs.List.{AllZip}
use Rattle.std.specs.Str.{bytes_eq}
use Rattle.std.proofs.lemmas.List.{get_or-map, get_or-take, get_or_default, length-map, length-take-le, length_push, map-append, take_more}
use Rattle.std.proofs.lemmas.List.Folds.{Any-from_list_any, list_any_at}
use Rattle.std.proofs.lemmas.List.Quantifiers.{all_pairs_push}
use Rattle.std.proofs.lemmas.Slice.Eq.{bytes_eq-Decides}
use Rattle.std.proofs.lemmas.Slice.Zip.{AllZip-long, all_zipped_more}
use Rattle.pb_capitals.specs.Changes.{AreChanges, IsChange, Word, name_part, names}
use Rattle.pb_capitals.specs.declared.change.Change.{Change}

-- what holds of two lists holds at each place
zip_at : {A B : Type 0} (R : A → B → Type 0) (xs : List A) (ys : List B) (k : ℕ) (d : A) (e : B) → AllZip R xs ys
    → k < length xs → R (get_or xs k d) (get_or ys k e)
zip_at R [] ys k d e all lt = absurd (omega (arith, lt))
zip_at R (x ∷ xs) [] k d e all lt = absurd all
zip_at R (x ∷ xs) (y ∷ ys) zero d e all lt = all.0
zip_at R (x ∷ xs) (y ∷ ys) (suc k) d e all lt = zip_at R xs ys k d e all.1 (omega (arith, lt))

-- the first words of some are read, and so is the next, of another resource
pub one_more : (words : List Word) (word : Word) (changes : List Change) (change : Change) → AreChanges words changes
    → length words < 16 → IsChange word change → names changes change.resource.bytes ≡ false
    → AreChanges (words ++ word ∷ []) (changes ++ change ∷ [])
one_more words word changes change are room is new = record {
  each = all_zipped_more IsChange words changes word change are.each is;
  few = (let more = length_push words word in omega (arith, more, room));
  distinct = all_pairs_push (λ a b. a.resource.bytes ≢ b.resource.bytes) changes change are.distinct
      (λ k d lt same.
      let yes = list_any_at (λ (c : Change). bytes_eq c.resource.bytes change.resource.bytes) changes k d lt
      ((bytes_eq-Decides (get_or changes k d).resource.bytes change.resource.bytes).1 same) in cc);
}

-- a word that names no change is among these
pub none_at : (words : List Word) (k : ℕ) (word : Word) (changes : List Change) (e : Change) → AreChanges words changes → k < length words
    → get_or words k [] ≡ word → ((change : Change) → IsChange word change → ⊥) → ⊥
none_at words k word changes e are lt here none =
    none (get_or changes k e) (subst (λ (w : Word). IsChange w (get_or changes k e)) here (zip_at IsChange words changes k [] e are.each lt))

-- two words that are read for the same resource have the same name
same_name : (a b : Word) (x y : Change) → IsChange a x → IsChange b y → name_part a ≡ name_part b → x.resource.bytes ≡ y.resource.bytes
same_name a b x y first second same = first.resource ∙ same ∙ sym second.resource

-- a word names a resource that an earlier one of these names
pub twice_at : (words : List Word) (k : ℕ) (word : Word) (first : List Change) (change : Change) (changes : List Change)
    → AreChanges (take k words) first → IsChange word change → names first change.resource.bytes ≡ true
    → k < length words → get_or words k [] ≡ word → AreChanges words changes → ⊥
twice_at words k word first change changes are is named lt here all =
    let some = Any-from_list_any (λ (c : Change). bytes_eq c.resource.bytes change.resource.bytes) first named in
    let j = some.0 in
    let before : length first ≡ k = AllZip-long IsChange (take k words) first are.each ∙ length-take-le k words (omega (arith, lt)) in
    let as_many : length changes ≡ length words = AllZip-long IsChange words changes all.each in
    let there = some.2 in
    let earlier : j < k = omega (arith, there, before) in
    let within : j < length (take k words) = (let n = length-take-le k words (omega (arith, lt)) in omega (arith, earlier, n)) in
    let old : IsChange (get_or words j []) (get_or first j change) =
    subst (λ (w : Word). IsChange w (get_or first j change)) (get_or-take k words j [] earlier)
    (zip_at IsChange (take k words) first j [] change are.each within) in
    let new : IsChange (get_or words j []) (get_or changes j change) = zip_at IsChange words changes j [] change all.each (omega (arith, earlier, lt)) in
    let last : IsChange word (get_or changes k change) =
    subst (λ (w : Word). IsChange w (get_or changes k change)) here (zip_at IsChange words changes k [] change all.each lt) in
    let found : (get_or first j change).resource.bytes ≡ change.resource.bytes =
    ap (λ (c : Change). c.resource.bytes) (get_or_default first j change some.1 some.2 ∙ some.3)
    ∙ (bytes_eq-Decides some.1.resource.bytes change.resource.bytes).0 some.4 in
    all.distinct j k change earlier (omega (arith, lt, as_many))
    (new.resource ∙ sym old.resource ∙ found ∙ is.resource ∙ sym last.resource)

-- the text of a word, among the texts of all
pub text_at : (words : List (Bor Word)) (k : ℕ) (d : Bor Word) → k < length words
    → get_or (map (λ (word : Bor Word). word.now) words) k [] ≡ (get_or words k d).now
text_at words k d lt = get_or-map (λ (word : Bor Word). word.now) words k d [] lt

-- the texts of the first words, and of one more
pub texts_more : (words : List (Bor Word)) (k : ℕ) (d : Bor Word) → k < length words
    → map (λ (word : Bor Word). word.now) (take (k + 1) words)
    ≡ map (λ (word : Bor Word). word.now) (take k words) ++ (get_or words k d).now ∷ []
texts_more words k d lt = ap (map (λ (word : Bor Word). word.now)) (take_more words k d lt) ∙ map-append (λ (word : Bor Word). word.now) (take k words) (get_or words k d ∷ [])

pub as_long : (words : List (Bor Word)) (k : ℕ) → k < length words
    → length (map (λ (word : Bor Word). word.now) (take k words)) ≡ k
as_long words k lt = length-map (take k words) (λ (word : Bor Word). word.now) ∙ length-take-le k words (omega (arith, lt))

pub none_of : {X P : Type 0} (o : Option X) → o ≡ None → P → IfNone o P
none_of None is p = p
none_of (Some x) is p = tt
