-- One turn of a loop over words.
use Rattle.std.proofs.Common.{◌≡◌, ℕ, ◌+◌, ◌<◌, ◌≤◌, Bool, true, false, List, [], ◌∷◌, ◌++◌, length, get_or, take}
use Rattle.std.proofs.Common.{drop, map, refl, ap, ◌∙◌}
use Rattle.std.specs.Str.{bytes_eq}
use Rattle.std.specs.List.{list_all}
use Rattle.std.proofs.lemmas.List.{drop_more, take_more, map_push, append-nil}
use Rattle.std.proofs.Math.ListN.{drop_of_length-le}
use Rattle.pb_object.specs.declared.words.Verdict.{Verdict}
use Rattle.pb_object.specs.declared.words.Verdict.TheVariants.{Malformed, Beyond, Read}
use Rattle.pb_code.specs.Names.{Word, is_among}
use Rattle.pb_object.specs.Words.{number, numbers, are_new}
use Rattle.pb_object.proofs.Pairs.{gathered, gathered_beyond, gathered_more}

-- the words from here on are this one and those from the next on
pub from_here : {A : Type 0} (f : A → Word) (xs : List A) (i : ℕ) (d : A) → i < length xs → map f (drop i xs) ≡ f (get_or xs i d) ∷ map f (drop (i + 1) xs)
from_here f xs i d lt = ap (map f) (drop_more xs i d lt)

pub from_end : {A : Type 0} (f : A → Word) (xs : List A) (i : ℕ) → length xs ≤ i → map f (drop i xs) ≡ []
from_end f xs i le = ap (map f) (drop_of_length-le xs le)

-- the words up to the next one are those up to here and this one
pub up_to_here : {A : Type 0} (f : A → Word) (xs : List A) (i : ℕ) (d : A) → i < length xs → map f (take (i + 1) xs) ≡
    map f (take i xs) ++ f (get_or xs i d) ∷ []
up_to_here f xs i d lt = ap (map f) (take_more xs i d lt) ∙ map_push f (take i xs) (get_or xs i d)

-- ---- numbers

pub bad_number : (b : Bool) (front : List ℕ) (total : Verdict (List ℕ)) (high : ℕ) (w : Word) (rest ws : List Word)
    → rest ≡ w ∷ ws → total ≡ gathered b front (numbers 0 high rest) → number 0 high w ≡ Malformed → total ≡ Malformed
bad_number b front total high w rest ws e so_far h = so_far ∙ ap (λ (l : List Word). gathered b front (numbers 0 high l)) e ∙ rw h refl

pub beyond_number : (b : Bool) (front : List ℕ) (total : Verdict (List ℕ)) (high : ℕ) (w : Word) (rest ws : List Word)
    → rest ≡ w ∷ ws → total ≡ gathered b front (numbers 0 high rest) → number 0 high w ≡ Beyond → total ≡ gathered true front (numbers 0 high ws)
beyond_number b front total high w rest ws e so_far h =
    so_far ∙ ap (λ (l : List Word). gathered b front (numbers 0 high l)) e ∙ rw h (gathered_beyond b front (numbers 0 high ws))

pub more_number : (b : Bool) (front : List ℕ) (total : Verdict (List ℕ)) (high : ℕ) (w : Word) (rest ws : List Word) (n : ℕ)
    → rest ≡ w ∷ ws → total ≡ gathered b front (numbers 0 high rest) → number 0 high w ≡ Read n → total ≡ gathered b (front ++ n ∷ []) (numbers 0 high ws)
more_number b front total high w rest ws n e so_far h =
    so_far ∙ ap (λ (l : List Word). gathered b front (numbers 0 high l)) e ∙ rw h (gathered_more b front n (numbers 0 high ws))

pub no_numbers : (b : Bool) (front : List ℕ) (total : Verdict (List ℕ)) (high : ℕ) (rest : List Word)
    → rest ≡ [] → total ≡ gathered b front (numbers 0 high rest) → total ≡ gathered b front (Read [])
no_numbers b front total high rest e so_far = so_far ∙ ap (λ (l : List Word). gathered b front (numbers 0 high l)) e

pub all_read : (b : Bool) (front : List ℕ) (total : Verdict (List ℕ)) → total ≡ gathered b front (Read []) → b ≡ false → total ≡ Read front
all_read b front total so_far none =
    so_far ∙ ap (λ (c : Bool). gathered c front (Read [])) none ∙ ap (λ (l : List ℕ). Read l) (append-nil front)

-- ---- names that differ

pub not_new : (earlier : List Word) (w : Word) (rest ws : List Word) → rest ≡ w ∷ ws → is_among earlier w ≡ true → are_new earlier rest ≡ false
not_new earlier w rest ws e h = ap (are_new earlier) e ∙ rw h refl

pub new_one : (earlier : List Word) (w : Word) (rest ws : List Word) → rest ≡ w ∷ ws → is_among earlier w ≡ false →
    are_new earlier rest ≡ are_new (earlier ++ w ∷ []) ws
new_one earlier w rest ws e h = ap (are_new earlier) e ∙ rw h refl

pub none_new : (earlier rest : List Word) → rest ≡ [] → are_new earlier rest ≡ true
none_new earlier rest e = ap (are_new earlier) e

-- ---- a name among others

pub among_here : (name w : Word) (rest ws : List Word) → rest ≡ w ∷ ws → bytes_eq name w ≡ true → is_among rest name ≡ true
among_here name w rest ws e h = ap (λ (l : List Word). is_among l name) e ∙ rw h refl

pub among_on : (name w : Word) (rest ws : List Word) → rest ≡ w ∷ ws → bytes_eq name w ≡ false → is_among rest name ≡ is_among ws name
among_on name w rest ws e h = ap (λ (l : List Word). is_among l name) e ∙ rw h refl

pub among_none : (name : Word) (rest : List Word) → rest ≡ [] → is_among rest name ≡ false
among_none name rest e = ap (λ (l : List Word). is_among l name) e

-- ---- words that are all of a kind

pub not_all : {A : Type 0} (p : A → Bool) (w : A) (rest ws : List A) → rest ≡ w ∷ ws → p w ≡ false → list_all p rest ≡ false
not_all p w rest ws e h = ap (list_all p) e ∙ rw h refl

pub all_on : {A : Type 0} (p : A → Bool) (w : A) (rest ws : List A) → rest ≡ w ∷ ws → p w ≡ true → list_all p rest ≡ list_all p ws
all_on p w rest ws e h = ap (list_all p) e ∙ rw h refl

pub all_none : {A : Type 0} (p : A → Bool) (rest : List A) → rest ≡ [] → list_all p rest ≡ true
all_none p rest e = ap (list_all p) e
