-- Objects, written a piece at a time.
use Rattle.std.proofs.Common.{◌≡◌, ◌++◌, ◌+◌, ◌<◌, ◌≤◌, ℕ, List, [], ◌∷◌, ◌∙◌, ap, sym, append_assoc, drop, take, length, codes, ◌-◌, get_or, slice_index_or}
use Rattle.std.proofs.Common.{Result, Ok, Err, OnOk, arith}
use Rattle.std.specs.List.{flat_map}
use Rattle.std.proofs.lemmas.List.{flat_map_more, take_all, take_more}
use Rattle.pb_findings.specs.Strings.{further, items_text}

-- what holds of a result holds if something else does that follows from it
pub on_ok : {T E P Q : Type 0} (r : Result T E) → (P → Q) → OnOk r P → OnOk r Q
on_ok (Ok x) f p = f p
on_ok (Err e) f p = tt

-- one piece after another
pub then : (o m n x y : List ℕ) → m ≡ o ++ x → n ≡ m ++ y → n ≡ o ++ (x ++ y)
then o m n x y first later = later ∙ (ap (λ (l : List ℕ). l ++ y) first ∙ append_assoc o x y)

-- an item of a list that is not the first, after others
pub one_further : {X : Type 0} (item : X → List ℕ) (o a b c : List ℕ) (xs : List X) (x : X) → a ≡ o ++ flat_map (further item) xs
    → b ≡ a ++ codes ", " → c ≡ b ++ item x → c ≡ o ++ flat_map (further item) (xs ++ x ∷ [])
one_further item o a b c xs x before comma one =
    then a b c (codes ", ") (item x) comma one ∙ (ap (λ (l : List ℕ). l ++ further item x) before ∙ flat_map_more (further item) o xs x)

-- the items of a list that is not empty
pub first_item : {X : Type 0} (item : X → List ℕ) (xs : List X) (x : X) → 1 ≤ length xs → x ≡ slice_index_or xs 0 x
    → items_text item xs ≡ item x ++ flat_map (further item) (take (length xs - 1) (drop 1 xs))
first_item item [] x some is = absurd (omega (arith, some))
first_item {X} item (y ∷ ys) x some is =
    let others : take (length (y ∷ ys) - 1) ys ≡ ys = take_all (length (y ∷ ys) - 1) ys (omega arith) in
    ap (λ it. item it ++ flat_map (further item) ys) (sym is) ∙ ap (λ (l : List X). item x ++ flat_map (further item) l) (sym others)

-- the next item of a list, written after those before it
pub next_at : {X : Type 0} (item : X → List ℕ) (o a b : List ℕ) (xs : List X) (i : ℕ) (d : X) → i < length xs
    → a ≡ o ++ flat_map item (take i xs) → b ≡ a ++ item (get_or xs i d) → b ≡ o ++ flat_map item (take (i + 1) xs)
next_at {X} item o a b xs i d test before one =
    one ∙ (ap (λ (l : List ℕ). l ++ item (get_or xs i d)) before
    ∙ (flat_map_more item o (take i xs) (get_or xs i d) ∙ ap (λ (those : List X). o ++ flat_map item those) (sym (take_more xs i d test))))

pub next_item : {X : Type 0} (item : X → List ℕ) (o a b : List ℕ) (xs : List X) (i : ℕ) (x : X) → i < length xs → x ≡ get_or xs i x
    → a ≡ o ++ flat_map item (take i xs) → b ≡ a ++ item x → b ≡ o ++ flat_map item (take (i + 1) xs)
next_item item o a b xs i x test is before one =
    next_at item o a b xs i x test before (one ∙ ap (λ it. a ++ item it) is)
