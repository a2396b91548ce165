-- A text, parted at its first space.
use Rattle.std.proofs.Common.{◌≡◌, ℕ, ◌+◌, ◌<◌, ◌++◌, eqb, Bool, true, false, cond, List, [], ◌∷◌, length, take, drop, get_or}
use Rattle.std.proofs.Common.{sym, ap, ◌∙◌, append-nil, append_assoc}
use Rattle.std.proofs.lemmas.List.{take_more}
use Rattle.pb_bank.proofs.WordLemmas.{next_at}
use Rattle.pb_desk.specs.Entries.{field_of, after_field}

-- a byte that is no space is of the field
pub field_more : (text : List ℕ) (i : ℕ) → i < length text → eqb (get_or text i 0) 32 ≡ false
    → take i text ++ field_of (drop i text) ≡ take (i + 1) text ++ field_of (drop (i + 1) text)
field_more text i lt other =
    let b = get_or text i 0 in
    let rest = drop (i + 1) text in
    ap (λ (t : List ℕ). take i text ++ field_of t) (next_at text i lt)
    ∙ (ap (λ (c : Bool). take i text ++ cond c [] (b ∷ field_of rest)) other
    ∙ (sym (append_assoc (take i text) (b ∷ []) (field_of rest))
    ∙ ap (λ (w : List ℕ). w ++ field_of rest) (sym (take_more text i 0 lt))))

pub after_more : (text : List ℕ) (i : ℕ) → i < length text → eqb (get_or text i 0) 32 ≡ false
    → after_field (drop i text) ≡ after_field (drop (i + 1) text)
after_more text i lt other =
    let rest = drop (i + 1) text in
    ap after_field (next_at text i lt) ∙ ap (λ (c : Bool). cond c rest (after_field rest)) other

-- a space ends it
pub field_ends : (text : List ℕ) (i : ℕ) → i < length text → eqb (get_or text i 0) 32 ≡ true
    → take i text ++ field_of (drop i text) ≡ take i text
field_ends text i lt space =
    let b = get_or text i 0 in
    let rest = drop (i + 1) text in
    ap (λ (t : List ℕ). take i text ++ field_of t) (next_at text i lt)
    ∙ (ap (λ (c : Bool). take i text ++ cond c [] (b ∷ field_of rest)) space ∙ append-nil (take i text))

pub after_ends : (text : List ℕ) (i : ℕ) → i < length text → eqb (get_or text i 0) 32 ≡ true
    → after_field (drop i text) ≡ drop (i + 1) text
after_ends text i lt space =
    let rest = drop (i + 1) text in
    ap after_field (next_at text i lt) ∙ ap (λ (c : Bool). cond c rest (after_field rest)) space
