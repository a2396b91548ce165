-- The positions of the offsets of a text, one after another.
use Rattle.std.proofs.Common.{◌≡◌, ◌∙◌, ℕ, zero, suc, ◌+◌, ◌<◌, ◌≤◌, List, [], ◌∷◌, length, arith, ap, sym, refl, cond, get_or, min, subst}
use Rattle.std.proofs.Common.{Bool, true, false, Option, Some}
use Rattle.std.specs.List.{fold}
use Rattle.std.proofs.lemmas.List.{take_min}
use Rattle.std.proofs.lemmas.List.Sums.{fold_more}
use Rattle.pb_outline.specs.Positions.{beginning, behind, ends_line, is_up_to, last_below, line_ends, position_of}
use Rattle.pb_outline.specs.declared.position.Position.{Position}

-- ---- the ends of lines

-- there is one answer for each byte
pub ends_length : (text : List ℕ) → length (line_ends text) ≡ length text
ends_length [] = refl
ends_length (b ∷ bs) = ap suc (ends_length bs)

-- a byte with one after it
pub ends_at : (text : List ℕ) (i : ℕ) → i < length text
    → ends_line (get_or text i 0) (get_or text (i + 1) 0) ≡ get_or (line_ends text) i false
ends_at [] i lt = absurd (omega (arith, lt))
ends_at (b ∷ bs) zero lt = refl
ends_at (b ∷ bs) (suc i) lt =
    let later : suc i + 1 ≡ suc (i + 1) = omega arith in
    ap (λ (k : ℕ). ends_line (get_or bs i 0) (get_or (b ∷ bs) k 0)) later ∙ ends_at bs i (omega (arith, lt))

-- nothing stands after the last byte
past : (text : List ℕ) (i : ℕ) → length text ≤ i → get_or text i 0 ≡ 0
past [] i le = refl
past (b ∷ bs) zero le = absurd (omega (arith, le))
past (b ∷ bs) (suc i) le = past bs i (omega (arith, le))

-- the last byte
pub ends_last : (text : List ℕ) (i : ℕ) → i < length text → length text ≤ i + 1
    → ends_line (get_or text i 0) 0 ≡ get_or (line_ends text) i false
ends_last text i lt le = ap (λ (next : ℕ). ends_line (get_or text i 0) next) (sym (past text (i + 1) le)) ∙ ends_at text i lt

-- ---- positions

-- the position after one more byte
pub position_more : (text : List ℕ) (i : ℕ) (here next : Position) → i < length text → here ≡ position_of text i
    → next ≡ behind here (get_or (line_ends text) i false) → next ≡ position_of text (i + 1)
position_more text i here next within at is =
    let all = ends_length text in
    is ∙ ap (λ (q : Position). behind q (get_or (line_ends text) i false)) at
    ∙ sym (fold_more behind beginning (line_ends text) i false (omega (arith, within, all)))

-- past the end of a text all offsets have the position of the end
pub position_min : (text : List ℕ) (n : ℕ) → position_of text (min n (length text)) ≡ position_of text n
position_min text n =
    ap (λ (k : ℕ). position_of text (min n k)) (sym (ends_length text)) ∙ ap (fold behind beginning) (take_min n (line_ends text))

-- ---- the last offset that is not after a position

-- whether an offset is in the line of a position, and not after it
abbrev pub reaches : (text : List ℕ) → Position → ℕ → Bool
reaches text position at = is_up_to position (position_of text at)

pub found_more : (text : List ℕ) (position here : Position) (i : ℕ) (found next : Option ℕ) (reached : Bool) → here ≡ position_of text i
    → found ≡ last_below (reaches text position) i → reached ≡ is_up_to position here → next ≡ cond reached (Some i) found
    → next ≡ last_below (reaches text position) (suc i)
found_more text position here i found next reached at before up is =
    is
    ∙ (ap (λ (b : Bool). cond b (Some i) found) (up ∙ ap (is_up_to position) at)
    ∙ ap (λ (o : Option ℕ). cond (reaches text position i) (Some i) o) before)

pub next_number : (p : ℕ → Bool) (i : ℕ) → last_below p (suc i) ≡ last_below p (i + 1)
next_number p i = let same : suc i ≡ i + 1 = omega arith in ap (last_below p) same

-- the numbers of a position
abbrev line : Position → ℕ
line q = q.line

abbrev character : Position → ℕ
character q = q.character

-- a step by one byte adds at most one to each number

line_by : (b : Bool) (n m k : ℕ) → m ≤ n
    → line (cond b (record { line = m + 1; character = 0 }) (record { line = m; character = k + 1 })) ≤ n + 1
line_by true n m k low = omega arith
line_by false n m k low = omega arith

character_by : (b : Bool) (n m k : ℕ) → k ≤ n
    → character (cond b (record { line = m + 1; character = 0 }) (record { line = m; character = k + 1 })) ≤ n + 1
character_by true n m k low = omega arith
character_by false n m k low = omega arith

pub line_more : (here next : Position) (ends : Bool) (n : ℕ) → next ≡ behind here ends → here.line ≤ n → next.line ≤ n + 1
line_more here next ends n is low =
    subst (λ (q : Position). q.line ≤ n + 1) (sym is) (line_by ends n here.line here.character low)

pub character_more : (here next : Position) (ends : Bool) (n : ℕ) → next ≡ behind here ends → here.character ≤ n
    → next.character ≤ n + 1
character_more here next ends n is low =
    subst (λ (q : Position). q.character ≤ n + 1) (sym is) (character_by ends n here.line here.character low)
