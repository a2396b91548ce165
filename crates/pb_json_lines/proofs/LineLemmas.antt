-- The lines of a text, one after another, and objects of them.
use Rattle.std.proofs.Common.{◌≡◌, ℕ, suc, ◌+◌, ◌-◌, ◌<◌, ◌≤◌, eqb, Bool, true, false, not, cond, List, [], ◌∷◌, length, take, drop}
use Rattle.std.proofs.Common.{Some, None, refl, sym, ap, ◌∙◌, arith, map, get_or}
use Rattle.std.specs.Borrow.{Bor}
use Rattle.std.specs.Prelude.{nat_lt}
use Rattle.std.specs.List.{position, position_or_len, prefix_len}
use Rattle.std.proofs.Math.Seq.{drop-cons}
use Rattle.std.proofs.lemmas.Bool.{ltb-false}
use Rattle.std.proofs.lemmas.List.{drop_all, take_all, take-map}
use Rattle.std.proofs.lemmas.List.Sums.{prefix_len-le-length}
use Rattle.pb_base.proofs.Lists.{take_behind}
use Rattle.pb_json_lines.specs.declared.form.Dialect.TheVariants.{Program}
use Rattle.pb_json_lines.specs.JsonLines.{lines_of, onto, is_part, parts_of}

-- ---- the first line

-- how many bytes are before the first line feed
abbrev before_feed : List ℕ → ℕ
before_feed bs = position_or_len (λ b. eqb b 10) bs

cut_step : (b : ℕ) (bs : List ℕ) (t : Bool)
    → (0 < length bs → lines_of bs ≡ take (before_feed bs) bs ∷ lines_of (drop (before_feed bs + 1) bs))
    → cond t ([] ∷ lines_of bs) (onto b (lines_of bs))
    ≡ take (cond (not t) (1 + before_feed bs) 0) (b ∷ bs) ∷ lines_of (drop (cond (not t) (1 + before_feed bs) 0 + 1) (b ∷ bs))
cut_step b bs true rest = refl
cut_step b [] false rest = refl
cut_step b (c ∷ cs) false rest =
    let bs = c ∷ cs in
    let n = before_feed bs in
    let one : 1 + n ≡ suc n = omega arith in
    let two : 1 + n + 1 ≡ suc (n + 1) = omega arith in
    ap (onto b) (rest (omega arith))
    ∙ (ap (λ k. take k (b ∷ bs) ∷ lines_of (drop (n + 1) bs)) (sym one)
    ∙ ap (λ k. take (1 + n) (b ∷ bs) ∷ lines_of (drop k (b ∷ bs))) (sym two))

-- a text is its first line, and those after the first line feed
cut_line : (bs : List ℕ) → 0 < length bs → lines_of bs ≡ take (before_feed bs) bs ∷ lines_of (drop (before_feed bs + 1) bs)
cut_line [] some = absurd (omega (arith, some))
cut_line (b ∷ bs) some = cut_step b bs (eqb b 10) (cut_line bs)

found_at : (n at : ℕ) (t : Bool) → Some at ≡ cond t (Some n) None → n ≡ at
found_at n at true h = cc
found_at n at false h = absurd cc

not_found : (n : ℕ) (t : Bool) → None ≡ cond t (Some n) None → t ≡ false
not_found n true h = absurd cc
not_found n false h = refl

pub ends_at : (text : List ℕ) (at : ℕ) → 0 < length text → Some at ≡ position (λ b. eqb b 10) text
    → lines_of text ≡ take at text ∷ lines_of (take (length text - (at + 1)) (drop (at + 1) text))
ends_at text at some found =
    let same : before_feed text ≡ at = found_at (before_feed text) at (nat_lt (before_feed text) (length text)) found in
    cut_line text some
    ∙ (ap (λ k. take k text ∷ lines_of (drop (k + 1) text)) same
    ∙ ap (λ (rest : List ℕ). take at text ∷ lines_of rest) (sym (take_behind text (at + 1))))

pub is_all : (text : List ℕ) → 0 < length text → None ≡ position (λ b. eqb b 10) text
    → lines_of text ≡ text ∷ lines_of (take (length text - length text) (drop (length text) text))
is_all text some found =
    let most = prefix_len-le-length (λ b. not (eqb b 10)) text in
    let least : length text ≤ before_feed text = ltb-false (before_feed text) (length text) (not_found (before_feed text) (nat_lt (before_feed text) (length text)) found) in
    let same : before_feed text ≡ length text = omega (arith, least, most) in
    let none : take (length text - length text) (drop (length text) text) ≡ [] = take_behind text (length text) ∙ drop_all (length text) text (omega arith) in
    cut_line text some
    ∙ (ap (λ k. take k text ∷ lines_of (drop (k + 1) text)) same
    ∙ (ap (λ (first : List ℕ). first ∷ lines_of (drop (length text + 1) text)) (take_all (length text) text (omega arith))
    ∙ (ap (λ (rest : List ℕ). text ∷ lines_of rest) (drop_all (length text + 1) text (omega arith))
    ∙ ap (λ (rest : List ℕ). text ∷ lines_of rest) (sym none))))

-- ---- the lines that belong to an outcome or a deadlock

abbrev texts : List (Bor (List ℕ)) → List (List ℕ)
texts lines = map (λ l. l.now) lines

pub parts_end : (lines : List (Bor (List ℕ))) (i : ℕ) (d : Bor (List ℕ)) → i < length lines → is_part Program true (get_or lines i d).now ≡ false
    → prefix_len (is_part Program true) (texts lines) ≡ i + prefix_len (is_part Program true) (texts (drop i lines)) → texts (take i lines) ≡ parts_of (texts lines)
parts_end lines i d lt ends rest =
    let next : suc i ≡ i + 1 = omega arith in
    let behind_it = texts (drop (i + 1) lines) in
    let here : drop i lines ≡ get_or lines i d ∷ drop (i + 1) lines = drop-cons lines i d lt ∙ ap (λ k. get_or lines i d ∷ drop k lines) next in
    let none : prefix_len (is_part Program true) (texts (drop i lines)) ≡ 0 =
    ap (λ (ls : List (Bor (List ℕ))). prefix_len (is_part Program true) (texts ls)) here
    ∙ ap (λ t. cond t (1 + prefix_len (is_part Program true) behind_it) 0) ends in
    let all : prefix_len (is_part Program true) (texts lines) ≡ i = omega (arith, rest, none) in
    sym (take-map (λ (l : Bor (List ℕ)). l.now) i lines) ∙ ap (λ k. take k (texts lines)) (sym all)
