-- The words of a line, found in one pass over the text.
use Rattle.std.proofs.Common.{◌≡◌, ℕ, suc, ◌<◌, ◌≤◌, ◌+◌, ◌-◌, Bool, true, false, cond, not, eqb, ltb}
use Rattle.std.proofs.Common.{List, [], ◌∷◌, ◌++◌, length, take, drop, get_or, append_assoc}
use Rattle.std.proofs.Common.{Option, Some, None, Result, Ok, Err, refl, sym, ap, ◌∙◌, arith}
use Rattle.std.specs.List.{slice_split, onto_first, position_or_len}
use Rattle.std.proofs.Math.ListN.{drop_of_length-le}
use Rattle.std.proofs.lemmas.List.{append-nil, length-drop, take_more, take_rest, get_or-drop}
use Rattle.std.proofs.Math.Seq.{drop-cons}
use Rattle.std.proofs.lemmas.Bool.{lt-ltb}
use Rattle.std.proofs.lemmas.Bool.Decides.{nat_tests}
use Rattle.pb_object.specs.declared.fault.Fault.{Fault}
use Rattle.pb_object.specs.declared.fault.Fault.TheVariants.{Malformed}
use Rattle.pb_code.specs.Names.{Word}
use Rattle.pb_object.specs.Lines.{words_before, first_words}

-- the bytes put before the first word
abbrev pub onto : List ℕ → List Word → List Word
onto part [] = []
onto part (w ∷ ws) = (part ++ w) ∷ ws

-- the words of a line and what follows its end, if it has one
abbrev pub Found : Type 0
Found = Option (List Word × List ℕ)

-- what is found after these words and the beginning of one
abbrev pub joined : List Word → List ℕ → Found → Found
joined words part None = None
joined words part (Some p) = Some (words ++ onto part p.0, p.1)

-- what a byte adds that ends no line
abbrev pub before : ℕ → Found → Found
before b p = cond (eqb b 32) (joined ([] ∷ []) [] p) (joined [] (b ∷ []) p)

-- what is found in a text
abbrev pub scan : List ℕ → Found
scan [] = None
scan (b ∷ bs) = cond (eqb b 10) (Some ([] ∷ [], bs)) (before b (scan bs))

abbrev pub answered : ℕ → Found → Result (List Word × List ℕ) Fault
answered n None = Err (Malformed n)
answered n (Some p) = Ok p

onto_none : (ws : List Word) → onto [] ws ≡ ws
onto_none [] = refl
onto_none (w ∷ ws) = refl

-- ---- the pass finds what the line is

abbrev parts : List ℕ → List Word
parts bs = slice_split (λ b. eqb b 32) bs

abbrev line_length : List ℕ → ℕ
line_length text = position_or_len (λ b. eqb b 10) text

-- what is found if the line ends at the n-th of a number of bytes
abbrev cut : List ℕ → ℕ → Bool → Found
cut text n false = None
cut text n true = Some (parts (take n text), drop 1 (drop n text))

onto_part : (b : ℕ) (test : Bool) (x : ℕ) (ws : List Word)
    → onto (b ∷ []) (cond test ([] ∷ ws) (onto_first x ws))
    ≡ onto_first b (cond test ([] ∷ ws) (onto_first x ws))
onto_part b true x ws = refl
onto_part b false x [] = refl
onto_part b false x (w ∷ ws) = refl

onto_split : (b : ℕ) (xs : List ℕ) → onto (b ∷ []) (parts xs) ≡ onto_first b (parts xs)
onto_split b [] = refl
onto_split b (x ∷ xs) = onto_part b (eqb x 32) x (parts xs)

-- one more byte before, which is a space or not
cut_more : (b : ℕ) (bs : List ℕ) (n : ℕ) (space : Bool)
    → Some (cond space ([] ∷ parts (take n bs)) (onto_first b (parts (take n bs))), drop 1 (drop n bs))
    ≡ cond space (joined ([] ∷ []) [] (cut bs n true)) (joined [] (b ∷ []) (cut bs n true))
cut_more b bs n true =
    ap (λ (ws : List Word). Some ([] ∷ ws, drop 1 (drop n bs))) (sym (onto_none (parts (take n bs))))
cut_more b bs n false =
    ap (λ (ws : List Word). Some (ws, drop 1 (drop n bs))) (sym (onto_split b (take n bs)))

joins_none : (space : Bool) (b : ℕ) → cond space (joined ([] ∷ []) [] None) (joined [] (b ∷ []) None) ≡ None
joins_none true b = refl
joins_none false b = refl

cut_within : (b : ℕ) (bs : List ℕ) (n : ℕ) (within : Bool)
    → cut (b ∷ bs) (suc n) within ≡ before b (cut bs n within)
cut_within b bs n true = cut_more b bs n (eqb b 32)
cut_within b bs n false = sym (joins_none (eqb b 32) b)

fewer : (n m : ℕ) → ltb (suc n) (suc m) ≡ ltb n m
fewer n m = grind (arith, nat_tests)

cut_at : (b : ℕ) (bs : List ℕ) (feed : Bool) (n : ℕ)
    → cut (b ∷ bs) (cond (not feed) (1 + n) 0) (ltb (cond (not feed) (1 + n) 0) (length (b ∷ bs)))
    ≡ cond feed (Some ([] ∷ [], bs)) (before b (cut bs n (ltb n (length bs))))
cut_at b bs true n =
    let within : ltb 0 (suc (length bs)) ≡ true = lt-ltb 0 (suc (length bs)) (omega arith) in
    rw within refl
cut_at b bs false n =
    let one : 1 + n ≡ suc n = omega arith in
    rw one (ap (cut (b ∷ bs) (suc n)) (fewer n (length bs)) ∙ cut_within b bs n (ltb n (length bs)))

cut_is : (text : List ℕ) → cut text (line_length text) (ltb (line_length text) (length text)) ≡ scan text
cut_is [] = refl
cut_is (b ∷ bs) =
    cut_at b bs (eqb b 10) (line_length bs)
    ∙ ap (λ (p : Found). cond (eqb b 10) (Some ([] ∷ [], bs)) (before b p)) (cut_is bs)

answered_cut : (text : List ℕ) (n : ℕ) (within : Bool)
    → words_before text (cond within (Some n) None) ≡ answered (length text) (cut text n within)
answered_cut text n true = refl
answered_cut text n false = refl

scanned : (text : List ℕ) → first_words text ≡ answered (length text) (scan text)
unfolding first_words
scanned text =
    answered_cut text (line_length text) (ltb (line_length text) (length text))
    ∙ ap (answered (length text)) (cut_is text)

-- ---- the turns of the pass

onto_onto : (part more : List ℕ) (ws : List Word) → onto part (onto more ws) ≡ onto (part ++ more) ws
onto_onto part more [] = refl
onto_onto part more (w ∷ ws) = ap (λ (l : List ℕ). l ∷ ws) (sym (append_assoc part more w))

joined_byte : (words : List Word) (part : List ℕ) (b : ℕ) (p : Found)
    → joined words part (joined [] (b ∷ []) p) ≡ joined words (part ++ b ∷ []) p
joined_byte words part b None = refl
joined_byte words part b (Some p) =
    ap (λ (ws : List Word). Some (words ++ ws, p.1)) (onto_onto part (b ∷ []) p.0)

joined_space : (words : List Word) (part : List ℕ) (p : Found)
    → joined words part (joined ([] ∷ []) [] p) ≡ joined (words ++ part ∷ []) [] p
joined_space words part None = refl
joined_space words part (Some p) =
    ap (λ (l : List ℕ). Some (words ++ l ∷ onto [] p.0, p.1)) (append-nil part)
    ∙ ap (λ (ws : List Word). Some (ws, p.1)) (sym (append_assoc words (part ∷ []) (onto [] p.0)))

-- what is found from an offset on, by the byte there
scan_at : (text : List ℕ) (i d : ℕ) → i < length text
    → scan (drop i text) ≡ scan (get_or text i d ∷ drop (i + 1) text)
scan_at text i d lt =
    let more : i + 1 ≡ suc i = omega arith in
    rw more (ap scan (drop-cons text i d lt))

-- the bytes from an offset on up to another
abbrev pub between : List ℕ → ℕ → ℕ → List ℕ
between text start i = take (i - start) (drop start text)

part_more : (text : List ℕ) (start i d : ℕ) → start ≤ i → i < length text
    → between text start (i + 1) ≡ between text start i ++ get_or text i d ∷ []
part_more text start i d le lt =
    let left : length (drop start text) ≡ length text - start = length-drop start text in
    let more : i + 1 - start ≡ (i - start) + 1 = omega arith in
    let at : start + (i - start) ≡ i = omega arith in
    let one = take_more (drop start text) (i - start) d (omega (arith, left)) in
    let same : get_or (drop start text) (i - start) d ≡ get_or text i d =
    get_or-drop start text (i - start) d ∙ ap (λ k. get_or text k d) at in
    rw more (one ∙ ap (λ b. take (i - start) (drop start text) ++ b ∷ []) same)

-- what is found of a text, seen from an offset in its first line
abbrev pub IsFound : List ℕ → List Word → ℕ → ℕ → Type 0
IsFound text words start i = joined words (between text start i) (scan (drop i text)) ≡ scan text

pub turn_byte : (text : List ℕ) (words : List Word) (start i d : ℕ) → start ≤ i → i < length text
    → eqb (get_or text i d) 10 ≡ false → eqb (get_or text i d) 32 ≡ false
    → IsFound text words start i → IsFound text words start (i + 1)
turn_byte text words start i d le lt feed space so_far =
    let b = get_or text i d in
    let after = scan (drop (i + 1) text) in
    let one : scan (drop i text) ≡ joined [] (b ∷ []) after = scan_at text i d lt ∙ rw (feed, space) refl in
    let part = between text start i in
    let same : joined words part (scan (drop i text)) ≡ joined words (part ++ b ∷ []) after =
    ap (joined words part) one ∙ joined_byte words part b after in
    rw (part_more text start i d le lt) (sym same ∙ so_far)

pub turn_space : (text : List ℕ) (words : List Word) (start i d : ℕ) → i < length text
    → get_or text i d ≡ 32 → IsFound text words start i
    → IsFound text (words ++ between text start i ∷ []) (i + 1) (i + 1)
turn_space text words start i d lt space so_far =
    let after = scan (drop (i + 1) text) in
    let one : scan (drop i text) ≡ joined ([] ∷ []) [] after = scan_at text i d lt ∙ rw space refl in
    let part = between text start i in
    let same : joined words part (scan (drop i text)) ≡ joined (words ++ part ∷ []) [] after =
    ap (joined words part) one ∙ joined_space words part after in
    let none : i + 1 - (i + 1) ≡ 0 = omega arith in
    rw none (sym same ∙ so_far)

pub turn_feed : (text : List ℕ) (words : List Word) (start i d : ℕ) → i < length text
    → get_or text i d ≡ 10 → IsFound text words start i
    → first_words text
    ≡ Ok (words ++ between text start i ∷ [], take (length text - (i + 1)) (drop (i + 1) text))
turn_feed text words start i d lt feed so_far =
    let part = between text start i in
    let rest = drop (i + 1) text in
    let one : scan (drop i text) ≡ Some ([] ∷ [], rest) = scan_at text i d lt ∙ rw feed refl in
    let found : scan text ≡ Some (words ++ (part ++ []) ∷ [], rest) =
    sym so_far ∙ ap (joined words part) one in
    scanned text ∙ ap (answered (length text)) found
    ∙ ap (λ (l : List ℕ). Ok (words ++ l ∷ [], rest)) (append-nil part)
    ∙ ap (λ (l : List ℕ). Ok (words ++ part ∷ [], l)) (sym (take_rest text (i + 1)))

pub turn_end : (text : List ℕ) (words : List Word) (start i : ℕ) → length text ≤ i
    → IsFound text words start i → first_words text ≡ Err (Malformed (length text))
turn_end text words start i le so_far =
    let one : scan (drop i text) ≡ None = ap scan (drop_of_length-le text le) in
    scanned text
    ∙ ap (answered (length text)) (sym so_far ∙ ap (joined words (between text start i)) one)
