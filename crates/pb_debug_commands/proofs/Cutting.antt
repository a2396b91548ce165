-- Bytes that are cut into lines in parts.
use Rattle.std.proofs.Common.{◌≡◌, ℕ, ◌++◌, eqb, Bool, true, false, cond, List, [], ◌∷◌, refl, ap, ◌∙◌, append-nil}
use Rattle.pb_debug_commands.specs.Lines.{SplitLines, one_line_more, cut}

-- what is cut of bytes after those that were cut
abbrev joined : SplitLines → List ℕ → SplitLines
joined c bytes = record { lines = c.lines ++ (cut c.rest bytes).lines; rest = (cut c.rest bytes).rest }

cut_step : (part xs ys : List ℕ) (x : ℕ) (b : Bool)
    → cut [] (xs ++ ys) ≡ joined (cut [] xs) ys
    → cut (part ++ x ∷ []) (xs ++ ys) ≡ joined (cut (part ++ x ∷ []) xs) ys
    → cond b (one_line_more part (cut [] (xs ++ ys))) (cut (part ++ x ∷ []) (xs ++ ys))
    ≡ joined (cond b (one_line_more part (cut [] xs)) (cut (part ++ x ∷ []) xs)) ys
cut_step part xs ys x true ends goes_on = ap (one_line_more part) ends
cut_step part xs ys x false ends goes_on = goes_on

pub cut-append : (part xs ys : List ℕ) → cut part (xs ++ ys) ≡ joined (cut part xs) ys
cut-append part [] ys = refl
cut-append part (x ∷ xs) ys =
    cut_step part xs ys x (eqb x 10) (cut-append [] xs ys) (cut-append (part ++ x ∷ []) xs ys)

pub first_lines : (part xs ys : List ℕ) → (cut part (xs ++ ys)).lines ≡ (cut part xs).lines ++ (cut (cut part xs).rest ys).lines
first_lines part xs ys = ap (λ (c : SplitLines). c.lines) (cut-append part xs ys)

-- a line feed, and any other byte
pub cut_end : (part xs : List ℕ) → cut part (xs ++ 10 ∷ []) ≡ record { lines = (cut part xs).lines ++ (cut part xs).rest ∷ []; rest = [] }
cut_end part xs = cut-append part xs (10 ∷ [])

pub cut_byte : (part xs : List ℕ) (b : ℕ) → eqb b 10 ≡ false
    → cut part (xs ++ b ∷ []) ≡ record { lines = (cut part xs).lines; rest = (cut part xs).rest ++ b ∷ [] }
cut_byte part xs b other =
    let c = cut part xs in
    let one : cut c.rest (b ∷ []) ≡ record { lines = []; rest = c.rest ++ b ∷ [] } =
    ap (λ (t : Bool). cond t (one_line_more c.rest (cut [] [])) (cut (c.rest ++ b ∷ []) [])) other in
    let with : List (List ℕ) → SplitLines = λ ls. record { lines = ls; rest = c.rest ++ b ∷ [] } in
    let put : SplitLines → SplitLines = λ k. record { lines = c.lines ++ k.lines; rest = k.rest } in
    cut-append part xs (b ∷ []) ∙ (ap put one ∙ ap with (append-nil c.lines))
