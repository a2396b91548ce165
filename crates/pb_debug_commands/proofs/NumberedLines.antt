-- The lines of bytes, counted from the front.
use Rattle.std.proofs.Common.{◌≡◌, ℕ, zero, suc, ◌+◌, ◌-◌, ◌<◌, ◌++◌, eqb, Bool, true, false, cond, List, [], ◌∷◌}
use Rattle.std.proofs.Common.{length, take, drop, Option, Some, None, option_map, refl, sym, ap, ◌∙◌, subst, arith}
use Rattle.std.proofs.Common.{append_assoc, append-nil}
use Rattle.std.specs.Prelude.{slice_get}
use Rattle.std.specs.List.{position}
use Rattle.pb_debug_commands.specs.Lines.{SplitLines, one_line_more, cut, last_line, lines_of, line_numbered}
use Rattle.pb_debug_commands.proofs.Spellings.{first_at, mapped, position_is}

-- ---- the first line feed

abbrev Ends : (part bs : List ℕ) → (at : ℕ) → SplitLines → Type 0
Ends part bs at c = c ≡ one_line_more (part ++ take at bs) (cut [] (drop (at + 1) bs))

end_step : (part bs : List ℕ) (b at : ℕ) (t : Bool) → cond t (Some 0) (option_map suc (first_at 10 bs)) ≡ Some at
    → ((j : ℕ) → first_at 10 bs ≡ Some j → Ends (part ++ b ∷ []) bs j (cut (part ++ b ∷ []) bs))
    → Ends part (b ∷ bs) at (cond t (one_line_more part (cut [] bs)) (cut (part ++ b ∷ []) bs))
end_step part bs b at true h rest =
    let zero' : 0 ≡ at = cc in
    subst (λ (k : ℕ). Ends part (b ∷ bs) k (one_line_more part (cut [] bs))) zero'
    (ap (λ (p : List ℕ). one_line_more p (cut [] bs)) (sym (append-nil part)))
end_step part bs b at false h rest =
    let m = mapped suc (first_at 10 bs) at h in
    let n : suc (m.0 + 1) ≡ suc m.0 + 1 = omega arith in
    let one = append_assoc part (b ∷ []) (take m.0 bs) in
    subst (λ (k : ℕ). Ends part (b ∷ bs) k (cut (part ++ b ∷ []) bs)) m.2
    (rest m.0 m.1 ∙ (ap (λ (p : List ℕ). one_line_more p (cut [] (drop (m.0 + 1) bs))) one
    ∙ ap (λ (k : ℕ). one_line_more (part ++ b ∷ take m.0 bs) (cut [] (drop k (b ∷ bs)))) n))

-- a line ends at the first line feed, and the next begins after it
end_at : (part bs : List ℕ) (at : ℕ) → first_at 10 bs ≡ Some at → Ends part bs at (cut part bs)
end_at part [] at h = absurd cc
end_at part (b ∷ bs) at h = end_step part bs b at (eqb b 10) h (λ j. end_at (part ++ b ∷ []) bs j)

none_left : (o : Option ℕ) → option_map suc o ≡ None → o ≡ None
none_left None h = refl
none_left (Some j) h = absurd cc

goes_step : (part bs : List ℕ) (b : ℕ) (t : Bool) → cond t (Some 0) (option_map suc (first_at 10 bs)) ≡ None
    → (first_at 10 bs ≡ None → cut (part ++ b ∷ []) bs ≡ record { lines = []; rest = (part ++ b ∷ []) ++ bs })
    → cond t (one_line_more part (cut [] bs)) (cut (part ++ b ∷ []) bs) ≡ record { lines = []; rest = part ++ b ∷ bs }
goes_step part bs b true h rest = absurd cc
goes_step part bs b false h rest =
    let whole : List ℕ → SplitLines = λ text. record { lines = []; rest = text } in
    rest (none_left (first_at 10 bs) h) ∙ ap whole (append_assoc part (b ∷ []) bs)

-- with no line feed there is no end
goes_on : (part bs : List ℕ) → first_at 10 bs ≡ None → cut part bs ≡ record { lines = []; rest = part ++ bs }
goes_on part [] h = let whole : List ℕ → SplitLines = λ text. record { lines = []; rest = text } in ap whole (sym (append-nil part))
goes_on part (b ∷ bs) h = goes_step part bs b (eqb b 10) h (goes_on (part ++ b ∷ []) bs)

-- ---- lines

abbrev all_of : SplitLines → List (List ℕ)
all_of c = c.lines ++ last_line c.rest

abbrev feed : List ℕ → Option ℕ
feed bs = position (λ b. eqb b 10) bs

module _ (bs : List ℕ) where
  lines_behind : (at : ℕ) → Some at ≡ feed bs → lines_of bs ≡ take at bs ∷ lines_of (drop (at + 1) bs)
  lines_behind at h = ap all_of (end_at [] bs at (sym (position_is 10 bs) ∙ sym h))

  one_line : None ≡ feed bs → lines_of bs ≡ last_line bs
  one_line h = ap all_of (goes_on [] bs (sym (position_is 10 bs) ∙ sym h))

  -- the first line: what is before the first line feed, or all if it has none
  pub first_ends : (at : ℕ) → Some at ≡ feed bs → Some (take at bs) ≡ line_numbered bs 1
  first_ends at h = sym (ap (λ (ls : List (List ℕ)). slice_get ls 0) (lines_behind at h))

  pub first_is_all : None ≡ feed bs → (length bs ≡ 0 → ⊥) → Some bs ≡ line_numbered bs 1
  first_is_all h some = all bs some ∙ sym (ap (λ (ls : List (List ℕ)). slice_get ls 0) (one_line h))
    where
      all : (xs : List ℕ) → (length xs ≡ 0 → ⊥) → Some xs ≡ slice_get (last_line xs) 0
      all [] some = absurd (some refl)
      all (b ∷ xs) some = refl

  -- a later line is one of those after the first line feed
  pub later_behind : (n at : ℕ) → 1 < n → Some at ≡ feed bs → line_numbered (drop (at + 1) bs) (n - 1) ≡ line_numbered bs n
  later_behind zero at lt h = absurd (omega (arith, lt))
  later_behind (suc zero) at lt h = absurd (omega (arith, lt))
  later_behind (suc (suc n)) at lt h =
      let one : suc (suc n) - 1 ≡ suc n = omega arith in
      ap (line_numbered (drop (at + 1) bs)) one ∙ sym (ap (λ (ls : List (List ℕ)). slice_get ls (suc n)) (lines_behind at h))

  pub no_later : (n : ℕ) → 1 < n → None ≡ feed bs → None ≡ line_numbered bs n
  no_later zero lt h = absurd (omega (arith, lt))
  no_later (suc zero) lt h = absurd (omega (arith, lt))
  no_later (suc (suc n)) lt h = sym (ap (λ (ls : List (List ℕ)). slice_get ls (suc n)) (one_line h) ∙ past bs)
    where
      past : (xs : List ℕ) → slice_get (last_line xs) (suc n) ≡ None
      past [] = refl
      past (b ∷ xs) = refl

-- an empty text has no line
pub none_in_nothing : (bs : List ℕ) → length bs ≡ 0 → None ≡ line_numbered bs 1
none_in_nothing [] h = refl
none_in_nothing (b ∷ bs) h = absurd (omega (arith, h))
