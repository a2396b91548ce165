-- Counts that follow one another, and one more.
use Rattle.std.proofs.Common.{◌≡◌, ◌≢◌, ℕ, ◌+◌, ◌<◌, List, [], ◌∷◌, ◌++◌, replicate, sym, ap, ◌∙◌, append-nil}
use Rattle.std.proofs.Common.{append_assoc}
use Rattle.pb_base.specs.declared.pick.Pick.{Pick}
use Rattle.pb_history.specs.Replays.{spread}
use Rattle.pb_history.specs.declared.counted.CountedPick.{CountedPick}
use Rattle.pb_history.proofs.SpanEvents.{replicate_append}
use Rattle.pb_history.proofs.CountedPicks.{spread_append}
use Rattle.pb_picks.specs.Counted.{AreApart}

-- the picks of some counts and of one more
pub spread_one : (xs : List CountedPick) (c : CountedPick) → spread (xs ++ c ∷ []) ≡ spread xs ++ replicate c.count c.pick
spread_one xs c = spread_append xs (c ∷ []) ∙ ap (λ (ps : List Pick). spread xs ++ ps) (append-nil (replicate c.count c.pick))

-- a last count of the same arm that takes in more
pub spread_grown : (xs : List CountedPick) (c : CountedPick) (pick : Pick) (more : ℕ) → c.pick ≡ pick
    → spread (xs ++ record { pick = pick; count = c.count + more } ∷ []) ≡ spread (xs ++ c ∷ []) ++ replicate more pick
spread_grown xs c pick more same =
    spread_one xs (record { pick = pick; count = c.count + more })
    ∙ (ap (λ (ps : List Pick). spread xs ++ ps) (sym (replicate_append c.count more pick))
    ∙ (sym (append_assoc (spread xs) (replicate c.count pick) (replicate more pick))
    ∙ ap (λ (ps : List Pick). ps ++ replicate more pick)
    (ap (λ (p : Pick). spread xs ++ replicate c.count p) (sym same) ∙ sym (spread_one xs c))))

-- a greater last count of the same arm
pub apart_grown : (xs : List CountedPick) (c d : CountedPick) → d.pick ≡ c.pick → 0 < d.count → AreApart (xs ++ c ∷ []) → AreApart (xs ++ d ∷ [])
apart_grown [] c d same some h = some
apart_grown (x ∷ []) c d same some h = (h.0, λ e. h.1 (e ∙ same), some)
apart_grown (x ∷ (y ∷ xs)) c d same some h = (h.0, h.1, apart_grown (y ∷ xs) c d same some h.2)

-- a count of another arm after the last
pub apart_more : (xs : List CountedPick) (c d : CountedPick) → c.pick ≢ d.pick → 0 < d.count → AreApart (xs ++ c ∷ []) → AreApart ((xs ++ c ∷ []) ++ d ∷ [])
apart_more [] c d other some h = (h, other, some)
apart_more (x ∷ []) c d other some h = (h.0, h.1, (h.2, other, some))
apart_more (x ∷ (y ∷ xs)) c d other some h = (h.0, h.1, apart_more (y ∷ xs) c d other some h.2)
