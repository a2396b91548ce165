-- Bytes that are shown, one after another.
use Rattle.std.proofs.Common.{◌≡◌, ◌<◌, ℕ, ◌+◌, List, [], ◌∷◌, ◌++◌, length, get_or, drop, refl, ap, sym, append_assoc, ◌∙◌}
use Rattle.std.proofs.lemmas.List.{drop_more}
use Rattle.pb_message_excerpts.specs.Characters.{below_bytes, below_next, later_next, shown_bytes, shown_next}

-- the next byte as it is shown
shown_more : (bytes : List ℕ) (i later : ℕ) → i < length bytes
    → shown_bytes later (drop i bytes)
    ≡ shown_next later (drop i bytes) (get_or bytes i 0) ∷ shown_bytes (later_next later (drop i bytes)) (drop (i + 1) bytes)
unfolding shown_bytes
shown_more bytes i later l = rw (drop_more bytes i 0 l) refl

-- bytes that are shown, with one more
pub shown_step : (out bytes : List ℕ) (i later : ℕ) (whole : List ℕ) → i < length bytes
    → out ++ shown_bytes later (drop i bytes) ≡ whole
    → (out ++ shown_next later (drop i bytes) (get_or bytes i 0) ∷ [])
    ++ shown_bytes (later_next later (drop i bytes)) (drop (i + 1) bytes) ≡ whole
shown_step out bytes i later whole l h =
    append_assoc out (shown_next later (drop i bytes) (get_or bytes i 0) ∷ [])
    (shown_bytes (later_next later (drop i bytes)) (drop (i + 1) bytes))
    ∙ (ap (λ (r : List ℕ). out ++ r) (sym (shown_more bytes i later l)) ∙ h)

-- what is below the next byte
below_more : (bytes : List ℕ) (i later : ℕ) → i < length bytes
    → below_bytes later (drop i bytes)
    ≡ below_next later (drop i bytes) (get_or bytes i 0) ++ below_bytes (later_next later (drop i bytes)) (drop (i + 1) bytes)
unfolding below_bytes
below_more bytes i later l = rw (drop_more bytes i 0 l) refl

-- what is below bytes, with one more
pub below_step : (out bytes : List ℕ) (i later : ℕ) (whole : List ℕ) → i < length bytes
    → out ++ below_bytes later (drop i bytes) ≡ whole
    → (out ++ below_next later (drop i bytes) (get_or bytes i 0))
    ++ below_bytes (later_next later (drop i bytes)) (drop (i + 1) bytes) ≡ whole
below_step out bytes i later whole l h =
    append_assoc out (below_next later (drop i bytes) (get_or bytes i 0))
    (below_bytes (later_next later (drop i bytes)) (drop (i + 1) bytes))
    ∙ (ap (λ (r : List ℕ). out ++ r) (sym (below_more bytes i later l)) ∙ h)
