-- Names that differ from one another.
use Rattle.std.proofs.Common.{◌≡◌, ◌≢◌, suc, Bool, true, false, not, ◌&&◌, List, [], ◌∷◌, ◌++◌, get_or, refl, sym}
use Rattle.std.proofs.Common.{arith}
use Rattle.std.specs.Prelude.{All, AllPairs}
use Rattle.std.specs.Str.{bytes_eq}
use Rattle.std.proofs.lemmas.Slice.Eq.{bytes_eq-Decides}
use Rattle.pb_code.specs.Names.{Word, is_among, is_name}
use Rattle.pb_code.proofs.NameTests.{false_from}
use Rattle.pb_object.specs.Words.{is_new_name, are_new}
use Rattle.pb_object.proofs.FirstToSecond.{among_push}

new_step : (a b : Bool) → a ≡ false → b ≡ true → (not a && b) ≡ true
new_step true b e h = absurd cc
new_step false b e h = h

differ : (v w : Word) → v ≢ w → bytes_eq v w ≡ false
differ v w other = false_from (bytes_eq v w) (λ h. other ((bytes_eq-Decides v w).0 h))

-- names that differ from one another and from earlier ones are new
pub apart_are_new : (earlier names : List Word) → All (λ w. is_among earlier w ≡ false) names → AllPairs (λ a b. a ≢ b) names
    → are_new earlier names ≡ true
apart_are_new earlier [] before apart = refl
apart_are_new earlier (w ∷ names) before apart =
    new_step (is_among earlier w) (are_new (earlier ++ w ∷ []) names) (before 0 w (omega arith))
    (apart_are_new (earlier ++ w ∷ []) names
    (λ k d lt. among_push earlier w (get_or names k d) (before (suc k) d (omega (arith, lt)))
    (differ (get_or names k d) w (λ same. apart 0 (suc k) d (omega arith) (omega (arith, lt)) (sym same))))
    (λ i j d u v. apart (suc i) (suc j) d (omega (arith, u)) (omega (arith, v))))

new_both : (a b c : Bool) → a ≡ true → (not b && c) ≡ true → ((a && not b) ≡ true) × (c ≡ true)
new_both true true c e h = absurd cc
new_both true false c e h = (refl, h)
new_both false b c e h = absurd cc

-- the first of new names is a new name, and the others are new after it
pub new_parts : (earlier : List Word) (w : Word) (names : List Word) → is_name w ≡ true → are_new earlier (w ∷ names) ≡ true
    → (is_new_name earlier w ≡ true) × (are_new (earlier ++ w ∷ []) names ≡ true)
new_parts earlier w names name new = new_both (is_name w) (is_among earlier w) (are_new (earlier ++ w ∷ []) names) name new
