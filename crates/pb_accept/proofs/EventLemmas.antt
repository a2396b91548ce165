-- The events of a run, told one after another.
use Rattle.std.proofs.Common.{◌≡◌, ◌+◌, ◌≤◌, ◌++◌, ℕ, List, [], ◌∷◌, length, take, drop, map, Option, Some, refl, sym, ap, ◌∙◌, subst}
use Rattle.std.specs.Prelude.{slice_get}
use Rattle.std.proofs.lemmas.List.{map-append, take-append-drop, take_all}
use Rattle.pb_base.proofs.Lists.{take_next}
use Rattle.pb_accept.specs.Sayings.{Saying}
use Rattle.pb_command_io.specs.declared.status.Status.{Status}
use Rattle.pb_command_io.specs.declared.status.Status.TheVariants.{Device}
use Rattle.pb_voice.specs.Tellings.{Telling, Breaking, Ends, Speaks, broken}
use Rattle.pb_voice.proofs.TellingLemmas.{telling_then, breaking_at, breaking_later, breaking_sooner, ends_later}

module _ {T S A : Type 0} (tells breaks : T → S → T → Type 0) (f : A → S) (xs : List A) (i : ℕ) (x : A) (there : slice_get xs i ≡ Some x) (s m u : T)
    (first : Telling tells s (map f (take i xs)) m) where
  next : map f (take i xs) ++ f x ∷ [] ≡ map f (take (i + 1) xs)
  next = sym (ap (map f) (take_next xs i x there) ∙ map-append f (take i xs) (x ∷ []))

  -- one more is told
  pub one_told : tells m (f x) u → Telling tells s (map f (take (i + 1) xs)) u
  one_told step = subst (λ (l : List S). Telling tells s l u) next (telling_then tells s m u (map f (take i xs)) (f x) first step)

  all_of : map f (take (i + 1) xs) ++ map f (drop (i + 1) xs) ≡ map f xs
  all_of = sym (map-append f (take (i + 1) xs) (drop (i + 1) xs)) ∙ ap (map f) (take-append-drop (i + 1) xs)

  -- a write failed at the next
  pub one_broken : breaks m (f x) u → Breaking tells breaks s (map f xs) u
  one_broken fails =
      let here : Breaking tells breaks s (map f (take (i + 1) xs)) u =
      subst (λ (l : List S). Breaking tells breaks s l u) next
      (breaking_later tells breaks s m u (map f (take i xs)) (f x ∷ []) first (breaking_at tells breaks m u (f x) fails)) in
      subst (λ (l : List S). Breaking tells breaks s l u) all_of
      (breaking_sooner tells breaks s u (map f (take (i + 1) xs)) (map f (drop (i + 1) xs)) here)

-- all are told
pub all_are_told : {T S A : Type 0} (tells : T → S → T → Type 0) (f : A → S) (xs : List A) (i : ℕ) (s m : T) → length xs ≤ i
    → Telling tells s (map f (take i xs)) m → Telling tells s (map f xs) m
all_are_told {T} {S} tells f xs i s m all told = subst (λ (l : List S). Telling tells s l m) (ap (map f) (take_all i xs all)) told

-- ---- and then the last thing of a call

module _ {T : Type 0} (tells breaks : T → Saying → T → Type 0) (old new : T) (MaySay : List Saying → Status → Type 0) (said : List Saying)
    (last : Saying) (status : Status) (may : MaySay (said ++ last ∷ []) status) where
  pub last_is_told : (mid : T) (given : Status) → Telling tells old said mid → Ends tells breaks mid (last ∷ []) status new given
      → Speaks tells breaks MaySay old new given
  last_is_told mid given told ends =
      (said ++ last ∷ [], status, may, ends_later tells breaks old mid new said (last ∷ []) status given told ends)

  -- a write failed before
  pub stops_before : Breaking tells breaks old said new → Speaks tells breaks MaySay old new Device
  stops_before fails = (said ++ last ∷ [], status, may, broken (breaking_sooner tells breaks old new said (last ∷ []) fails))
