-- Things that are told one after another, and then others.
use Rattle.std.proofs.Common.{◌++◌, List, [], ◌∷◌, refl, sym, ap, ◌∙◌, subst, append_assoc}
use Rattle.pb_command_io.specs.declared.status.Status.{Status}
use Rattle.pb_voice.specs.Tellings.{Telling, Breaking, Ends, whole, broken}

pub telling_more : {T S : Type 0} (tells : T → S → T → Type 0) (s m u : T) (xs ys : List S) → Telling tells s xs m
    → Telling tells m ys u → Telling tells s (xs ++ ys) u
telling_more {T} tells s m u [] ys same later = subst (λ (t : T). Telling tells t ys u) (sym same) later
telling_more tells s m u (x ∷ xs) ys (t, step, first) later = (t, step, telling_more tells t m u xs ys first later)

-- one more is told
pub telling_then : {T S : Type 0} (tells : T → S → T → Type 0) (s m u : T) (xs : List S) (x : S) → Telling tells s xs m
    → tells m x u → Telling tells s (xs ++ x ∷ []) u
telling_then tells s m u xs x first step = telling_more tells s m u xs (x ∷ []) first (u, step, refl)

-- a write failed after what is told
pub breaking_later : {T S : Type 0} (tells breaks : T → S → T → Type 0) (s m u : T) (xs ys : List S) → Telling tells s xs m
    → Breaking tells breaks m ys u → Breaking tells breaks s (xs ++ ys) u
breaking_later {T} {S} tells breaks s m u xs ys first stop = record {
  first = xs ++ stop.first;
  one = stop.one;
  later = stop.later;
  mid = stop.mid;
  split = ap (λ (l : List S). xs ++ l) stop.split ∙ sym (append_assoc xs stop.first (stop.one ∷ stop.later));
  told = telling_more tells s m stop.mid xs stop.first first stop.told;
  broken = stop.broken;
}

-- and there would have been more
pub breaking_sooner : {T S : Type 0} (tells breaks : T → S → T → Type 0) (s u : T) (xs ys : List S)
    → Breaking tells breaks s xs u → Breaking tells breaks s (xs ++ ys) u
breaking_sooner {T} {S} tells breaks s u xs ys stop = record {
  first = stop.first;
  one = stop.one;
  later = stop.later ++ ys;
  mid = stop.mid;
  split = ap (λ (l : List S). l ++ ys) stop.split ∙ append_assoc stop.first (stop.one ∷ stop.later) ys;
  told = stop.told;
  broken = stop.broken;
}

-- a write failed at the first of these
pub breaking_at : {T S : Type 0} (tells breaks : T → S → T → Type 0) (s u : T) (x : S) → breaks s x u
    → Breaking tells breaks s (x ∷ []) u
breaking_at tells breaks s u x fails = record {
  first = [];
  one = x;
  later = [];
  mid = s;
  split = refl;
  told = refl;
  broken = fails;
}

-- others were told before
pub ends_later : {T S : Type 0} (tells breaks : T → S → T → Type 0) (s m u : T) (xs ys : List S) (status given : Status)
    → Telling tells s xs m → Ends tells breaks m ys status u given → Ends tells breaks s (xs ++ ys) status u given
ends_later tells breaks s m u xs ys status _ first (whole not_device told) = whole not_device (telling_more tells s m u xs ys first told)
ends_later tells breaks s m u xs ys status _ first (broken is) = broken (breaking_later tells breaks s m u xs ys first is)
