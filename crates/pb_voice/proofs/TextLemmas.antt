-- The objects of the lines of a text, said one after another.
use Rattle.std.proofs.Common.{◌≡◌, ◌++◌, ℕ, List, [], ◌∷◌, refl, sym, ap, ◌∙◌, subst, append_assoc, append-nil}
use Rattle.std.specs.List.{flat_map}
use Rattle.pb_voice.specs.Held.{At, Held}
use Rattle.pb_voice.specs.Texts.{line_json, lines_json, lines_of}
use Rattle.pb_voice.specs.Voices.{Adds, Breaks}
use Rattle.pb_voice.proofs.VoiceLemmas.{adds_nothing, adds_more, breaks_later, breaks_sooner}

-- the objects of the first lines are said, and those of the rest are left
abbrev pub AreSaid : (kind text rest : List ℕ) → At Held → At Held → Type 0
AreSaid kind text rest start now = (said : List ℕ) × (lines_json kind text ≡ said ++ lines_json kind rest) × Adds start said now

pub none_said : (kind text : List ℕ) (start : At Held) → AreSaid kind text text start start
none_said kind text start = ([], refl, adds_nothing start)

module _ (kind text rest one later : List ℕ) (start mid new : At Held) (cut : lines_of rest ≡ one ∷ lines_of later)
    (are : AreSaid kind text rest start mid) where
  abbrev here : List ℕ
  here = line_json kind one

  split : lines_json kind text ≡ are.0 ++ (here ++ lines_json kind later)
  split = are.1 ∙ ap (λ (ls : List (List ℕ)). are.0 ++ flat_map (line_json kind) ls) cut

  pub one_more_said : Adds mid here new → AreSaid kind text later start new
  one_more_said step = (
    are.0 ++ here,
    split ∙ sym (append_assoc are.0 here (lines_json kind later)),
    adds_more start mid new are.0 here are.2 step,
  )

  pub one_breaks : Breaks mid here new → Breaks start (lines_json kind text) new
  one_breaks broken =
      subst (λ (l : List ℕ). Breaks start l new) (sym split)
      (breaks_later start mid new are.0 (here ++ lines_json kind later) are.2 (breaks_sooner mid new here (lines_json kind later) broken))

-- nothing is left
pub all_said : (kind text rest : List ℕ) (start now : At Held) → rest ≡ [] → AreSaid kind text rest start now → Adds start (lines_json kind text) now
all_said kind text rest start now none (said, split, adds) =
    subst (λ (l : List ℕ). Adds start l now)
    (sym (split ∙ (ap (λ (r : List ℕ). said ++ lines_json kind r) none ∙ append-nil said))) adds
