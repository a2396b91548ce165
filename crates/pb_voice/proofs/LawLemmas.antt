-- What is written of what is told.
use Rattle.std.proofs.Common.{◌++◌, ℕ, List, [], ◌∷◌, sym, ap, ◌∙◌, subst}
use Rattle.std.specs.List.{flat_map}
use Rattle.std.proofs.lemmas.List.Concat.{flat_map-append}
use Rattle.pb_voice.specs.Held.{At, Held}
use Rattle.pb_voice.specs.Laws.{WritesFirstPart, WritesWhatIsTold}
use Rattle.pb_voice.specs.Voices.{Adds, Breaks}
use Rattle.pb_voice.specs.declared.form.Form.{Form}
use Rattle.pb_voice.proofs.VoiceLemmas.{adds_nothing, adds_more, breaks_later, breaks_sooner}

pub writes_what_is_told : (S : Type 0) → WritesWhatIsTold S
writes_what_is_told S text_of s t [] same = subst (λ (h : At Held). Adds s [] h) same (adds_nothing s)
writes_what_is_told S text_of s t (one ∷ later) (mid, step, rest) =
    let behind = writes_what_is_told S text_of mid t later rest in
    adds_more s mid t (text_of s.teller.form one) (flat_map (text_of s.teller.form) later) step
    (subst (λ (f : Form). Adds mid (flat_map (text_of f) later) t) step.form behind)

pub writes_first_part : (S : Type 0) → WritesFirstPart S
writes_first_part S text_of s t said broken =
    let before = writes_what_is_told S text_of s broken.mid broken.first broken.told in
    let f = text_of s.teller.form in
    let cut : Breaks broken.mid (f broken.one) t =
    subst (λ (g : Form). Breaks broken.mid (text_of g broken.one) t) before.form broken.broken in
    let far : Breaks s (flat_map f broken.first ++ (f broken.one ++ flat_map f broken.later)) t =
    breaks_later s broken.mid t (flat_map f broken.first) (f broken.one ++ flat_map f broken.later) before
    (breaks_sooner broken.mid t (f broken.one) (flat_map f broken.later) cut) in
    subst (λ (l : List ℕ). Breaks s l t)
    (sym (flat_map-append f broken.first (broken.one ∷ broken.later)) ∙ ap (flat_map f) (sym broken.split)) far
