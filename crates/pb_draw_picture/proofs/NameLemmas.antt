-- The names of an arm at one place more.
use Rattle.std.proofs.Common.{◌≡◌, ℕ, suc, ◌+◌, List, ◌++◌, ◌∷◌, [], ap, ◌∙◌, map, refl, subst, arith}
use Rattle.std.proofs.lemmas.List.{append_assoc, map-append}
use Rattle.pb_base.specs.Lines.{NameTable}
use Rattle.pb_draw.specs.declared.drawing.Lane.{Lane}
use Rattle.pb_draw_picture.specs.Lanes.{name_again, names_again}
use Rattle.pb_draw_picture.specs.Places.{Places}
use Rattle.pb_draw_picture.specs.Shapes.{Text, text_of}
use Rattle.pb_draw_picture.specs.declared.picture.Label.{Label}

pub again_more : (names : NameTable) (places : Places) (lane : Lane) (k : ℕ)
    → names_again names places lane (k + 1) ≡ names_again names places lane k ++ name_again names places lane (k + 1) ∷ []
again_more names places lane k =
    subst (λ (n : ℕ). names_again names places lane n ≡ names_again names places lane k ++ name_again names places lane n ∷ [])
    (let e : suc k ≡ k + 1 = omega arith in e) refl

-- the texts of labels after one more was added
pub texts_more : (old new : List Label) (start made : List Text) (x : Label) (t : Text) → new ≡ old ++ x ∷ []
    → map text_of old ≡ start ++ made → text_of x ≡ t → map text_of new ≡ start ++ (made ++ t ∷ [])
texts_more old new start made x t is before same =
    ap (map text_of) is
    ∙ (map-append text_of old (x ∷ [])
    ∙ (ap (λ (ts : List Text). ts ++ text_of x ∷ []) before
    ∙ (ap (λ (y : Text). (start ++ made) ++ y ∷ []) same ∙ append_assoc start made (t ∷ []))))
