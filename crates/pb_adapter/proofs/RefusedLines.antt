-- A text of which a line says that a command is refused, read byte by byte.
use Rattle.std.proofs.Common.{◌≡◌, ◌∙◌, ℕ, suc, ◌+◌, ◌<◌, List, ◌∷◌, length, drop, get_or, ap, sym, arith, Bool, ◌||◌, ◌&&◌, ◌==◌, codes}
use Rattle.std.proofs.Math.Seq.{drop-cons}
use Rattle.std.specs.List.{starts_with}
use Rattle.std.specs.Prelude.{nat_eq}
use Rattle.pb_adapter.specs.Answers.{refuses_from}

-- from a byte on, and from the next one on
pub refuses_step : (text : List ℕ) (i : ℕ) (start : Bool) → i < length text
    → refuses_from start (drop i text)
    ≡ ((start && starts_with nat_eq (drop i text) (codes "refused G")) || refuses_from (get_or text i 0 == 10) (drop (i + 1) text))
refuses_step text i start lt =
    let next : suc i ≡ i + 1 = omega arith in
    let here : drop i text ≡ get_or text i 0 ∷ drop (i + 1) text =
    drop-cons text i 0 lt ∙ ap (λ (k : ℕ). get_or text i 0 ∷ drop k text) next in
    ap (λ (bs : List ℕ). refuses_from start bs) here
    ∙ ap (λ (bs : List ℕ). (start && starts_with nat_eq bs (codes "refused G")) || refuses_from (get_or text i 0 == 10) (drop (i + 1) text)) (sym here)
