-- The lines of picks, one after another.
use Rattle.std.proofs.Common.{◌≡◌, ◌++◌, ◌∙◌, ℕ, List, [], ◌∷◌, ap, append_assoc, refl, sym}
use Rattle.std.specs.List.{flat_map}
use Rattle.pb_base.specs.Lines.{line}
use Rattle.pb_history.specs.declared.counted.CountedPick.{CountedPick}
use Rattle.pb_picks.specs.PickLines.{pick_line, pick_lines}

pub line_by_line : (names : List (List ℕ)) (picks : List CountedPick)
    → pick_lines names picks ≡ flat_map (λ pick. line (pick_line names pick)) picks
line_by_line names [] = refl
line_by_line names (pick ∷ picks) =
    ap (λ (l : List ℕ). pick_line names pick ++ (10 ∷ l)) (line_by_line names picks)
    ∙ sym (append_assoc (pick_line names pick) (10 ∷ []) (flat_map (λ other. line (pick_line names other)) picks))
