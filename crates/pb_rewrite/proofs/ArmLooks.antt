-- Running arms that are looked at one after another.
use Rattle.std.proofs.Common.{◌≡◌, ℕ, suc, ◌+◌, ◌<◌, List, length, get_or, drop, drop-cons, add-one, ◌&&◌, ap, sym}
use Rattle.std.proofs.Common.{◌∙◌}
use Rattle.std.proofs.Common.{Option, Some, None, cond, arith, refl}
use Rattle.std.proofs.lemmas.Bool.{ne_eqb}
use Rattle.pb_names.specs.Source as plain
use Rattle.pb_names.specs.Source.{Beside, is_ended, all_ended, find, find_among, first_some}
use Rattle.pb_rewrite.specs.View.{arm_view, running_view}
use Rattle.pb_rewrite.specs.Found.{found_line}
use Rattle.pb_rewrite.specs.declared.arm.Arm.{Arm}
use Rattle.pb_rewrite.specs.declared.arm.Found.{Found}
use Rattle.pb_rewrite.specs.declared.arm.Found.TheVariants.{At}

module _ {A : Type 0} (arms : List (Arm A)) (i : ℕ) (x : Arm A) (within : i < length arms) (here : x ≡ get_or arms i x) where
  pub next_view : running_view (drop i arms) ≡ Beside (arm_view x) (running_view (drop (i + 1) arms))
  next_view =
      ap running_view (drop-cons arms i x within)
      ∙ ap (λ y. Beside (arm_view y) (running_view (drop (suc i) arms))) (sym here)
      ∙ ap (λ j. Beside (arm_view x) (running_view (drop j arms))) (sym (add-one i))

  pub ended_more : all_ended (running_view (drop i arms)) ≡ (is_ended (arm_view x) && all_ended (running_view (drop (i + 1) arms)))
  ended_more = ap all_ended next_view

-- ---- one of them is looked for

-- what was not found is not there
not_found : (found : Found) (arm : Option plain.Arm) → found ≡ found_line arm → ((line : Option ℕ) → found ≡ At line → ⊥)
    → arm ≡ None
not_found found None is never = refl
not_found found (Some arm) is never = absurd (never _ is)

found_first : (found : Found) (arm rest : Option plain.Arm) (line : Option ℕ) → found ≡ found_line arm → found ≡ At line
    → At line ≡ found_line (first_some arm rest)
found_first found None rest line is at = cc
found_first found (Some arm) rest line is at = sym at ∙ is

module _ {A : Type 0} (wanted start : ℕ) (arms : List (Arm A)) (i : ℕ) (x : Arm A) (within : i < length arms)
    (here : x ≡ get_or arms i x) (found : Found) (is : found ≡ found_line (find wanted (start + i) (arm_view x)))
    (so_far : find_among wanted start (running_view arms) ≡ find_among wanted (start + i) (running_view (drop i arms))) where
  split_here : find_among wanted start (running_view arms)
      ≡ first_some (find wanted (start + i) (arm_view x)) (find_among wanted ((start + i) + 1) (running_view (drop (i + 1) arms)))
  split_here = so_far ∙ ap (find_among wanted (start + i)) (next_view arms i x within here)

  pub looked_further : ((line : Option ℕ) → found ≡ At line → ⊥)
      → find_among wanted start (running_view arms) ≡ find_among wanted (start + (i + 1)) (running_view (drop (i + 1) arms))
  looked_further never =
      let next : (start + i) + 1 ≡ start + (i + 1) = omega arith in
      split_here
      ∙ ap (λ o. first_some o (find_among wanted ((start + i) + 1) (running_view (drop (i + 1) arms)))) (not_found found _ is never)
      ∙ ap (λ n. find_among wanted n (running_view (drop (i + 1) arms))) next

  pub found_here : (line : Option ℕ) → found ≡ At line → At line ≡ found_line (find_among wanted start (running_view arms))
  found_here line at = found_first found _ _ line is at ∙ ap found_line (sym split_here)

-- below an arm with another number only its running arms are looked at
pub found_inside : (wanted number : ℕ) (arm : plain.Arm) (line first : ℕ) (arms : plain.Running) (rest : List plain.Item)
    → arm ≡ plain.Waiting line first arms rest → (wanted ≡ number → ⊥) → find wanted number arm ≡ find_among wanted first arms
found_inside wanted number arm line first arms rest is other =
    ap (find wanted number) is
    ∙ ap (λ b. cond b (Some (plain.Waiting line first arms rest)) (find_among wanted first arms)) (ne_eqb wanted number other)
