-- Arms that begin to run, one after another.
use Rattle.std.proofs.Common.{◌≡◌, ◌<◌, List, [], ◌∷◌, ◌++◌, Vec, length, map, ap, refl, sym, ◌∙◌, arith}
use Rattle.std.proofs.Common.{append_assoc, length-append}
use Rattle.std.proofs.lemmas.List.{map-append}
use Rattle.pb_names.specs.Program.{Block}
use Rattle.pb_names.specs.Source as plain
use Rattle.pb_names.specs.Source.{Running, Nothing, Beside, begin, items_of}
use Rattle.pb_names.specs.View.{arm_view as body_view, arms_view, arms_from, block_view}
use Rattle.pb_names.specs.declared.resolved.Stmt.{Stmt}
use Rattle.pb_rewrite.specs.View.{arm_view, running_of, running_view}
use Rattle.pb_rewrite.specs.declared.arm.Arm.{Arm, Fresh}
use Rattle.pb_rewrite.proofs.Views.{view-Fresh}

abbrev beside_last : Running → plain.Arm → Running
beside_last Nothing last = Beside last Nothing
beside_last (Beside arm arms) last = Beside arm (beside_last arms last)

running_of-push : (arms : List plain.Arm) (last : plain.Arm) → running_of (arms ++ last ∷ []) ≡ beside_last (running_of arms) last
running_of-push [] last = refl
running_of-push (arm ∷ arms) last = ap (Beside arm) (running_of-push arms last)

begin-push : (bodies : List Block) (last : Block)
    → begin (arms_from (bodies ++ last ∷ [])) ≡ beside_last (begin (arms_from bodies)) (plain.Doing (items_of last))
begin-push [] last = refl
begin-push (body ∷ bodies) last = ap (Beside (plain.Doing (items_of body))) (begin-push bodies last)

-- one more body has become an arm
pub one_more : {A : Type 0} (arms arms' : List (Arm A)) (bodies : List (Vec (Stmt A) A)) (body : Vec (Stmt A) A)
    → arms' ≡ arms ++ Fresh body ∷ [] → running_view arms ≡ begin (arms_view bodies)
    → running_view arms' ≡ begin (arms_view (bodies ++ body ∷ []))
unfolding body_view
one_more arms arms' bodies body pushed made =
    ap running_view pushed
    ∙ ap running_of (map-append arm_view arms (Fresh body ∷ []))
    ∙ running_of-push (map arm_view arms) (arm_view (Fresh body))
    ∙ ap (λ r. beside_last r (arm_view (Fresh body))) made
    ∙ ap (beside_last (begin (arms_view bodies))) (view-Fresh body)
    ∙ sym (begin-push (map body_view bodies) (block_view body.items))
    ∙ ap (λ bs. begin (arms_from bs)) (sym (map-append body_view bodies (body ∷ [])))

-- the next of a list that is read one by one
pub next_seen : {X : Type 0} (all seen rest rest' : List X) (x : X)
    → seen ++ rest ≡ all → rest ≡ x ∷ rest' → (seen ++ x ∷ []) ++ rest' ≡ all
next_seen all seen rest rest' x whole here =
    append_assoc seen (x ∷ []) rest' ∙ ap (λ r. seen ++ r) (sym here) ∙ whole

pub room_for_next : {X : Type 0} (all seen rest rest' : List X) (x : X)
    → seen ++ rest ≡ all → rest ≡ x ∷ rest' → length seen < length all
room_for_next {X} all seen rest rest' x whole here =
    omega (arith, ap length whole, ap length here, length-append seen rest)
