-- Lists that are kept last first.
use Rattle.std.proofs.Common.{◌≡◌, suc, List, [], ◌∷◌, ◌++◌, length, map, reverse, ap, refl, sym, ◌∙◌, arith}
use Rattle.std.proofs.Common.{◌≤◌, append_assoc, length-append}
use Rattle.std.proofs.lemmas.List.{reverse-append, map-append}
use Rattle.pb_names.specs.Source.{item_of, items_of}
use Rattle.pb_names.specs.View.{block_of, block_view, stmt_view}
use Rattle.pb_names.specs.Program as plain
use Rattle.pb_names.specs.declared.resolved.Stmt.{Stmt}
use Rattle.pb_rewrite.specs.View.{item_view, items_view}
use Rattle.pb_rewrite.specs.declared.item.Item.{Item}
use Rattle.pb_rewrite.specs.declared.item.Item.TheVariants.{Left}

-- what was pushed last is first
pub items_view-push : {A : Type 0} (items : List (Item A)) (first : Item A)
    → items_view (items ++ first ∷ []) ≡ item_view first ∷ items_view items
items_view-push items first = ap (map item_view) (reverse-append items (first ∷ []))

pub popped_none : {A : Type 0} (items : List (Item A)) → length items ≡ 0 → items_view items ≡ []
popped_none [] h = refl
popped_none (item ∷ items) h = absurd (omega arith)

-- a statement is moved from the end of a body to the front of the items
pub items_of-push : (block : List plain.Stmt) (s : plain.Stmt)
    → items_of (block_of (block ++ s ∷ [])) ≡ items_of (block_of block) ++ item_of s ∷ []
items_of-push [] s = refl
items_of-push (first ∷ block) s = ap (λ items. item_of first ∷ items) (items_of-push block s)

pub moved_over : {A : Type 0} (body : List (Stmt A)) (s : Stmt A)
    → items_of (block_view (body ++ s ∷ [])) ≡ items_of (block_view body) ++ item_of (stmt_view s) ∷ []
moved_over body s = ap (λ ss. items_of (block_of ss)) (map-append stmt_view body (s ∷ [])) ∙ items_of-push (map stmt_view body) (stmt_view s)

pub one_moved : {A : Type 0} (items items' : List (Item A)) (body body' : List (Stmt A)) (s : Stmt A)
    → body ≡ body' ++ s ∷ [] → items' ≡ items ++ Left s ∷ []
    → items_of (block_view body') ++ items_view items' ≡ items_of (block_view body) ++ items_view items
one_moved items items' body body' s taken put =
    ap (λ is. items_of (block_view body') ++ items_view is) put
    ∙ ap (λ is. items_of (block_view body') ++ is) (items_view-push items (Left s))
    ∙ sym (append_assoc (items_of (block_view body')) (item_of (stmt_view s) ∷ []) (items_view items))
    ∙ ap (λ is. is ++ items_view items) (sym (moved_over body' s))
    ∙ ap (λ ss. items_of (block_view ss) ++ items_view items) (sym taken)

-- what was taken from a list left it shorter
pub fewer_left : {X : Type 0} (all rest : List X) (x : X) → all ≡ rest ++ x ∷ [] → suc (length rest) ≤ length all
fewer_left all rest x taken = omega (arith, ap length taken, length-append rest (x ∷ []))

pub ruleset pushes = (items_view-push, moved_over, append_assoc)
