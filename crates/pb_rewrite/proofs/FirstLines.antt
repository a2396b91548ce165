-- The line of the first of a list that is kept last first.
use Rattle.std.proofs.Common.{◌≡◌, ℕ, zero, suc, ◌-◌, ◌+◌, ◌<◌, List, [], ◌∷◌, ◌++◌, length, map, reverse, get_or}
use Rattle.std.proofs.Common.{Some, None, ap, refl, sym, ◌∙◌, arith}
use Rattle.std.proofs.Common.{append_assoc, append-nil}
use Rattle.std.specs.Prelude.{slice_get}
use Rattle.std.proofs.lemmas.List.{reverse-append}
use Rattle.std.proofs.lemmas.Option.{slice_get_within, slice_get-get_or}
use Rattle.pb_names.specs.HeadLines.{first_line, item_line}
use Rattle.pb_names.specs.Source.{item_of, items_of}
use Rattle.pb_names.specs.View.{block_view, stmt_view}
use Rattle.pb_names.specs.declared.resolved.Stmt.{Stmt}
use Rattle.pb_rewrite.specs.View.{item_view, items_view}
use Rattle.pb_rewrite.specs.declared.item.Item.{Item}

pub body_some : {A : Type 0} (body : List (Stmt A)) (s : Stmt A) → slice_get body 0 ≡ Some s
    → first_line (items_of (block_view body)) ≡ Some (item_line (item_of (stmt_view s)))
body_some [] s h = absurd (cc)
body_some (first ∷ body) s h = let e : first ≡ s = cc in ap (λ x. Some (item_line (item_of (stmt_view x)))) e

pub body_none : {A : Type 0} (body : List (Stmt A)) → slice_get body 0 ≡ None
    → first_line (items_of (block_view body)) ≡ None
body_none [] h = refl
body_none (first ∷ body) h = absurd (cc)

last_first : {A : Type 0} (items more : List (Item A)) (k : ℕ) (item : Item A) → slice_get items k ≡ Some item
    → k + 1 ≡ length items → first_line (map item_view (reverse items ++ more)) ≡ Some (item_line (item_view item))
last_first [] more k item h e = absurd (omega arith)
last_first (x ∷ []) more zero item h e = let same : x ≡ item = cc in ap (λ y. Some (item_line (item_view y))) same
last_first (x ∷ []) more (suc k) item h e = absurd (omega arith)
last_first (x ∷ y ∷ items) more zero item h e = absurd (omega arith)
last_first (x ∷ y ∷ items) more (suc k) item h e =
    ap (λ zs. first_line (map item_view (zs ++ more))) (reverse-append (x ∷ []) (y ∷ items))
    ∙ ap (λ zs. first_line (map item_view zs)) (append_assoc (reverse (y ∷ items)) (x ∷ []) more)
    ∙ last_first (y ∷ items) (x ∷ more) k item h (omega arith)

pub items_some : {A : Type 0} (items : List (Item A)) (item : Item A) → slice_get items (length items - 1) ≡ Some item
    → first_line (items_view items) ≡ Some (item_line (item_view item))
items_some items item h =
    let within : length items - 1 < length items = slice_get_within items (length items - 1) item h in
    ap (λ zs. first_line (map item_view zs)) (sym (append-nil (reverse items)))
    ∙ last_first items [] (length items - 1) item h (omega arith)

pub items_none : {A : Type 0} (items : List (Item A)) → slice_get items (length items - 1) ≡ None
    → first_line (items_view items) ≡ None
items_none [] h = refl
items_none (x ∷ items) h = absurd (last_there x items h)
  where
    last_there : {A : Type 0} (x : Item A) (items : List (Item A)) → slice_get (x ∷ items) (length (x ∷ items) - 1) ≡ None → ⊥
    last_there x items h =
        let there = slice_get-get_or (x ∷ items) (length (x ∷ items) - 1) x (omega arith) in
        let no : None ≡ Some (get_or (x ∷ items) (length (x ∷ items) - 1) x) = sym h ∙ there in
        cc
