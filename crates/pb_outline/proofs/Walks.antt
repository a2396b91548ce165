-- What a walk over a list has made of its first elements: one more at a time.
use Rattle.std.proofs.Common.{◌≡◌, ◌∙◌, ℕ, zero, suc, ◌+◌, ◌<◌, List, [], ◌∷◌, ◌++◌, Vec, length, take, get_or, arith}
use Rattle.std.proofs.Common.{Bool, true, false, ap, sym, add-one, append-nil, cond, drop, filter, map, refl}
use Rattle.std.proofs.lemmas.List.{append_assoc, at_drop_more}
use Rattle.pb_tree.specs.View.{arm_view, arms_view, process_view, stmt_view, stmts_view}
use Rattle.pb_tree.specs.declared.program.Process.{Process}
use Rattle.pb_tree.specs.declared.stmt.Stmt.{Stmt}
use Rattle.pb_outline.specs.Places.{Place, arms_places, process_places, processes_places, stmt_places, stmts_places}

flat_suc : {X Y : Type 0} (f : X → List Y) (F : List X → List Y)
    → F [] ≡ [] → ((x : X) (xs : List X) → F (x ∷ xs) ≡ f x ++ F xs)
    → (xs : List X) (i : ℕ) (d : X) → i < length xs → F (take (suc i) xs) ≡ F (take i xs) ++ f (get_or xs i d)
flat_suc f F none more [] i d h = absurd (omega arith)
flat_suc {X} {Y} f F none more (x ∷ xs) zero d h =
    more x [] ∙ ap (λ (l : List Y). f x ++ l) none ∙ append-nil (f x) ∙ ap (λ (l : List Y). l ++ f x) (sym none)
flat_suc {X} {Y} f F none more (x ∷ xs) (suc i) d h =
    more x (take (suc i) xs)
    ∙ ap (λ (l : List Y). f x ++ l) (flat_suc f F none more xs i d (omega arith))
    ∙ sym (append_assoc (f x) (F (take i xs)) (f (get_or xs i d)))
    ∙ ap (λ (l : List Y). l ++ f (get_or xs i d)) (sym (more x (take i xs)))

-- a walk that appends what each element gives: one more element that a loop has read
pub walked_more : {X Y : Type 0} (f : X → List Y) (F : List X → List Y)
    → F [] ≡ [] → ((x : X) (xs : List X) → F (x ∷ xs) ≡ f x ++ F xs)
    → (before now after : List Y) (xs : List X) (i : ℕ) (x : X) → x ≡ get_or xs i x → i < length xs
    → now ≡ before ++ F (take i xs) → after ≡ now ++ f x → after ≡ before ++ F (take (i + 1) xs)
walked_more {X} {Y} f F none more before now after xs i x here h so_far added =
    rw add-one (added
    ∙ ap (λ (l : List Y). l ++ f x) so_far
    ∙ append_assoc before (F (take i xs)) (f x)
    ∙ ap (λ (l : List Y). before ++ l) (ap (λ (y : X). F (take i xs) ++ f y) here
    ∙ sym (flat_suc f F none more xs i x h)))

filter_cons : {Y : Type 0} (b : Bool) (y : Y) (rest : List Y) → cond b (y ∷ rest) rest ≡ cond b (y ∷ []) [] ++ rest
filter_cons true y rest = refl
filter_cons false y rest = refl

-- a loop that keeps the elements that pass a test: it has kept some, and what is left has the others
pub kept_rest : {X Y : Type 0} (p : Y → Bool) (g : X → Y) (all now after : List Y) (xs : List X) (i : ℕ) (x : X)
    → x ≡ get_or xs i x → i < length xs
    → now ++ filter p (map g (drop i xs)) ≡ all → after ≡ now ++ filter p (g x ∷ [])
    → after ++ filter p (map g (drop (i + 1) xs)) ≡ all
kept_rest {X} {Y} p g all now after xs i x here h so_far added =
    let rest = filter p (map g (drop (i + 1) xs)) in
    ap (λ (l : List Y). l ++ rest) added
    ∙ append_assoc now (filter p (g x ∷ [])) rest
    ∙ ap (λ (l : List Y). now ++ l) (sym (filter_cons (p (g x)) (g x) rest))
    ∙ ap (λ (l : List Y). now ++ l) (sym (at_drop_more (λ ys. filter p (map g ys)) xs i x h
    ∙ ap (λ y. filter p (map g (y ∷ drop (i + 1) xs))) (sym here)))
    ∙ so_far

processes_suc : {A : Type 0} (n : ℕ) (ps : List (Process A)) (i : ℕ) (d : Process A) → i < length ps
    → processes_places n (map process_view (take (suc i) ps))
    ≡ processes_places n (map process_view (take i ps)) ++ process_places (n + i) (process_view (get_or ps i d))
processes_suc n [] i d h = absurd (omega arith)
processes_suc n (p ∷ ps) zero d h =
    let same : n ≡ n + zero = omega arith in
    append-nil (process_places n (process_view p)) ∙ ap (λ (k : ℕ). process_places k (process_view p)) same
processes_suc n (p ∷ ps) (suc i) d h =
    let same : suc n + i ≡ n + suc i = omega arith in
    ap (λ (l : List Place). process_places n (process_view p) ++ l) (processes_suc (suc n) ps i d (omega arith))
    ∙ ap (λ (k : ℕ). process_places n (process_view p) ++ (processes_places (suc n) (map process_view (take i ps))
    ++ process_places k (process_view (get_or ps i d)))) same
    ∙ sym (append_assoc (process_places n (process_view p)) (processes_places (suc n) (map process_view (take i ps)))
    (process_places (n + suc i) (process_view (get_or ps i d))))

-- one more process
pub processes_more : {A : Type 0} (before now after : List Place) (ps : List (Process A)) (i : ℕ) (p : Process A)
    → p ≡ get_or ps i p → i < length ps
    → now ≡ before ++ processes_places 0 (map process_view (take i ps))
    → after ≡ now ++ process_places i (process_view p)
    → after ≡ before ++ processes_places 0 (map process_view (take (i + 1) ps))
processes_more before now after ps i p here h so_far added =
    let same : i ≡ 0 + i = omega arith in
    rw add-one (added
    ∙ ap (λ (l : List Place). l ++ process_places i (process_view p)) so_far
    ∙ append_assoc before (processes_places 0 (map process_view (take i ps))) (process_places i (process_view p))
    ∙ ap (λ (l : List Place). before ++ l)
    (ap (λ y. processes_places 0 (map process_view (take i ps)) ++ process_places i (process_view y)) here
    ∙ ap (λ (k : ℕ). processes_places 0 (map process_view (take i ps)) ++ process_places k (process_view (get_or ps i p))) same
    ∙ sym (processes_suc 0 ps i p h)))

-- one more statement, and one more arm

pub stmts_more : {A : Type 0} (p : ℕ) (before now after : List Place) (ss : List (Stmt A)) (i : ℕ) (s : Stmt A)
    → s ≡ get_or ss i s → i < length ss
    → now ≡ before ++ stmts_places p (stmts_view (take i ss))
    → after ≡ now ++ stmt_places p (stmt_view s)
    → after ≡ before ++ stmts_places p (stmts_view (take (i + 1) ss))
stmts_more p =
    walked_more (λ s. stmt_places p (stmt_view s)) (λ ss. stmts_places p (stmts_view ss)) refl (λ s ss. refl)

pub arms_more : {A : Type 0} (p : ℕ) (before now after : List Place) (arms : List (Vec (Stmt A) A)) (i : ℕ)
    (arm : Vec (Stmt A) A) → arm ≡ get_or arms i arm → i < length arms
    → now ≡ before ++ arms_places p (arms_view (take i arms))
    → after ≡ now ++ stmts_places p (stmts_view arm.items)
    → after ≡ before ++ arms_places p (arms_view (take (i + 1) arms))
unfolding arm_view
arms_more p =
    walked_more (λ arm. stmts_places p (stmts_view arm.items)) (λ arms. arms_places p (arms_view arms)) refl
    (λ arm arms. refl)
