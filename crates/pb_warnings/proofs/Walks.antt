-- What a walk over a list has found in its first elements: one more at a time.
use Rattle.std.proofs.Common.{◌≡◌, ◌∙◌, ℕ, zero, suc, ◌+◌, ◌<◌, ◌||◌, List, [], ◌∷◌, ◌++◌, Vec, length, take, get_or, arith}
use Rattle.std.proofs.Common.{Result, Ok, Err, OnOk, Bool, true, false, ap, sym, add-one, append-nil, map, refl}
use Rattle.std.specs.List.{flat_map}
use Rattle.std.proofs.lemmas.List.{append_assoc}
use Rattle.pb_base.specs.Banker.{cell}
use Rattle.pb_base.specs.Steppers.{Table}
use Rattle.pb_tree.specs.Syntax.{ProcessSyntax}
use Rattle.pb_tree.specs.View.{arm_view, arms_view, name_view, process_view, resource_view, stmt_view, stmts_view}
use Rattle.pb_tree.specs.declared.expr.Name.{Name}
use Rattle.pb_tree.specs.declared.program.Process.{Process}
use Rattle.pb_tree.specs.declared.program.Resource.{Resource}
use Rattle.pb_tree.specs.declared.stmt.Stmt.{Stmt}
use Rattle.pb_warnings.specs.Warnings.{Warning, OneArm, all_claims, arms_read, lone_arm, lone_in, lone_in_arms, lone_in_stmt, process_warnings}
use Rattle.pb_warnings.specs.Warnings.{resource_warnings, stmt_reads, stmts_read, unread, unused}

-- ---- a walk that appends what each element gives

flat_suc : {X Y : Type 0} (f : X → List Y) (F : List X → List Y)
    → F [] ≡ [] → ((x : X) (xs : List X) → F (x ∷ xs) ≡ f x ++ F xs)
    → (xs : List X) (i : ℕ) (d : X) → i < length xs → F (take (suc i) xs) ≡ F (take i xs) ++ f (get_or xs i d)
flat_suc f F none more [] i d h = absurd (omega arith)
flat_suc {X} {Y} f F none more (x ∷ xs) zero d h =
    more x [] ∙ ap (λ (l : List Y). f x ++ l) none ∙ append-nil (f x) ∙ ap (λ (l : List Y). l ++ f x) (sym none)
flat_suc {X} {Y} f F none more (x ∷ xs) (suc i) d h =
    more x (take (suc i) xs)
    ∙ ap (λ (l : List Y). f x ++ l) (flat_suc f F none more xs i d (omega arith))
    ∙ sym (append_assoc (f x) (F (take i xs)) (f (get_or xs i d)))
    ∙ ap (λ (l : List Y). l ++ f (get_or xs i d)) (sym (more x (take i xs)))

walked_more : {X Y : Type 0} (f : X → List Y) (F : List X → List Y)
    → F [] ≡ [] → ((x : X) (xs : List X) → F (x ∷ xs) ≡ f x ++ F xs)
    → (before now after : List Y) (xs : List X) (i : ℕ) (x : X) → x ≡ get_or xs i x → i < length xs
    → now ≡ before ++ F (take i xs) → after ≡ now ++ f x → after ≡ before ++ F (take (i + 1) xs)
walked_more {X} {Y} f F none more before now after xs i x here h so_far added =
    rw add-one (added
    ∙ ap (λ (l : List Y). l ++ f x) so_far
    ∙ append_assoc before (F (take i xs)) (f x)
    ∙ ap (λ (l : List Y). before ++ l) (ap (λ (y : X). F (take i xs) ++ f y) here
    ∙ sym (flat_suc f F none more xs i x h)))

-- what is appended first, and what is appended then
pub lone_then : {V E : Type 0} (r : Result V E) (before mid after first later whole : List Warning) → mid ≡ before ++ first
    → whole ≡ first ++ later → OnOk r (after ≡ mid ++ later) → OnOk r (after ≡ before ++ whole)
lone_then (Ok v) before mid after first later whole mid_is whole_is after_is =
    after_is
    ∙ ap (λ (l : List Warning). l ++ later) mid_is
    ∙ append_assoc before first later
    ∙ ap (λ (l : List Warning). before ++ l) (sym whole_is)
lone_then (Err e) before mid after first later whole mid_is whole_is after_is = tt

-- one more statement, arm, integer and process

pub lone_more : {A : Type 0} (before now after : List Warning) (ss : List (Stmt A)) (i : ℕ) (s : Stmt A)
    → s ≡ get_or ss i s → i < length ss
    → now ≡ before ++ lone_in (stmts_view (take i ss))
    → after ≡ now ++ lone_in_stmt (stmt_view s)
    → after ≡ before ++ lone_in (stmts_view (take (i + 1) ss))
lone_more = walked_more (λ s. lone_in_stmt (stmt_view s)) (λ ss. lone_in (stmts_view ss)) refl (λ s ss. refl)

pub lone_arms_more : {A : Type 0} (before now after : List Warning) (arms : List (Vec (Stmt A) A)) (i : ℕ)
    (arm : Vec (Stmt A) A) → arm ≡ get_or arms i arm → i < length arms
    → now ≡ before ++ lone_in_arms (arms_view (take i arms))
    → after ≡ now ++ lone_in (stmts_view arm.items)
    → after ≡ before ++ lone_in_arms (arms_view (take (i + 1) arms))
unfolding arm_view
lone_arms_more =
    walked_more (λ arm. lone_in (stmts_view arm.items)) (λ arms. lone_in_arms (arms_view arms)) refl (λ arm arms. refl)

pub integers_more : {A : Type 0} (text : List ℕ) (process : ProcessSyntax) (before now after : List Warning)
    (names : List (Name A)) (i : ℕ) (name : Name A) → name ≡ get_or names i name → i < length names
    → now ≡ before ++ flat_map (unread text process) (map name_view (take i names))
    → after ≡ now ++ unread text process (name_view name)
    → after ≡ before ++ flat_map (unread text process) (map name_view (take (i + 1) names))
integers_more text process =
    walked_more (λ name. unread text process (name_view name)) (λ names. flat_map (unread text process) (map name_view names))
    refl (λ name names. refl)

pub processes_more : {A : Type 0} (text : List ℕ) (before now after : List Warning)
    (processes : List (Process A)) (i : ℕ) (process : Process A) → process ≡ get_or processes i process → i < length processes
    → now ≡ before ++ flat_map (process_warnings text) (map process_view (take i processes))
    → after ≡ now ++ process_warnings text (process_view process)
    → after ≡ before ++ flat_map (process_warnings text) (map process_view (take (i + 1) processes))
processes_more text =
    walked_more (λ process. process_warnings text (process_view process))
    (λ processes. flat_map (process_warnings text) (map process_view processes)) refl (λ process processes. refl)

-- ---- one more resource, with its number

resources_suc : {A : Type 0} (text : List ℕ) (claims : Table) (n : ℕ) (rs : List (Resource A)) (i : ℕ) (d : Resource A)
    → i < length rs
    → resource_warnings text claims n (map resource_view (take (suc i) rs))
    ≡ resource_warnings text claims n (map resource_view (take i rs)) ++ unused text claims (n + i) (resource_view (get_or rs i d))
resources_suc text claims n [] i d h = absurd (omega arith)
resources_suc text claims n (r ∷ rs) zero d h =
    let same : n ≡ n + zero = omega arith in
    append-nil (unused text claims n (resource_view r)) ∙ ap (λ (k : ℕ). unused text claims k (resource_view r)) same
resources_suc text claims n (r ∷ rs) (suc i) d h =
    let same : suc n + i ≡ n + suc i = omega arith in
    let first = unused text claims n (resource_view r) in
    let middle = resource_warnings text claims (suc n) (map resource_view (take i rs)) in
    ap (λ (l : List Warning). first ++ l) (resources_suc text claims (suc n) rs i d (omega arith))
    ∙ ap (λ (k : ℕ). first ++ (middle ++ unused text claims k (resource_view (get_or rs i d)))) same
    ∙ sym (append_assoc first middle (unused text claims (n + suc i) (resource_view (get_or rs i d))))

pub resources_more : {A : Type 0} (text : List ℕ) (claims : Table) (before now after : List Warning)
    (rs : List (Resource A)) (i : ℕ) (r : Resource A) → r ≡ get_or rs i r → i < length rs
    → now ≡ before ++ resource_warnings text claims 0 (map resource_view (take i rs))
    → after ≡ now ++ unused text claims i (resource_view r)
    → after ≡ before ++ resource_warnings text claims 0 (map resource_view (take (i + 1) rs))
resources_more text claims before now after rs i r here h so_far added =
    let same : i ≡ 0 + i = omega arith in
    let first = resource_warnings text claims 0 (map resource_view (take i rs)) in
    rw add-one (added
    ∙ ap (λ (l : List Warning). l ++ unused text claims i (resource_view r)) so_far
    ∙ append_assoc before first (unused text claims i (resource_view r))
    ∙ ap (λ (l : List Warning). before ++ l)
    (ap (λ y. first ++ unused text claims i (resource_view y)) here
    ∙ ap (λ (k : ℕ). first ++ unused text claims k (resource_view (get_or rs i r))) same
    ∙ sym (resources_suc text claims 0 rs i r h)))

-- ---- one more row of claims

claims_suc : (claims : Table) (i r : ℕ) → i < length claims
    → all_claims (take (suc i) claims) r ≡ all_claims (take i claims) r + cell claims i r
claims_suc [] i r h = absurd (omega arith)
claims_suc (row ∷ claims) zero r h = omega arith
claims_suc (row ∷ claims) (suc i) r h = let rest = claims_suc claims i r (omega arith) in omega (arith, rest)

pub claims_more : (claims : Table) (i r : ℕ) → i < length claims
    → all_claims (take (i + 1) claims) r ≡ all_claims (take i claims) r + cell claims i r
claims_more claims i r h = rw add-one (claims_suc claims i r h)

-- ---- a walk that asks whether one of the elements reads

or_false : (b : Bool) → b || false ≡ b
or_false true = refl
or_false false = refl

or_assoc : (a b c : Bool) → a || (b || c) ≡ (a || b) || c
or_assoc true b c = refl
or_assoc false b c = refl

any_suc : {X : Type 0} (f : X → Bool) (F : List X → Bool)
    → F [] ≡ false → ((x : X) (xs : List X) → F (x ∷ xs) ≡ f x || F xs)
    → (xs : List X) (i : ℕ) (d : X) → i < length xs → F (take (suc i) xs) ≡ F (take i xs) || f (get_or xs i d)
any_suc f F none more [] i d h = absurd (omega arith)
any_suc f F none more (x ∷ xs) zero d h =
    more x [] ∙ ap (λ (b : Bool). f x || b) none ∙ or_false (f x) ∙ ap (λ (b : Bool). b || f x) (sym none)
any_suc f F none more (x ∷ xs) (suc i) d h =
    more x (take (suc i) xs)
    ∙ ap (λ (b : Bool). f x || b) (any_suc f F none more xs i d (omega arith))
    ∙ or_assoc (f x) (F (take i xs)) (f (get_or xs i d))
    ∙ ap (λ (b : Bool). b || f (get_or xs i d)) (sym (more x (take i xs)))

any_more : {X : Type 0} (f : X → Bool) (F : List X → Bool)
    → F [] ≡ false → ((x : X) (xs : List X) → F (x ∷ xs) ≡ f x || F xs)
    → (now : Bool) (xs : List X) (i : ℕ) (x : X) → x ≡ get_or xs i x → i < length xs
    → now ≡ F (take i xs) → now || f x ≡ F (take (i + 1) xs)
any_more {X} f F none more now xs i x here h so_far =
    rw add-one (ap (λ (b : Bool). b || f x) so_far
    ∙ ap (λ (y : X). F (take i xs) || f y) here
    ∙ sym (any_suc f F none more xs i x h))

pub read_more : {A : Type 0} (name : List ℕ) (now : Bool) (ss : List (Stmt A)) (i : ℕ) (s : Stmt A)
    → s ≡ get_or ss i s → i < length ss
    → now ≡ stmts_read name (stmts_view (take i ss))
    → now || stmt_reads name (stmt_view s) ≡ stmts_read name (stmts_view (take (i + 1) ss))
read_more name = any_more (λ s. stmt_reads name (stmt_view s)) (λ ss. stmts_read name (stmts_view ss)) refl (λ s ss. refl)

pub arms_read_more : {A : Type 0} (name : List ℕ) (now : Bool) (arms : List (Vec (Stmt A) A)) (i : ℕ) (arm : Vec (Stmt A) A)
    → arm ≡ get_or arms i arm → i < length arms
    → now ≡ arms_read name (arms_view (take i arms))
    → now || stmts_read name (stmts_view arm.items) ≡ arms_read name (arms_view (take (i + 1) arms))
unfolding arm_view
arms_read_more name =
    any_more (λ arm. stmts_read name (stmts_view arm.items)) (λ arms. arms_read name (arms_view arms)) refl (λ arm arms. refl)

-- ---- a parbegin has one arm, or another number

pub one_is_lone : {A : Type 0} (line : ℕ) (arms : List (Vec (Stmt A) A)) → length arms ≡ 1
    → lone_arm line (arms_view arms) ≡ OneArm line ∷ []
one_is_lone line [] h = absurd (omega (arith, h))
one_is_lone line (arm ∷ []) h = refl
one_is_lone line (arm ∷ (other ∷ arms)) h = absurd (omega (arith, h))

pub others_are_not : {A : Type 0} (line : ℕ) (arms : List (Vec (Stmt A) A)) → (length arms ≡ 1 → ⊥)
    → lone_arm line (arms_view arms) ≡ []
others_are_not line [] h = refl
others_are_not line (arm ∷ []) h = absurd (h refl)
others_are_not line (arm ∷ (other ∷ arms)) h = refl
