-- Lists of statements and of arms, one more element at a time, as loops read them.
use Rattle.std.proofs.Common.{◌≡◌, ℕ, zero, suc, ◌+◌, ◌<◌, ◌≤◌, List, [], ◌∷◌, ◌++◌, Vec, length, map, take}
use Rattle.std.proofs.Common.{drop, get_or, Option, Some, arith, ap, sym, refl, ◌∙◌, add-one, append_assoc}
use Rattle.std.proofs.Common.{length-append}
use Rattle.std.proofs.lemmas.List.{append-nil, map_more}
use Rattle.pb_generator.specs.Emitted.{place, HasRoom, Adds}
use Rattle.pb_generator.specs.Generate.{stmt_code, block_code}
use Rattle.pb_names.specs.HeadLines.{stmt_line}
use Rattle.pb_generator.specs.Lines.{stmt_lines, block_line, block_lines}
use Rattle.pb_generator.specs.declared.writer.Writer.{Writer}
use Rattle.pb_generator.proofs.Parts.{adds_then, adds_as, adds-place}
use Rattle.pb_names.specs.Program as plain
use Rattle.pb_names.specs.Program.{Block, count, arms_list, arms_in}
use Rattle.pb_names.specs.Program.{arms_in_stmt, arms_in_arms}
use Rattle.pb_names.specs.View.{stmt_view, block_of, block_view, arm_view, arms_view}
use Rattle.pb_names.specs.declared.resolved.Stmt.{Stmt}

-- ---- code and lines of one more statement

code_more : (p : ℕ) (front : List plain.Stmt) (s : plain.Stmt)
    → block_code p (block_of (front ++ s ∷ []))
    ≡ block_code p (block_of front) ++ stmt_code (p + length (block_code p (block_of front))) s
code_more p [] s =
    let e : p ≡ p + 0 = omega arith in
    append-nil (stmt_code p s) ∙ ap (λ (q : ℕ). stmt_code q s) e
code_more p (f ∷ front) s =
    let q = p + length (stmt_code p f) in
    let C = block_code q (block_of front) in
    let e : q + length C ≡ p + length (stmt_code p f ++ C) = omega (arith, length-append (stmt_code p f) C) in
    ap (λ code. stmt_code p f ++ code) (code_more q front s)
    ∙ sym (append_assoc (stmt_code p f) C (stmt_code (q + length C) s))
    ∙ ap (λ (k : ℕ). (stmt_code p f ++ C) ++ stmt_code k s) e

line_more : (front : List plain.Stmt) (s : plain.Stmt) (after : Option ℕ)
    → block_line (block_of (front ++ s ∷ [])) after ≡ block_line (block_of front) (Some (stmt_line s))
line_more [] s after = refl
line_more (f ∷ front) s after = refl

lines_more : (front : List plain.Stmt) (s : plain.Stmt) (after : Option ℕ)
    → block_lines (block_of (front ++ s ∷ [])) after
    ≡ block_lines (block_of front) (Some (stmt_line s)) ++ stmt_lines s after
lines_more [] s after = append-nil (stmt_lines s after)
lines_more (f ∷ front) s after =
    let next = Some (stmt_line s) in
    ap (λ l. stmt_lines f l ++ block_lines (block_of (front ++ s ∷ [])) after) (line_more front s after)
    ∙ ap (λ ls. stmt_lines f (block_line (block_of front) next) ++ ls) (lines_more front s after)
    ∙ sym (append_assoc (stmt_lines f (block_line (block_of front) next)) (block_lines (block_of front) next) (stmt_lines s after))

-- the statements up to one that was read, and that one
block_more : {A : Type 0} (ss : List (Stmt A)) (i : ℕ) (s : Stmt A) → s ≡ get_or ss i s → i < length ss
    → block_view (take (i + 1) ss) ≡ block_of (map stmt_view (take i ss) ++ stmt_view s ∷ [])
block_more ss i s here l =
    ap block_of (map_more stmt_view ss i s l
    ∙ ap (λ y. map stmt_view (take i ss) ++ stmt_view y ∷ []) (sym here))

-- the line of what is left, of which the first was read
line_left : {A : Type 0} (ss : List (Stmt A)) (i : ℕ) (s : Stmt A) (after : Option ℕ) → s ≡ get_or ss i s
    → i < length ss
    → block_line (block_view (drop i ss)) after ≡ Some (stmt_line (stmt_view s))
line_left [] i s after here l = absurd (omega arith)
line_left (t ∷ ss) zero s after here l = ap (λ y. Some (stmt_line (stmt_view y))) (sym here)
line_left (t ∷ ss) (suc i) s after here l = line_left ss i s after here (omega arith)

pub line_next : {A : Type 0} (ss : List (Stmt A)) (i : ℕ) (s : Stmt A) (after : Option ℕ) → s ≡ get_or ss i s
    → i < length ss
    → block_line (block_view (drop i ss)) after ≡ Some (stmt_line (stmt_view s))
line_next ss i s after here l = line_left ss i s after here l

-- one more statement is written
pub block_written : {A : Type 0} {w u v : Writer} (ss : List (Stmt A)) (i : ℕ) (s : Stmt A)
    (after next : Option ℕ)
    → s ≡ get_or ss i s → i < length ss → next ≡ block_line (block_view (drop (i + 1) ss)) after
    → Adds w u (block_code (place w) (block_view (take i ss))) (block_lines (block_view (take i ss)) (block_line (block_view (drop i ss)) after))
    → Adds u v (stmt_code (place u) (stmt_view s)) (stmt_lines (stmt_view s) next)
    → Adds w v (block_code (place w) (block_view (take (i + 1) ss)))
    (block_lines (block_view (take (i + 1) ss)) (block_line (block_view (drop (i + 1) ss)) after))
block_written {A} {w} {u} {v} ss i s after next here l is_next h k =
    let front = map stmt_view (take i ss) in
    let p = place w in
    let q : place u ≡ p + length (block_code p (block_of front)) = adds-place h in
    adds_as (adds_then h k)
    (ap (λ (n : ℕ). block_code p (block_of front) ++ stmt_code n (stmt_view s)) q
    ∙ sym (code_more p front (stmt_view s)) ∙ ap (block_code p) (sym (block_more ss i s here l)))
    (ap (λ (o : Option ℕ). block_lines (block_of front) o ++ stmt_lines (stmt_view s) next) (line_left ss i s after here l)
    ∙ sym (lines_more front (stmt_view s) next)
    ∙ ap (λ (b : Block). block_lines b next) (sym (block_more ss i s here l))
    ∙ ap (λ (o : Option ℕ). block_lines (block_view (take (i + 1) ss)) o) is_next)

-- what is written of the first statements is no longer than what is written of all
front_within : {A : Type 0} (p : ℕ) (ss : List (Stmt A)) (i : ℕ)
    → length (block_code p (block_view (take i ss))) ≤ length (block_code p (block_view ss))
front_within p [] zero = omega arith
front_within p [] (suc i) = omega arith
front_within p (s ∷ ss) zero = omega arith
front_within p (s ∷ ss) (suc i) =
    let q = p + length (stmt_code p (stmt_view s)) in
    omega (
      arith,
      front_within q ss i,
      length-append (stmt_code p (stmt_view s)) (block_code q (block_view (take i ss))),
      length-append (stmt_code p (stmt_view s)) (block_code q (block_view ss)),
    )

-- the next statement fits
pub room_for_stmt : {A : Type 0} {w u : Writer} (all ss : List (Stmt A)) (i : ℕ) (s : Stmt A)
    {ls : List (Option ℕ)}
    → ss ≡ all → s ≡ get_or ss i s → i < length ss → HasRoom w (block_code (place w) (block_view all))
    → Adds w u (block_code (place w) (block_view (take i ss))) ls → HasRoom u (stmt_code (place u) (stmt_view s))
room_for_stmt {A} {w} {u} all ss i s same here l room h =
    let front = map stmt_view (take i ss) in
    let p = place w in
    let q : place u ≡ p + length (block_code p (block_of front)) = adds-place h in
    let more = ap length (ap (block_code p) (block_more ss i s here l) ∙ code_more p front (stmt_view s)) in
    let stmt : length (stmt_code (place u) (stmt_view s)) ≡ length (stmt_code (p + length (block_code p (block_of front))) (stmt_view s)) =
    ap (λ (n : ℕ). length (stmt_code n (stmt_view s))) q in
    let whole = front_within p ss (i + 1) in
    let given = ap (λ xs. length (block_code p (block_view xs))) same in
    let small = room.small in
    record {
      sound = h.sound;
      small =
          omega (
            arith,
            stmt,
            more,
            whole,
            given,
            small,
            q,
            length-append (block_code p (block_of front)) (stmt_code (p + length (block_code p (block_of front))) (stmt_view s)),
          );
    }

-- ---- arms inside

stmt_arms_at : {A : Type 0} (ss : List (Stmt A)) (i : ℕ) (d : Stmt A) → i < length ss
    → length (arms_in_stmt (stmt_view (get_or ss i d))) ≤ length (arms_in (block_view ss))
stmt_arms_at [] i d l = absurd (omega arith)
stmt_arms_at (s ∷ ss) zero d l =
    omega (arith, length-append (arms_in_stmt (stmt_view s)) (arms_in (block_view ss)))
stmt_arms_at (s ∷ ss) (suc i) d l =
    omega (arith, stmt_arms_at ss i d (omega arith), length-append (arms_in_stmt (stmt_view s)) (arms_in (block_view ss)))

pub few_arms_in_stmt : {A : Type 0} (all ss : List (Stmt A)) (i n : ℕ) (s : Stmt A) → ss ≡ all
    → s ≡ get_or ss i s → i < length ss
    → length (arms_in (block_view all)) ≤ n → length (arms_in_stmt (stmt_view s)) ≤ n
few_arms_in_stmt all ss i n s same here l few =
    omega (
      arith,
      ap (λ y. length (arms_in_stmt (stmt_view y))) here,
      stmt_arms_at ss i s l,
      ap (λ ys. length (arms_in (block_view ys))) same,
    )

pub length-arms_view : {A : Type 0} (arms : List (Vec (Stmt A) A)) → count (arms_view arms) ≡ length arms
length-arms_view [] = refl
length-arms_view (arm ∷ arms) = ap suc (length-arms_view arms)

pub arms_in-more : {A : Type 0} (ss : List (Stmt A)) (i : ℕ) (s : Stmt A) → s ≡ get_or ss i s → i < length ss
    → arms_in (block_view (take (i + 1) ss)) ≡ arms_in (block_view (take i ss)) ++ arms_in_stmt (stmt_view s)
arms_in-more ss i s here l =
    ap arms_in (block_more ss i s here l) ∙ behind (map stmt_view (take i ss)) (stmt_view s)
  where
    behind : (front : List plain.Stmt) (s : plain.Stmt)
        → arms_in (block_of (front ++ s ∷ [])) ≡ arms_in (block_of front) ++ arms_in_stmt s
    behind [] s = append-nil (arms_in_stmt s)
    behind (f ∷ front) s =
        ap (λ arms. arms_in_stmt f ++ arms) (behind front s)
        ∙ sym (append_assoc (arms_in_stmt f) (arms_in (block_of front)) (arms_in_stmt s))

arms_list_suc : {A : Type 0} (arms : List (Vec (Stmt A) A)) (i : ℕ) (d : Vec (Stmt A) A) → i < length arms
    → arms_list (arms_view (take (suc i) arms)) ≡ arms_list (arms_view (take i arms)) ++ block_view (get_or arms i d).items ∷ []
unfolding arm_view
arms_list_suc [] i d l = absurd (omega arith)
arms_list_suc (a ∷ arms) zero d l = refl
arms_list_suc (a ∷ arms) (suc i) d l =
    ap (λ bs. block_view a.items ∷ bs) (arms_list_suc arms i d (omega arith))

pub arms_list-more : {A : Type 0} (arms : List (Vec (Stmt A) A)) (i : ℕ) (arm : Vec (Stmt A) A)
    → arm ≡ get_or arms i arm → i < length arms
    → arms_list (arms_view (take (i + 1) arms)) ≡ arms_list (arms_view (take i arms)) ++ block_view arm.items ∷ []
arms_list-more arms i arm here l =
    rw add-one (arms_list_suc arms i arm l ∙ ap (λ y. arms_list (arms_view (take i arms)) ++ block_view y.items ∷ []) (sym here))

arms_in_arms_suc : {A : Type 0} (arms : List (Vec (Stmt A) A)) (i : ℕ) (d : Vec (Stmt A) A) → i < length arms
    → arms_in_arms (arms_view (take (suc i) arms)) ≡ arms_in_arms (arms_view (take i arms)) ++ arms_in (block_view (get_or arms i d).items)
unfolding arm_view
arms_in_arms_suc [] i d l = absurd (omega arith)
arms_in_arms_suc (a ∷ arms) zero d l = append-nil (arms_in (block_view a.items))
arms_in_arms_suc (a ∷ arms) (suc i) d l =
    ap (λ bs. arms_in (block_view a.items) ++ bs) (arms_in_arms_suc arms i d (omega arith))
    ∙ sym (append_assoc (arms_in (block_view a.items)) (arms_in_arms (arms_view (take i arms))) (arms_in (block_view (get_or arms i d).items)))

pub arms_in_arms-more : {A : Type 0} (arms : List (Vec (Stmt A) A)) (i : ℕ) (arm : Vec (Stmt A) A)
    → arm ≡ get_or arms i arm → i < length arms
    → arms_in_arms (arms_view (take (i + 1) arms)) ≡ arms_in_arms (arms_view (take i arms)) ++ arms_in (block_view arm.items)
arms_in_arms-more arms i arm here l =
    rw add-one (arms_in_arms_suc arms i arm l ∙ ap (λ y. arms_in_arms (arms_view (take i arms)) ++ arms_in (block_view y.items)) (sym here))

-- ---- arms that are collected

-- more arms after those so far
pub collected : (old now new done more all : List Block) → now ≡ old ++ done → new ≡ now ++ more
    → all ≡ done ++ more
    → new ≡ old ++ all
collected old now new done more all so_far then is =
    then ∙ ap (λ bs. bs ++ more) so_far ∙ append_assoc old done more ∙ ap (λ bs. old ++ bs) (sym is)
