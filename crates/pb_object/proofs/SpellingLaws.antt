-- What is spelled alike is alike, and what is alike is spelled alike.
use Rattle.std.proofs.Common.{◌≡◌, ℕ, ◌≤◌, List, [], ◌∷◌, ◌++◌, length, map, refl, sym, ap, subst, ◌∙◌, Option, Ok}
use Rattle.std.proofs.lemmas.List.{append-nil}
use Rattle.pb_code.specs.declared.format.Format.{Format}
use Rattle.pb_code.specs.declared.format.Format.TheVariants.{One}
use Rattle.pb_code.specs.Code.{Instr, ProcessCode}
use Rattle.pb_code.specs.Whole.{Code, ProcessLabels}
use Rattle.pb_code.specs.Names.{Word}
use Rattle.pb_object.specs.Objects.{ResourceRow, ProcessRow, Object, code_of_row, labels_of_row, code_of, labels_of}
use Rattle.pb_object.specs.Objects.{object_spelling}
use Rattle.pb_object.specs.Ranges.{Each, IsPlace, IsProcess, plain_names}
use Rattle.pb_object.specs.Reading.{answer_of}
use Rattle.pb_object.specs.Answers.{IsObjectOf, SpellsCode, SpellsOne}
use Rattle.pb_object.proofs.ObjectLaws.{alike}
use Rattle.pb_object.proofs.FoundObjects.{answer_again}

pub same_object : (f g : Format) (c d : Code) (l m : List ProcessLabels) (text more : List ℕ) → (s : SpellsCode f c l
    text) → (t : SpellsCode g d m (text ++ more)) → (s.0 ≡ t.0) × (more ≡ [])
same_object f g c d l m text more s t =
    alike s.0 t.0 more s.1.good t.1.good (ap (λ (x : List ℕ). x ++ more) (sym s.2) ∙ t.2)

pub same_code : (f g : Format) (c d : Code) (l m : List ProcessLabels) (text : List ℕ) → SpellsCode f c l text → SpellsCode g d m text → (c ≡ d) × (l ≡ m)
same_code f g c d l m text s t =
    let same = (alike s.0 t.0 [] s.1.good t.1.good (append-nil (object_spelling s.0) ∙ sym s.2 ∙ t.2)).0 in
    (s.1.says_code ∙ ap code_of same ∙ sym t.1.says_code, s.1.says_labels ∙ ap labels_of same ∙ sym t.1.says_labels)

pub answered : (f : Format) (c : Code) (l : List ProcessLabels) (text : List ℕ) → SpellsCode f c l text → length text ≤
    4194304 → (o : Object) × IsObjectOf f c l o × (answer_of text ≡ Ok o)
answered f c l text s few = (s.0, s.1, answer_again text s.0 s.1.good s.2 few)

-- ---- a row is known by its columns

by_sides : {A B : Type 0} (xs ys : List (A × B)) → map (λ p. p.0) xs ≡ map (λ p. p.0) ys → map (λ p. p.1) xs ≡ map (λ p. p.1) ys → xs ≡ ys
by_sides [] [] e f = refl
by_sides [] (y ∷ ys) e f = absurd cc
by_sides (x ∷ xs) [] e f = absurd cc
by_sides {A} {B} ((a, b) ∷ xs) ((a', b') ∷ ys) e f =
    let first : a ≡ a' = cc in
    let second : b ≡ b' = cc in
    let lefts : map (λ (p : A × B). p.0) xs ≡ map (λ (p : A × B). p.0) ys = cc in
    let rights : map (λ (p : A × B). p.1) xs ≡ map (λ (p : A × B). p.1) ys = cc in
    let others : xs ≡ ys = by_sides xs ys lefts rights in
    cc

pub resource_is : (x y : ResourceRow) → x.name ≡ y.name → x.capital ≡ y.capital → x ≡ y
resource_is x y e f =
    ap (λ (n : Word). record { name = n; capital = x.capital }) e ∙ ap (λ (c : ℕ). record { name = y.name; capital = c }) f

cons_head : {A : Type 0} (x y : A) (xs ys : List A) → x ∷ xs ≡ y ∷ ys → x ≡ y
cons_head x y xs ys e = cc

cons_tail : {A : Type 0} (x y : A) (xs ys : List A) → x ∷ xs ≡ y ∷ ys → xs ≡ ys
cons_tail x y xs ys e = cc

cons_is : {A : Type 0} (x y : A) (xs ys : List A) → x ≡ y → xs ≡ ys → x ∷ xs ≡ y ∷ ys
cons_is x y xs ys e f = cc

by_resources : (xs ys : List ResourceRow) → map (λ r. r.name) xs ≡ map (λ r. r.name) ys → map (λ r. r.capital) xs ≡ map (λ r. r.capital) ys → xs ≡ ys
by_resources [] [] e f = refl
by_resources [] (y ∷ ys) e f = absurd cc
by_resources (x ∷ xs) [] e f = absurd cc
by_resources (x ∷ xs) (y ∷ ys) e f =
    cons_is x y xs ys (resource_is x y (cons_head _ _ _ _ e) (cons_head _ _ _ _ f)) (by_resources xs ys (cons_tail _ _ _ _ e) (cons_tail _ _ _ _ f))

process_is : (p q : ProcessRow) → p.name ≡ q.name → p.claims ≡ q.claims → code_of_row p ≡ code_of_row q → labels_of_row p ≡ labels_of_row q → p ≡ q
process_is p q name claims code labels =
    let entries : p.entries ≡ q.entries = ap (λ (c : ProcessCode). c.entries) code in
    let instrs : map (λ place. place.1) p.places ≡ map (λ place. place.1) q.places = ap (λ (c : ProcessCode). c.instrs) code in
    let lines : map (λ place. place.0) p.places ≡ map (λ place. place.0) q.places = ap (λ (l : ProcessLabels). l.lines) labels in
    let integers : p.integers ≡ q.integers = ap (λ (l : ProcessLabels). l.integers) labels in
    let places : p.places ≡ q.places = by_sides p.places q.places lines instrs in
    ap (λ (n : Word). record { name = n; integers = p.integers; claims = p.claims; entries = p.entries; places = p.places }) name
    ∙ ap (λ (n : List Word). record { name = q.name; integers = n; claims = p.claims; entries = p.entries; places = p.places }) integers
    ∙ ap (λ (n : List ℕ). record { name = q.name; integers = q.integers; claims = n; entries = p.entries; places = p.places }) claims
    ∙ ap (λ (n : List ℕ). record { name = q.name; integers = q.integers; claims = q.claims; entries = n; places = p.places }) entries
    ∙ ap (λ (n : List (Option ℕ × Instr)). record { name = q.name; integers = q.integers; claims = q.claims; entries = q.entries; places = n }) places

by_processes : (ps qs : List ProcessRow) → map (λ p. p.name) ps ≡ map (λ p. p.name) qs → map (λ p. p.claims) ps ≡ map (λ p. p.claims) qs
    → map code_of_row ps ≡ map code_of_row qs → map labels_of_row ps ≡ map labels_of_row qs → ps ≡ qs
by_processes [] [] e f g h = refl
by_processes [] (q ∷ qs) e f g h = absurd cc
by_processes (p ∷ ps) [] e f g h = absurd cc
by_processes (p ∷ ps) (q ∷ qs) e f g h =
    cons_is p q ps qs
    (process_is p q (cons_head _ _ _ _ e) (cons_head _ _ _ _ f) (cons_head _ _ _ _ g) (cons_head _ _ _ _ h))
    (by_processes ps qs (cons_tail _ _ _ _ e) (cons_tail _ _ _ _ f) (cons_tail _ _ _ _ g) (cons_tail _ _ _ _ h))

-- an object is known by its format, its code and its labels
pub by_code : (a b : Object) → a.format ≡ b.format → code_of a ≡ code_of b → labels_of a ≡ labels_of b → a ≡ b
by_code a b format code labels =
    let resources : a.resources ≡ b.resources = by_resources a.resources b.resources (ap (λ (c : Code).
    c.names.resources) code) (ap (λ (c : Code). c.capital) code) in
    let processes : a.processes ≡ b.processes =
    by_processes a.processes b.processes (ap (λ (c : Code). c.names.processes) code) (ap (λ (c : Code). c.claims)
    code) (ap (λ (c : Code). c.processes) code) labels in
    ap (λ (f : Format). record { format = f; resources = a.resources; processes = a.processes }) format
    ∙ ap (λ (rs : List ResourceRow). record { format = b.format; resources = rs; processes = a.processes }) resources
    ∙ ap (λ (ps : List ProcessRow). record { format = b.format; resources = b.resources; processes = ps }) processes

pub same_text : (f : Format) (c : Code) (l : List ProcessLabels) (x y : List ℕ) → SpellsCode f c l x → SpellsCode f c l y → x ≡ y
same_text f c l x y s t =
    let same : s.0 ≡ t.0 = by_code s.0 t.0 (s.1.is_format ∙ sym t.1.is_format) (sym s.1.says_code ∙ t.1.says_code) (sym s.1.says_labels ∙ t.1.says_labels) in
    s.2 ∙ ap object_spelling same ∙ sym t.2

-- ---- in the first format the code says the labels too

no_lines : (e g : List (Option ℕ × Instr)) (xs ys : List (Option ℕ × Instr)) → Each (λ earlier place. IsPlace One
    place) e xs → Each (λ earlier place. IsPlace One place) g ys
    → map (λ p. p.1) xs ≡ map (λ p. p.1) ys → map (λ p. p.0) xs ≡ map (λ p. p.0) ys
no_lines e g [] [] h k same = refl
no_lines e g [] (y ∷ ys) h k same = absurd cc
no_lines e g (x ∷ xs) [] h k same = absurd cc
no_lines e g (x ∷ xs) (y ∷ ys) h k same =
    cons_is x.0 y.0 _ _ (h.0.0 ∙ sym k.0.0) (no_lines (e ++ x ∷ []) (g ++ y ∷ []) xs ys h.1 k.1 (cons_tail x.1 y.1 _ _ same))

one_label : (m n : ℕ) (e g : List ProcessRow) (p q : ProcessRow) → IsProcess One m e p → IsProcess One n g q →
    code_of_row p ≡ code_of_row q → labels_of_row p ≡ labels_of_row q
one_label m n e g p q h k code =
    let count : length p.integers ≡ length q.integers = ap (λ (c : ProcessCode). c.integers) code in
    let instrs : map (λ place. place.1) p.places ≡ map (λ place. place.1) q.places = ap (λ (c : ProcessCode). c.instrs) code in
    let integers : p.integers ≡ q.integers = h.integers.0 ∙ ap plain_names count ∙ sym k.integers.0 in
    let lines : map (λ place. place.0) p.places ≡ map (λ place. place.0) q.places = no_lines [] [] p.places q.places h.places k.places instrs in
    ap (λ (l : List (Option ℕ)). record { lines = l; integers = p.integers }) lines
    ∙ ap (λ (l : List Word). record { lines = map (λ place. place.0) q.places; integers = l }) integers

one_labels : (m n : ℕ) (e g : List ProcessRow) (ps qs : List ProcessRow) → Each (IsProcess One m) e ps → Each (IsProcess One n) g qs
    → map code_of_row ps ≡ map code_of_row qs → map labels_of_row ps ≡ map labels_of_row qs
one_labels m n e g [] [] h k same = refl
one_labels m n e g [] (q ∷ qs) h k same = absurd cc
one_labels m n e g (p ∷ ps) [] h k same = absurd cc
one_labels m n e g (p ∷ ps) (q ∷ qs) h k same =
    cons_is (labels_of_row p) (labels_of_row q) _ _
    (one_label m n e g p q h.0 k.0 (cons_head _ _ _ _ same)) (one_labels m n (e ++ p ∷ []) (g ++ q ∷ []) ps qs h.1 k.1 (cons_tail _ _ _ _ same))

abbrev Processes : Format → ℕ → List ProcessRow → Type 0
Processes format m ps = Each (IsProcess format m) [] ps

pub same_first : (c : Code) (x y : List ℕ) → SpellsOne c x → SpellsOne c y → x ≡ y
same_first c x y s t =
    let a = s.1.0 in
    let b = t.1.0 in
    let code : code_of a ≡ code_of b = sym s.1.1.says_code ∙ t.1.1.says_code in
    let labels : labels_of a ≡ labels_of b =
    one_labels (length a.resources) (length b.resources) [] [] a.processes b.processes
    (subst (λ (f : Format). Processes f (length a.resources) a.processes) s.1.1.is_format s.1.1.good.processes)
    (subst (λ (f : Format). Processes f (length b.resources) b.processes) t.1.1.is_format t.1.1.good.processes)
    (ap (λ (c : Code). c.processes) code) in
    let same : a ≡ b = by_code a b (s.1.1.is_format ∙ sym t.1.1.is_format) code labels in
    s.1.2 ∙ ap object_spelling same ∙ sym t.1.2
