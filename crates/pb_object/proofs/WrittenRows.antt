-- What is written is what the rows spell.
use Rattle.std.proofs.Common.{◌≡◌, ℕ, ◌+◌, ◌<◌, ◌≤◌, List, [], ◌∷◌, ◌++◌, length, take, get_or, map, refl, sym, ap}
use Rattle.std.proofs.Common.{subst, ◌∙◌, append_assoc, codes, arith, Option, Some, slice_get}
use Rattle.std.specs.List.{flat_map}
use Rattle.std.proofs.lemmas.List.{length-map, take_more, take_all, get_or-map}
use Rattle.std.proofs.lemmas.List.Elements.{All-from_recursion}
use Rattle.std.proofs.lemmas.List.Concat.{flat_map-cons}
use Rattle.std.proofs.lemmas.Option.{get_or_from_slice_get, slice_get-get_or}
use Rattle.pb_code.specs.declared.format.Format.{Format}
use Rattle.pb_code.specs.declared.format.Format.TheVariants.{One, Two}
use Rattle.pb_code.specs.Code.{Instr, ProcessCode}
use Rattle.pb_code.specs.Whole.{Code, ProcessLabels}
use Rattle.pb_code.specs.Names.{Word}
use Rattle.pb_object.specs.Lines.{line_text}
use Rattle.pb_object.specs.Instructions.{instr_words, place_words}
use Rattle.pb_object.specs.Objects.{ResourceRow, ProcessRow, Object, code_of, labels_of, resource_words, digit_of}
use Rattle.pb_object.specs.Objects.{object_spelling, code_of_row, labels_of_row, counted_words, process_words}
use Rattle.pb_object.specs.Objects.{integers_words, claims_words, process_text}
use Rattle.pb_object.specs.Rows.{side_by_side}
use Rattle.pb_object.specs.Writing.{IsRowOf, IsLabelsOf}
use Rattle.pb_base.specs.Tables.{width_of}
use Rattle.pb_object.specs.Ranges.{IsObject, IsProcess}
use Rattle.pb_object.proofs.Columns.{each_all, all_map, width_is}
use Rattle.pb_object.proofs.JoinedWords.{flat_push}
use Rattle.pb_object.proofs.SpellingLaws.{resource_is}

-- the element of a mapped list
pub mapped_at : {A B : Type 0} (f : A → B) (xs : List A) (p : ℕ) (d : A) (y : B) → p < length xs → slice_get (map f xs) p ≡ Some y → f (get_or xs p d) ≡ y
mapped_at {A} {B} f xs p d y lt h =
    sym (get_or-map f xs p d (f d) lt) ∙ get_or_from_slice_get (map f xs) p y (f d) h

pub named_at : {A : Type 0} (f : A → List ℕ) (xs : List A) (p : ℕ) (x : A) → p < length xs → x ≡ get_or xs p x → f x ≡ get_or (map f xs) p []
named_at {A} f xs p x lt is = ap f is ∙ sym (get_or-map f xs p x [] lt)

pub viewed_at : {A B : Type 0} (f : A → B) (xs : List A) (p : ℕ) (x : A) (y : B) → p < length xs → x ≡ get_or xs p x → slice_get (map f xs) p ≡ Some y → f x ≡ y
viewed_at {A} {B} f xs p x y lt is h = ap f is ∙ mapped_at f xs p x y lt h

texts_of_map : {X Y : Type 0} (f : X → Y) (text : Y → List ℕ) (xs : List X) → flat_map text (map f xs) ≡ flat_map (λ x. text (f x)) xs
texts_of_map f text [] = refl
texts_of_map f text (x ∷ xs) = flat_map-cons text (f x) (map f xs) ∙ ap (λ (t : List ℕ). text (f x) ++ t)
    (texts_of_map f text xs) ∙ sym (flat_map-cons (λ x. text (f x)) x xs)

sides_of : {A B : Type 0} (xs : List (A × B)) → side_by_side (map (λ p. p.0) xs) (map (λ p. p.1) xs) ≡ xs
sides_of [] = refl
sides_of {A} {B} (x ∷ xs) = ap (λ (l : List (A × B)). x ∷ l) (sides_of xs)

regroup : (old a b c d e f g : List ℕ) → (((old ++ a) ++ b) ++ (c ++ (d ++ (e ++ f)))) ++ g ≡ old ++ (a ++ (b ++ (c ++ (d ++ (e ++ (f ++ g))))))
regroup old a b c d e f g = simp append_assoc

-- the parts between the integers and the places
abbrev pub between : List ℕ → List ℕ → ℕ → List ℕ
between entries claims count =
    line_text (counted_words (codes "arms") (length entries)) ++ (line_text (claims_words claims)
    ++ (flat_map (λ e. line_text (counted_words (codes "arm") e)) entries ++ line_text (counted_words (codes "code") count)))

middle : (b2 : List ℕ) (entries es claims cs : List ℕ) (n m : ℕ) → entries ≡ es → claims ≡ cs → n ≡ m → b2 ++ between entries claims n ≡ b2 ++ between es cs m
middle b2 entries es claims cs n m e1 e2 e3 =
    ap (λ (l : List ℕ). b2 ++ between l claims n) e1 ∙ ap (λ (l : List ℕ). b2 ++ between es l n) e2 ∙ ap (λ (k : ℕ). b2 ++ between es cs k) e3

-- four parts written one after the other
in_order : (old b1 b2 b3 new a b c d e f g : List ℕ) → b1 ≡ old ++ a → b2 ≡ b1 ++ b → b3 ≡ b2 ++ (c ++ (d ++ (e ++ f))) → new ≡ b3 ++ g
    → new ≡ old ++ (a ++ (b ++ (c ++ (d ++ (e ++ (f ++ g))))))
in_order old b1 b2 b3 new a b c d e f g h1 h2 h3 h4 =
    h4 ∙ ap (λ (t : List ℕ). t ++ g) (h3 ∙ ap (λ (t : List ℕ). t ++ (c ++ (d ++ (e ++ f)))) (h2 ∙ ap (λ (t : List ℕ). t ++ b) h1)) ∙ regroup old a b c d e f g

pub one_written : (old b1 b2 b3 new : List ℕ) (name : Word) (count : ℕ) (entries : List ℕ) (claims : List ℕ) (instrs : List Instr) (row : ProcessRow)
    → name ≡ row.name → claims ≡ row.claims → record { integers = count; entries = entries; instrs = instrs } ≡ code_of_row row
    → b1 ≡ old ++ line_text (process_words name) → b2 ≡ b1 ++ line_text (counted_words (codes "vars") count)
    → b3 ≡ b2 ++ (line_text (counted_words (codes "arms") (length entries)) ++ (line_text (claims_words claims)
    ++ (flat_map (λ e. line_text (counted_words (codes "arm") e)) entries ++ line_text (counted_words (codes "code") (length instrs)))))
    → new ≡ b3 ++ flat_map (λ i. line_text (instr_words i)) instrs
    → new ≡ old ++ process_text One row
unfolding process_text
one_written old b1 b2 b3 new name count entries claims instrs row is_name is_claims is_code h1 h2 h3 h4 =
    let integers : count ≡ length row.integers = ap (λ (c : ProcessCode). c.integers) is_code in
    let arms : entries ≡ row.entries = ap (λ (c : ProcessCode). c.entries) is_code in
    let code : instrs ≡ map (λ place. place.1) row.places = ap (λ (c : ProcessCode). c.instrs) is_code in
    let count_is : length instrs ≡ length row.places = ap (λ (l : List Instr). length l) code ∙ length-map row.places (λ place. place.1) in
    let places : flat_map (λ i. line_text (instr_words i)) instrs ≡ flat_map (λ place. line_text (place_words One place)) row.places =
    ap (flat_map (λ i. line_text (instr_words i))) code ∙ texts_of_map (λ place. place.1) (λ i. line_text (instr_words i)) row.places in
    in_order old b1 b2 b3 new _ _ (line_text (counted_words (codes "arms") (length row.entries))) (line_text (claims_words row.claims))
    (flat_map (λ e. line_text (counted_words (codes "arm") e)) row.entries) (line_text (counted_words (codes "code") (length row.places))) _
    (h1 ∙ ap (λ (w : Word). old ++ line_text (process_words w)) is_name)
    (h2 ∙ ap (λ (n : ℕ). b1 ++ line_text (counted_words (codes "vars") n)) integers)
    (h3 ∙ middle b2 entries row.entries claims row.claims (length instrs) (length row.places) arms is_claims count_is)
    (h4 ∙ ap (λ (t : List ℕ). b3 ++ t) places)

pub two_written : (old b1 b2 b3 new : List ℕ) (name : Word) (names : List Word) (lines : List (Option ℕ)) (count : ℕ)
    (entries : List ℕ) (claims : List ℕ) (instrs : List Instr) (row : ProcessRow)
    → name ≡ row.name → claims ≡ row.claims → record { integers = count; entries = entries; instrs = instrs } ≡ code_of_row row
    → record { lines = lines; integers = names } ≡ labels_of_row row
    → b1 ≡ old ++ line_text (process_words name) → b2 ≡ b1 ++ line_text (integers_words Two names)
    → b3 ≡ b2 ++ (line_text (counted_words (codes "arms") (length entries)) ++ (line_text (claims_words claims)
    ++ (flat_map (λ e. line_text (counted_words (codes "arm") e)) entries ++ line_text (counted_words (codes "code") (length instrs)))))
    → new ≡ b3 ++ flat_map (λ p. line_text (place_words Two p)) (side_by_side lines instrs)
    → new ≡ old ++ process_text Two row
unfolding process_text
two_written old b1 b2 b3 new name names lines count entries claims instrs row is_name is_claims is_code is_labels h1 h2 h3 h4 =
    let integers : names ≡ row.integers = ap (λ (l : ProcessLabels). l.integers) is_labels in
    let numbers : lines ≡ map (λ place. place.0) row.places = ap (λ (l : ProcessLabels). l.lines) is_labels in
    let arms : entries ≡ row.entries = ap (λ (c : ProcessCode). c.entries) is_code in
    let code : instrs ≡ map (λ place. place.1) row.places = ap (λ (c : ProcessCode). c.instrs) is_code in
    let count_is : length instrs ≡ length row.places = ap (λ (l : List Instr). length l) code ∙ length-map row.places (λ place. place.1) in
    let sides : side_by_side lines instrs ≡ row.places =
    ap (λ (l : List (Option ℕ)). side_by_side l instrs) numbers ∙ ap (side_by_side (map (λ place. place.0) row.places)) code ∙ sides_of row.places in
    in_order old b1 b2 b3 new _ _ (line_text (counted_words (codes "arms") (length row.entries))) (line_text (claims_words row.claims))
    (flat_map (λ e. line_text (counted_words (codes "arm") e)) row.entries) (line_text (counted_words (codes "code") (length row.places))) _
    (h1 ∙ ap (λ (w : Word). old ++ line_text (process_words w)) is_name)
    (h2 ∙ ap (λ (l : List Word). b1 ++ line_text (integers_words Two l)) integers)
    (h3 ∙ middle b2 entries row.entries claims row.claims (length instrs) (length row.places) arms is_claims count_is)
    (h4 ∙ ap (λ (l : List (Option ℕ × Instr)). b3 ++ flat_map (λ p. line_text (place_words Two p)) l) sides)

-- ---- objects

-- all lines before the first process
abbrev pub opening : Format → Object → List ℕ
opening format o =
    line_text (codes "PBO" ∷ digit_of format ∷ [])
    ++ (line_text (counted_words (codes "resources") (length o.resources))
    ++ (flat_map (λ r. line_text (resource_words r)) o.resources
    ++ line_text (counted_words (codes "processes") (length o.processes))))

abbrev pub processes_text : Format → List ProcessRow → List ℕ
processes_text format ps = flat_map (λ p. process_text format p) ps

apart : (a b c d e : List ℕ) → a ++ (b ++ (c ++ (d ++ e))) ≡ (a ++ (b ++ (c ++ d))) ++ e
apart a b c d e = simp append_assoc

pub spelling_is : (o : Object) → object_spelling o ≡ opening o.format o ++ processes_text o.format o.processes
unfolding object_spelling
spelling_is o =
    apart (line_text (codes "PBO" ∷ digit_of o.format ∷ [])) (line_text (counted_words (codes "resources") (length
    o.resources))) (flat_map (λ r. line_text (resource_words r)) o.resources)
    (line_text (counted_words (codes "processes") (length o.processes))) (processes_text o.format o.processes)

-- the texts so far and one more
pub more_texts : {X : Type 0} (text : X → List ℕ) (xs : List X) (i : ℕ) (d : X) → i < length xs → flat_map text (take
    (i + 1) xs) ≡ flat_map text (take i xs) ++ text (get_or xs i d)
more_texts text xs i d lt = ap (flat_map text) (take_more xs i d lt) ∙ flat_push text (take i xs) (get_or xs i d)

pub next_text : {X : Type 0} (text : X → List ℕ) (xs : List X) (i : ℕ) (d : X) (old so_far new : List ℕ) → i < length xs
    → so_far ≡ old ++ flat_map text (take i xs) → new ≡ so_far ++ text (get_or xs i d) → new ≡ old ++ flat_map text (take (i + 1) xs)
next_text text xs i d old so_far new lt e h =
    h ∙ ap (λ (t : List ℕ). t ++ text (get_or xs i d)) e ∙ append_assoc old (flat_map text (take i xs)) (text (get_or xs i d))
    ∙ ap (λ (t : List ℕ). old ++ t) (sym (more_texts text xs i d lt))

pub names_line : {A : Type 0} (f : A → Word) (b : List ℕ) (xs ys : List A) → xs ≡ ys → b ++ line_text (integers_words
    Two (map f xs)) ≡ b ++ line_text (integers_words Two (map f ys))
names_line {A} f b xs ys e = ap (λ (l : List A). b ++ line_text (integers_words Two (map f l))) e

-- the resource with a number, by its columns
pub resource_at : {A : Type 0} (rows : List ResourceRow) (f : A → Word) (names : List A) (capital : List ℕ) (i : ℕ) (x : A) (n : ℕ)
    → map (λ r. r.name) rows ≡ map f names → map (λ r. r.capital) rows ≡ capital → i < length names → x ≡ get_or names i x → n ≡ get_or capital i 0
    → (i < length rows) × (get_or rows i (record { name = f x; capital = n }) ≡ record { name = f x; capital = n })
resource_at {A} rows f names capital i x n is_names is_capital lt here amount =
    let d : ResourceRow = record { name = f x; capital = n } in
    let name_of : ResourceRow → Word = λ r. r.name in
    let capital_of : ResourceRow → ℕ = λ r. r.capital in
    let count : length rows ≡ length names = sym (length-map rows name_of) ∙ ap (λ (l : List Word). length l) is_names ∙ length-map names f in
    let below : i < length rows = omega (arith, count) in
    let name : name_of (get_or rows i d) ≡ f x =
    sym (get_or-map name_of rows i d (f x) below) ∙ ap (λ (l : List Word). get_or l i (f x)) is_names ∙ get_or-map f names i x (f x) lt ∙ ap f (sym here) in
    let cash : capital_of (get_or rows i d) ≡ n =
    sym (get_or-map capital_of rows i d 0 below) ∙ ap (λ (l : List ℕ). get_or l i 0) is_capital ∙ sym amount in
    (below, resource_is (get_or rows i d) d name cash)

four : (old a b c d : List ℕ) → (((old ++ a) ++ b) ++ c) ++ d ≡ old ++ (a ++ (b ++ (c ++ d)))
four old a b c d = simp append_assoc

viewed : {A B : Type 0} (f : A → B) (xs : List A) (p : ℕ) (d : A) → p < length xs → slice_get (map f xs) p ≡ Some (f (get_or xs p d))
viewed {A} {B} f xs p d lt = slice_get-get_or (map f xs) p (f d) (simp length-map lt) ∙ ap (λ (y : B). Some y) (get_or-map f xs p d (f d) lt)

pub in_four : (old b1 b2 b3 new a b c d : List ℕ) → b1 ≡ old ++ a → b2 ≡ b1 ++ b → b3 ≡ b2 ++ c → new ≡ b3 ++ d → new ≡ old ++ (a ++ (b ++ (c ++ d)))
in_four old b1 b2 b3 new a b c d h1 h2 h3 h4 =
    h4 ∙ ap (λ (t : List ℕ). t ++ d) (h3 ∙ ap (λ (t : List ℕ). t ++ c) (h2 ∙ ap (λ (t : List ℕ). t ++ b) h1)) ∙ four old a b c d

-- ---- the rows of an object, by the code that it says

abbrev pub empty : ProcessRow
empty = record { name = []; integers = []; claims = []; entries = []; places = [] }

pub row_of : (o : Object) (whole : Code) (p : ℕ) → whole ≡ code_of o → p < length o.processes → IsRowOf whole p (get_or o.processes p empty)
row_of o whole p is lt =
    let row = get_or o.processes p empty in
    let name_of : ProcessRow → Word = λ r. r.name in
    let claims_of : ProcessRow → List ℕ = λ r. r.claims in
    record {
      name = ap (λ (c : Code). get_or c.names.processes p []) is ∙ get_or-map name_of o.processes p empty [] lt;
      claims = ap (λ (c : Code). get_or c.claims p []) is ∙ get_or-map claims_of o.processes p empty [] lt;
      code = ap (λ (c : Code). slice_get c.processes p) is ∙ viewed code_of_row o.processes p empty lt;
    }

pub labels_at : (o : Object) (labels : List ProcessLabels) (p : ℕ) → labels ≡ labels_of o → p < length o.processes →
    IsLabelsOf labels p (get_or o.processes p empty)
labels_at o labels p is lt = ap (λ (l : List ProcessLabels). slice_get l p) is ∙ viewed labels_of_row o.processes p empty lt

pub width_at : (o : Object) (whole : Code) (p : ℕ) → IsObject o → whole ≡ code_of o → p < length o.processes → length
    (get_or whole.claims p []) ≡ width_of whole.claims
width_at o whole p good is lt =
    let claims_of : ProcessRow → List ℕ = λ r. r.claims in
    let m = length o.resources in
    let all = each_all (IsProcess o.format m) (λ r. length r.claims ≡ m) (λ e r h. h.claims.0) [] o.processes good.processes in
    let column = all_map (λ row. length row ≡ m) claims_of o.processes all in
    let some : 0 < length (map claims_of o.processes) = simp length-map (let s = good.some_processes in omega arith) in
    let below : p < length (map claims_of o.processes) = simp length-map lt in
    let wide : width_of (map claims_of o.processes) ≡ m = width_is (map claims_of o.processes) m some column in
    let here : length (get_or (map claims_of o.processes) p []) ≡ m = All-from_recursion (λ row. length row ≡ m) (map
    claims_of o.processes) column p [] below in
    subst (λ (t : List (List ℕ)). length (get_or t p []) ≡ width_of t) (sym (ap (λ (c : Code). c.claims) is)) (here ∙ sym wide)

pub finished : (format : Format) (o : Object) (out : List ℕ) (p : ℕ) → o.format ≡ format → length o.processes ≤ p
    → out ≡ opening format o ++ processes_text format (take p o.processes) → out ≡ object_spelling o
finished format o out p is le e =
    e ∙ ap (λ (ps : List ProcessRow). opening format o ++ processes_text format ps) (take_all p o.processes le)
    ∙ ap (λ (f : Format). opening f o ++ processes_text f o.processes) (sym is) ∙ sym (spelling_is o)

pub count_of : {A : Type 0} (f : A → ProcessCode) (xs : List A) (o : Object) (whole : Code) → whole ≡ code_of o →
    whole.processes ≡ map f xs → length xs ≡ length o.processes
count_of f xs o whole is e =
    sym (length-map xs f) ∙ ap (λ (l : List ProcessCode). length l) (sym e ∙ ap (λ (c : Code). c.processes) is) ∙ length-map o.processes code_of_row
