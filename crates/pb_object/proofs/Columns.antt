-- Columns of rows.
use Rattle.std.proofs.Common.{◌≡◌, ℕ, suc, ◌<◌, ◌≤◌, List, [], ◌∷◌, ◌++◌, length, map, refl, sym, ap, subst, ◌∙◌}
use Rattle.std.proofs.Common.{arith, All, Option}
use Rattle.std.specs.List.{AllByRecursion}
use Rattle.std.proofs.lemmas.List.{map_push, length-map}
use Rattle.std.proofs.lemmas.List.Elements.{All-from_recursion}
use Rattle.std.proofs.lemmas.Simd.{map-map}
use Rattle.pb_base.specs.Tables.{HasWidth, width_of}
use Rattle.pb_code.specs.Code.{Instr, ProcessCode}
use Rattle.pb_code.specs.Whole.{Code, ProcessLabels}
use Rattle.pb_code.specs.View.{instr_view, process_view, process_labels_view}
use Rattle.pb_object.specs.Objects.{ResourceRow, ProcessRow, code_of_row, labels_of_row}
use Rattle.pb_object.specs.Ranges.{Each, IsResource, IsProcess, most_processes}
use Rattle.pb_object.specs.Rows.{process_row, resource_row, IsRow}
use Rattle.pb_object.specs.declared.rows.ResourceRow.{ResourceRow as GivenResource}
use Rattle.pb_object.specs.declared.rows.ProcessRow.{ProcessRow as GivenProcess}
use Rattle.pb_code.specs.declared.format.Format.{Format}
use Rattle.pb_code.specs.declared.format.Format.TheVariants.{One, Two}
use Rattle.pb_object.proofs.PairedLists.{side_left, side_right}

pub push_map : {A B C : Type 0} (f : A → C) (g : B → C) (xs : List A) (ys : List B) (x : A) (y : B) → map f xs ≡ map g
    ys → f x ≡ g y → map f (xs ++ x ∷ []) ≡ map g (ys ++ y ∷ [])
push_map {A} {B} {C} f g xs ys x y e h =
    map_push f xs x ∙ ap (λ (l : List C). l ++ f x ∷ []) e ∙ ap (λ (c : C). map g ys ++ c ∷ []) h ∙ sym (map_push g ys y)

pub push_column : {B C : Type 0} (g : B → C) (xs : List C) (ys : List B) (y : B) → xs ≡ map g ys → xs ++ g y ∷ [] ≡ map g (ys ++ y ∷ [])
push_column {B} {C} g xs ys y e = ap (λ (l : List C). l ++ g y ∷ []) e ∙ sym (map_push g ys y)

-- ---- what a row says is what its code and its labels say

one_code : (integers : ℕ) (entries : List ℕ) (instrs others : List Instr) (count : ℕ) → integers ≡ count → instrs ≡ others
    → (the : ProcessCode) → the ≡ record { integers = integers; entries = entries; instrs = instrs } → the ≡ record {
      integers = count;
      entries = entries;
      instrs = others;
    }
one_code integers entries instrs others count e f the is = cc

row_code : (p : GivenProcess) → IsRow p → process_view p.code ≡ code_of_row (process_row p)
row_code p fit =
    let even : length p.labels.lines.items ≡ length (map (instr_view p.code.bundles.items) p.code.instrs.items) =
    fit.lines ∙ sym (length-map p.code.instrs.items (instr_view p.code.bundles.items)) in
    one_code p.code.integers p.code.entries.items (map (instr_view p.code.bundles.items) p.code.instrs.items) _ _
    (fit.integers ∙ sym (length-map p.labels.integers.items (λ name. name.items)))
    (sym (side_right p.labels.lines.items (map (instr_view p.code.bundles.items) p.code.instrs.items) even))
    (process_view p.code) refl

one_labels : (lines others : List (Option ℕ)) (integers : List (List ℕ)) → lines ≡ others
    → (the : ProcessLabels) → the ≡ record { lines = lines; integers = integers } → the ≡ record { lines = others; integers = integers }
one_labels lines others integers e the is = cc

row_labels : (p : GivenProcess) → IsRow p → process_labels_view p.labels ≡ labels_of_row (process_row p)
row_labels p fit =
    let even : length p.labels.lines.items ≡ length (map (instr_view p.code.bundles.items) p.code.instrs.items) =
    fit.lines ∙ sym (length-map p.code.instrs.items (instr_view p.code.bundles.items)) in
    one_labels p.labels.lines.items _ (map (λ name. name.items) p.labels.integers.items)
    (sym (side_left p.labels.lines.items (map (instr_view p.code.bundles.items) p.code.instrs.items) even)) (process_labels_view p.labels) refl

pub rows_codes : (ps : List GivenProcess) → All IsRow ps → map process_view (map (λ p. p.code) ps) ≡ map code_of_row (map process_row ps)
rows_codes [] h = refl
rows_codes (p ∷ ps) h =
    ap (λ (c : ProcessCode). c ∷ map process_view (map (λ p. p.code) ps)) (row_code p (h 0 p (omega arith)))
    ∙ ap (λ (l : List ProcessCode). code_of_row (process_row p) ∷ l) (rows_codes ps (λ k d lt. h (suc k) d (omega arith)))

pub rows_labels : (ps : List GivenProcess) → All IsRow ps → map process_labels_view (map (λ p. p.labels) ps) ≡ map labels_of_row (map process_row ps)
rows_labels [] h = refl
rows_labels (p ∷ ps) h =
    ap (λ (l : ProcessLabels). l ∷ map process_labels_view (map (λ p. p.labels) ps)) (row_labels p (h 0 p (omega arith)))
    ∙ ap (λ (l : List ProcessLabels). labels_of_row (process_row p) ∷ l) (rows_labels ps (λ k d lt. h (suc k) d (omega arith)))

-- ---- ranges of columns

pub each_all : {X : Type 0} (Good : List X → X → Type 0) (P : X → Type 0) → ((e : List X) (x : X) → Good e x → P x) →
    (earlier xs : List X) → Each Good earlier xs → AllByRecursion P xs
each_all Good P is earlier [] h = tt
each_all Good P is earlier (x ∷ xs) h = (is earlier x h.0, each_all Good P is (earlier ++ x ∷ []) xs h.1)

pub all_map : {A B : Type 0} (P : B → Type 0) (f : A → B) (xs : List A) → AllByRecursion (λ x. P (f x)) xs → AllByRecursion P (map f xs)
all_map P f [] h = tt
all_map P f (x ∷ xs) h = (h.0, all_map P f xs h.1)

pub small_capitals : (rs : List GivenResource) → Each IsResource [] (map resource_row rs) → All (λ n. n ≤ 1000000) (map (λ r. r.capital) rs)
small_capitals rs h =
    let all = each_all IsResource (λ r. r.capital ≤ 1000000) (λ e r good. good.capital) [] (map resource_row rs) h in
    let column = all_map (λ n. n ≤ 1000000) (λ (r : ResourceRow). r.capital) (map resource_row rs) all in
    let capital : ResourceRow → ℕ = λ r. r.capital in
    subst (λ (l : List ℕ). All (λ n. n ≤ 1000000) l) (map-map capital resource_row rs) (All-from_recursion (λ n. n ≤
    1000000) (map capital (map resource_row rs)) column)

widths : (format : Format) (m : ℕ) (ps : List GivenProcess) → Each (IsProcess format m) [] (map process_row ps) →
    AllByRecursion (λ row. length row ≡ m) (map (λ p. p.claims.items) ps)
widths format m ps h =
    let all = each_all (IsProcess format m) (λ p. length p.claims ≡ m) (λ e p good. good.claims.0) [] (map process_row ps) h in
    let claims : ProcessRow → List ℕ = λ p. p.claims in
    let column = all_map (λ row. length row ≡ m) claims (map process_row ps) all in
    subst (λ (l : List (List ℕ)). AllByRecursion (λ row. length row ≡ m) l) (map-map claims process_row ps) column

pub width_is : (table : List (List ℕ)) (m : ℕ) → 0 < length table → AllByRecursion (λ row. length row ≡ m) table → width_of table ≡ m
width_is [] m some h = absurd (omega (arith, some))
width_is (row ∷ rows) m some h = h.0

pub claims_width : (format : Format) (m : ℕ) (ps : List GivenProcess) → 0 < length ps → m ≤ 16 → Each (IsProcess format m) [] (map process_row ps)
    → (width_of (map (λ p. p.claims.items) ps) ≤ 16) × HasWidth (width_of (map (λ p. p.claims.items) ps)) (map (λ p. p.claims.items) ps)
claims_width format m ps some few h =
    let table = map (λ (p : GivenProcess). p.claims.items) ps in
    let all = widths format m ps h in
    let wide : width_of table ≡ m = width_is table m (simp length-map some) all in
    (omega (arith, wide), subst (λ (n : ℕ). HasWidth n table) (sym wide) (All-from_recursion (λ row. length row ≡ m) table all))

pub few_processes : (format : Format) → most_processes format ≤ 64
few_processes One = omega arith
few_processes Two = omega arith

-- a code is known by its parts
pub whole_code : (pn qn rn sn : List (List ℕ)) (c d : List ℕ) (t u : List (List ℕ)) (ps qs : List ProcessCode) → pn ≡ qn → rn ≡ sn → c ≡ d → t ≡ u → ps ≡ qs
    → (the : Code) → the ≡ record { names = record { processes = pn; resources = rn }; capital = c; claims = t; processes = ps }
    → the ≡ record { names = record { processes = qn; resources = sn }; capital = d; claims = u; processes = qs }
whole_code pn qn rn sn c d t u ps qs e1 e2 e3 e4 e5 the is = cc
