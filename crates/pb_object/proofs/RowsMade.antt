-- The rows of an object, made of code and labels column by column.
use Rattle.std.proofs.Common.{◌≡◌, ℕ, suc, ◌<◌, ◌≤◌, true, List, [], ◌∷◌, ◌++◌, length, get_or, map, refl, sym, ap}
use Rattle.std.proofs.Common.{subst, ◌∙◌, arith, Option, Some}
use Rattle.std.specs.Prelude.{All, slice_get}
use Rattle.std.specs.List.{AllByRecursion}
use Rattle.std.proofs.lemmas.List.{map_push, length-map}
use Rattle.pb_base.specs.Banker.{cell}
use Rattle.pb_code.specs.declared.format.Format.{Format}
use Rattle.pb_code.specs.Code.{Instr, ProcessCode}
use Rattle.pb_code.specs.Whole.{ProcessLabels}
use Rattle.pb_code.specs.Names.{Word, is_name}
use Rattle.pb_object.specs.Words.{is_new_name, are_new}
use Rattle.pb_code.specs.Limits.{IsSmallProcess}
use Rattle.pb_object.specs.Objects.{ResourceRow, ProcessRow, code_of_row, labels_of_row}
use Rattle.pb_object.specs.Ranges.{Each, IsEntry, IsPlace, IsResource, IsProcess, AreIntegers, AreClaimsInRange}
use Rattle.pb_object.specs.Rows.{side_by_side}
use Rattle.pb_object.proofs.NewNames.{new_parts}
use Rattle.pb_object.proofs.PairedLists.{side_left, side_right}

-- ---- resources

pub resource_rows : List Word → List ℕ → List ResourceRow
resource_rows [] cs = []
resource_rows (n ∷ ns) [] = []
resource_rows (n ∷ ns) (c ∷ cs) = record { name = n; capital = c } ∷ resource_rows ns cs

pub resource_names : (ns : List Word) (cs : List ℕ) → length ns ≡ length cs → map (λ r. r.name) (resource_rows ns cs) ≡ ns
unfolding resource_rows
resource_names [] cs e = refl
resource_names (n ∷ ns) [] e = absurd (omega (arith, e))
resource_names (n ∷ ns) (c ∷ cs) e =
    ap (λ (l : List Word). n ∷ l) (resource_names ns cs (let f : suc (length ns) ≡ suc (length cs) = e in omega (arith, f)))

pub resource_capitals : (ns : List Word) (cs : List ℕ) → length ns ≡ length cs → map (λ r. r.capital) (resource_rows ns cs) ≡ cs
unfolding resource_rows
resource_capitals [] [] e = refl
resource_capitals [] (c ∷ cs) e = absurd (omega (arith, e))
resource_capitals (n ∷ ns) [] e = absurd (omega (arith, e))
resource_capitals (n ∷ ns) (c ∷ cs) e =
    ap (λ (l : List ℕ). c ∷ l) (resource_capitals ns cs (let f : suc (length ns) ≡ suc (length cs) = e in omega (arith, f)))

pub resources_good : (earlier : List ResourceRow) (ns : List Word) (cs : List ℕ) → AllByRecursion (λ w. is_name w ≡ true) ns
    → are_new (map (λ r. r.name) earlier) ns ≡ true → AllByRecursion (λ c. c ≤ 1000000) cs → Each IsResource earlier (resource_rows ns cs)
unfolding resource_rows
resources_good earlier [] cs formed new small = tt
resources_good earlier (n ∷ ns) [] formed new small = tt
resources_good earlier (n ∷ ns) (c ∷ cs) formed new small =
    let name : ResourceRow → Word = λ r. r.name in
    let row : ResourceRow = record { name = n; capital = c } in
    let parts = new_parts (map name earlier) n ns formed.0 new in (
      record { name = parts.0; capital = small.0 },
      resources_good (earlier ++ row ∷ []) ns cs formed.1
          (subst (λ (l : List Word). are_new l ns ≡ true) (sym (map_push name earlier row)) parts.1) small.1,
    )

-- ---- processes

pub process_row : Word → List ℕ → ProcessCode → ProcessLabels → ProcessRow
process_row name claims code labels = record {
  name = name;
  integers = labels.integers;
  claims = claims;
  entries = code.entries;
  places = side_by_side labels.lines code.instrs;
}

pub process_rows : List Word → List (List ℕ) → List ProcessCode → List ProcessLabels → List ProcessRow
process_rows [] ts ps ls = []
process_rows (n ∷ ns) [] ps ls = []
process_rows (n ∷ ns) (t ∷ ts) [] ls = []
process_rows (n ∷ ns) (t ∷ ts) (p ∷ ps) [] = []
process_rows (n ∷ ns) (t ∷ ts) (p ∷ ps) (l ∷ ls) = process_row n t p l ∷ process_rows ns ts ps ls

-- labels that a format has for the code of a process
pub record AreGood (format : Format) (p : ProcessCode) (l : ProcessLabels) : Type 0 where
  pub count : p.integers ≡ length l.integers
  pub lines : length l.lines ≡ length p.instrs
  pub integers : AreIntegers format l.integers
  pub places : Each (λ earlier place. IsPlace format place) [] (side_by_side l.lines p.instrs)

abbrev pub Matched : Format → List ProcessCode → List ProcessLabels → Type 0
Matched format ps ls = (k : ℕ) (p : ProcessCode) (l : ProcessLabels) → slice_get ps k ≡ Some p → slice_get ls k ≡ Some l → AreGood format p l

-- the rows say what they were made of
pub record AreColumns (ns : List Word) (ts : List (List ℕ)) (ps : List ProcessCode) (ls : List ProcessLabels) (rows : List ProcessRow) : Type 0 where
  pub names : map (λ r. r.name) rows ≡ ns
  pub claims : map (λ r. r.claims) rows ≡ ts
  pub codes : map code_of_row rows ≡ ps
  pub labels : map labels_of_row rows ≡ ls

row_code : (format : Format) (n : Word) (t : List ℕ) (p : ProcessCode) (l : ProcessLabels) → AreGood format p l → code_of_row (process_row n t p l) ≡ p
unfolding process_row
row_code format n t p l good =
    ap (λ (i : ℕ). record { integers = i; entries = p.entries; instrs = map (λ place. place.1) (side_by_side l.lines p.instrs) }) (sym good.count)
    ∙ ap (λ (is : List Instr). record { integers = p.integers; entries = p.entries; instrs = is }) (side_right l.lines p.instrs good.lines)

row_labels : (format : Format) (n : Word) (t : List ℕ) (p : ProcessCode) (l : ProcessLabels) → AreGood format p l → labels_of_row (process_row n t p l) ≡ l
unfolding process_row
row_labels format n t p l good =
    ap (λ (x : List (Option ℕ)). record { lines = x; integers = l.integers }) (side_left l.lines p.instrs good.lines)

pub columns : (format : Format) (ns : List Word) (ts : List (List ℕ)) (ps : List ProcessCode) (ls : List ProcessLabels)
    → length ns ≡ length ps → length ts ≡ length ps → length ls ≡ length ps → Matched format ps ls
    → AreColumns ns ts ps ls (process_rows ns ts ps ls)
unfolding process_rows process_row
columns format [] [] [] [] e f g good = record { names = refl; claims = refl; codes = refl; labels = refl }
columns format [] [] [] (l ∷ ls) e f g good = absurd (omega (arith, g))
columns format [] (t ∷ ts) [] ls e f g good = absurd (omega (arith, f))
columns format (n ∷ ns) ts [] ls e f g good = absurd (omega (arith, e))
columns format [] ts (p ∷ ps) ls e f g good = absurd (omega (arith, e))
columns format (n ∷ ns) [] (p ∷ ps) ls e f g good = absurd (omega (arith, f))
columns format (n ∷ ns) (t ∷ ts) (p ∷ ps) [] e f g good = absurd (omega (arith, g))
columns format (n ∷ ns) (t ∷ ts) (p ∷ ps) (l ∷ ls) e f g good =
    let e' : suc (length ns) ≡ suc (length ps) = e in
    let f' : suc (length ts) ≡ suc (length ps) = f in
    let g' : suc (length ls) ≡ suc (length ps) = g in
    let here : AreGood format p l = good 0 p l refl refl in
    let rest = columns format ns ts ps ls (omega (arith, e')) (omega (arith, f')) (omega (arith, g')) (λ k q m a b. good (suc k) q m a b) in
    record {
      names = ap (λ (x : List Word). n ∷ x) rest.names;
      claims = ap (λ (x : List (List ℕ)). t ∷ x) rest.claims;
      codes =
          ap (λ (c : ProcessCode). c ∷ map code_of_row (process_rows ns ts ps ls)) (row_code format n t p l here)
          ∙ ap (λ (x : List ProcessCode). p ∷ x) rest.codes;
      labels =
          ap (λ (c : ProcessLabels). c ∷ map labels_of_row (process_rows ns ts ps ls)) (row_labels format n t p l here)
          ∙ ap (λ (x : List ProcessLabels). l ∷ x) rest.labels;
    }

-- ---- processes are good

entries_good : (earlier entries : List ℕ) → All (λ place. place < 40000) entries → Each IsEntry earlier entries
entries_good earlier [] h = tt
entries_good earlier (e ∷ entries) h =
    ((let here = h 0 e (omega arith) in omega (arith, here)), entries_good (earlier ++ e ∷ []) entries (λ k d lt. h (suc k) d (omega (arith, lt))))

claims_small : (row : List ℕ) → ((r : ℕ) → r < length row → get_or row r 0 ≤ 1000000) → AllByRecursion (λ claim. claim ≤ 1000000) row
claims_small [] h = tt
claims_small (c ∷ row) h = (h 0 (omega arith), claims_small row (λ r lt. h (suc r) (omega (arith, lt))))

-- claims on m resources
pub record AreSmall (m : ℕ) (ts : List (List ℕ)) : Type 0 where
  pub width : All (λ row. length row ≡ m) ts
  pub small : (p r : ℕ) → p < length ts → r < m → cell ts p r ≤ 1000000

claims_good : (m : ℕ) (t : List ℕ) (ts : List (List ℕ)) → AreSmall m (t ∷ ts) → AreClaimsInRange m t
claims_good m t ts h =
    let wide = h.width 0 t (omega arith) in
    (wide, claims_small t (λ r lt. h.small 0 r (omega arith) (omega (arith, lt, wide))))

claims_rest : (m : ℕ) (t : List ℕ) (ts : List (List ℕ)) → AreSmall m (t ∷ ts) → AreSmall m ts
claims_rest m t ts h = record {
  width = λ k d lt. h.width (suc k) d (omega (arith, lt));
  small = λ p r u v. h.small (suc p) r (omega (arith, u)) v;
}

process_good : (format : Format) (m : ℕ) (earlier : List ProcessRow) (n : Word) (t : List ℕ) (p : ProcessCode) (l : ProcessLabels)
    → is_new_name (map (λ r. r.name) earlier) n ≡ true → AreClaimsInRange m t → IsSmallProcess p → AreGood format p l →
    IsProcess format m earlier (process_row n t p l)
unfolding process_row
process_good format m earlier n t p l name claims small good =
    let many : length (side_by_side l.lines p.instrs) ≡ length p.instrs =
    sym (length-map (side_by_side l.lines p.instrs) (λ (x : Option ℕ × Instr). x.1)) ∙ ap (λ (is : List Instr). length
    is) (side_right l.lines p.instrs good.lines) in
    record {
      name = name;
      integers = good.integers;
      some_arms = small.some_arms.0;
      few_arms = small.some_arms.1;
      claims = claims;
      entries = entries_good [] p.entries small.entries;
      some_places = (let s = small.some_places.0 in omega (arith, s, many));
      few_places = (let s = small.some_places.1 in omega (arith, s, many));
      places = good.places;
    }

pub processes_good : (format : Format) (m : ℕ) (earlier : List ProcessRow) (ns : List Word) (ts : List (List ℕ)) (ps :
    List ProcessCode) (ls : List ProcessLabels)
    → AllByRecursion (λ w. is_name w ≡ true) ns → are_new (map (λ r. r.name) earlier) ns ≡ true → AreSmall m ts
    → ((k : ℕ) (p : ProcessCode) → slice_get ps k ≡ Some p → IsSmallProcess p) → Matched format ps ls
    → Each (IsProcess format m) earlier (process_rows ns ts ps ls)
unfolding process_rows process_row
processes_good format m earlier [] ts ps ls formed new claims small good = tt
processes_good format m earlier (n ∷ ns) [] ps ls formed new claims small good = tt
processes_good format m earlier (n ∷ ns) (t ∷ ts) [] ls formed new claims small good = tt
processes_good format m earlier (n ∷ ns) (t ∷ ts) (p ∷ ps) [] formed new claims small good = tt
processes_good format m earlier (n ∷ ns) (t ∷ ts) (p ∷ ps) (l ∷ ls) formed new claims small good =
    let name : ProcessRow → Word = λ r. r.name in
    let row : ProcessRow = process_row n t p l in
    let parts = new_parts (map name earlier) n ns formed.0 new in (
      process_good format m earlier n t p l parts.0 (claims_good m t ts claims) (small 0 p refl) (good 0 p l refl refl),
      processes_good format m (earlier ++ row ∷ []) ns ts ps ls formed.1
          (subst (λ (x : List Word). are_new x ns ≡ true) (sym (map_push name earlier row)) parts.1)
          (claims_rest m t ts claims) (λ k q a. small (suc k) q a) (λ k q x a b. good (suc k) q x a b),
    )
