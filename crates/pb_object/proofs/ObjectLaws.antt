-- What is read of an object is what it spells, and what is spelled is read, whatever follows.
use Rattle.std.proofs.Common.{◌≡◌, ℕ, ◌^◌, ◌<◌, ◌≤◌, Bool, true, false, cond, eqb, List, [], ◌∷◌, ◌++◌, length}
use Rattle.std.proofs.Common.{Option, Result, Ok, Err, refl, sym, ap, subst, ◌∙◌, append_assoc, arith, codes, map}
use Rattle.std.specs.List.{flat_map, list_all}
use Rattle.std.proofs.lemmas.Bool.{eqb-true}
use Rattle.std.proofs.lemmas.List.{append-nil, nil_from_length}
use Rattle.pb_object.specs.declared.fault.Fault.{Fault}
use Rattle.pb_object.specs.declared.fault.Fault.TheVariants.{Malformed}
use Rattle.pb_code.specs.declared.format.Format.{Format}
use Rattle.pb_code.specs.declared.format.Format.TheVariants.{One, Two}
use Rattle.pb_code.specs.Code.{Instr}
use Rattle.pb_code.specs.Names.{Word}
use Rattle.pb_object.specs.Words.{is_new_name}
use Rattle.pb_object.specs.Lines.{line_text, line_by, many, ◌>>=◌}
use Rattle.pb_object.specs.Instructions.{place, place_words}
use Rattle.pb_object.specs.Objects.{ProcessRow, ResourceRow, Object, counted_words, resource_words, process_words}
use Rattle.pb_object.specs.Objects.{integers_words, claims_words, digit_of, process_text, object_spelling}
use Rattle.pb_object.specs.Ranges.{Each, IsPlace, IsResource, IsEntry, IsProcess, IsObject, AreIntegers}
use Rattle.pb_object.specs.Ranges.{AreClaimsInRange, most_processes}
use Rattle.pb_object.specs.Reading.{counted, resource, process_name, heading, integers, claims, resource_at, entry_at}
use Rattle.pb_object.specs.Reading.{place_at, process_at, process_after, object_at, all_of}
use Rattle.pb_object.proofs.LineLemmas.{bind_ok, ok_is, is_inner}
use Rattle.pb_object.proofs.Parts.{IsPart, line_is, many_is}
use Rattle.pb_object.proofs.LineForms.{counted_is, heading_is, resource_is, name_is, integers_is, claims_is}
use Rattle.pb_object.proofs.InstrForms.{place_is}

bind_is : {A B : Type 0} (m : Result A Fault) (f : A → Result B Fault) (x : A) → m ≡ Ok x → (m >>= f) ≡ f x
bind_is {A} {B} m f x e = ap (λ (r : Result A Fault). r >>= f) e

five : (x1 x2 x3 x4 x5 rest : List ℕ) → (x1 ++ (x2 ++ (x3 ++ (x4 ++ x5)))) ++ rest ≡ x1 ++ (x2 ++ (x3 ++ (x4 ++ (x5 ++ rest))))
five x1 x2 x3 x4 x5 rest = simp append_assoc

-- five parts in a row
joined : (x1 x2 x3 x4 x5 bytes b1 b2 b3 b4 rest : List ℕ) → bytes ≡ x1 ++ b1 → b1 ≡ x2 ++ b2 → b2 ≡ x3 ++ b3 → b3 ≡ x4 ++ b4 → b4 ≡ x5 ++ rest
    → bytes ≡ (x1 ++ (x2 ++ (x3 ++ (x4 ++ x5)))) ++ rest
joined x1 x2 x3 x4 x5 bytes b1 b2 b3 b4 rest e1 e2 e3 e4 e5 =
    e1 ∙ ap (λ (t : List ℕ). x1 ++ t) (e2 ∙ ap (λ (t : List ℕ). x2 ++ t) (e3 ∙ ap (λ (t : List ℕ). x3 ++ t) (e4 ∙ ap (λ (t : List ℕ). x4 ++ t) e5)))
    ∙ sym (five x1 x2 x3 x4 x5 rest)

pub counted_part : (key : Word) (low high : ℕ) → high < 2 ^ 64 → list_all is_inner key ≡ true → IsPart (line_by (counted
    key low high)) (λ n. line_text (counted_words key n)) (λ n. (low ≤ n) × (n ≤ high))
counted_part key low high small clean = line_is (counted key low high) (counted_words key) (λ n. (low ≤ n) × (n ≤ high)) (counted_is key low high small clean)

pub resources_part : (n : ℕ) → IsPart (many resource_at [] n) (flat_map (λ r. line_text (resource_words r))) (λ xs. (length xs ≡ n) × Each IsResource [] xs)
resources_part n = many_is resource_at (λ r. line_text (resource_words r)) IsResource (λ earlier. line_is (resource
    earlier) resource_words (IsResource earlier) (resource_is earlier)) n

entry_part : (earlier : List ℕ) → IsPart (entry_at earlier) (λ e. line_text (counted_words (codes "arm") e)) (IsEntry earlier)
entry_part earlier =
    let p = line_is (counted (codes "arm") 0 39999) (counted_words (codes "arm")) (λ n. (0 ≤ n) × (n ≤ 39999))
    (counted_is (codes "arm") 0 39999 (omega arith) refl) in
    record {
      takes = λ bytes x rest e. let t = p.takes bytes x rest e in (t.0, t.1.1);
      again = λ x rest good. p.again x rest (omega arith, good);
    }

entries_part : (n : ℕ) → IsPart (many entry_at [] n) (flat_map (λ e. line_text (counted_words (codes "arm") e))) (λ xs. (length xs ≡ n) × Each IsEntry [] xs)
entries_part n = many_is entry_at (λ e. line_text (counted_words (codes "arm") e)) IsEntry entry_part n

pub places_part : (format : Format) (n : ℕ) → IsPart (many (place_at format) [] n) (flat_map (λ i. line_text
    (place_words format i))) (λ xs. (length xs ≡ n) × Each (λ earlier i. IsPlace format i) [] xs)
places_part format n = many_is (place_at format) (λ i. line_text (place_words format i)) (λ earlier i. IsPlace format
    i) (λ earlier. line_is (place format) (place_words format) (IsPlace format) (place_is format)) n

name_part : (earlier : List ProcessRow) → IsPart (line_by (process_name (map (λ p. p.name) earlier))) (λ name. line_text
    (process_words name)) (λ name. is_new_name (map (λ e. e.name) earlier) name ≡ true)
name_part earlier = line_is (process_name (map (λ p. p.name) earlier)) process_words (λ name. is_new_name (map (λ e.
    e.name) earlier) name ≡ true) (name_is (map (λ p. p.name) earlier))

pub integers_part : (format : Format) → IsPart (line_by (integers format)) (λ names. line_text (integers_words format names)) (AreIntegers format)
integers_part format = line_is (integers format) (integers_words format) (AreIntegers format) (integers_is format)

pub few_integers : (format : Format) (names : List Word) → AreIntegers format names → length names ≤ 64
few_integers One names good = good.1
few_integers Two names good = good.2

pub claims_part : (m : ℕ) → IsPart (line_by (claims m)) (λ ns. line_text (claims_words ns)) (AreClaimsInRange m)
claims_part m = line_is (claims m) claims_words (AreClaimsInRange m) (claims_is m)

seven : (x1 x2 x3 x4 x5 x6 x7 rest : List ℕ)
    → (x1 ++ (x2 ++ (x3 ++ (x4 ++ (x5 ++ (x6 ++ x7)))))) ++ rest ≡ x1 ++ (x2 ++ (x3 ++ (x4 ++ (x5 ++ (x6 ++ (x7 ++ rest))))))
seven x1 x2 x3 x4 x5 x6 x7 rest = simp append_assoc

-- seven parts in a row
joined_seven : (x1 x2 x3 x4 x5 x6 x7 bytes b1 b2 b3 b4 b5 b6 rest : List ℕ)
    → bytes ≡ x1 ++ b1 → b1 ≡ x2 ++ b2 → b2 ≡ x3 ++ b3 → b3 ≡ x4 ++ b4 → b4 ≡ x5 ++ b5 → b5 ≡ x6 ++ b6 → b6 ≡ x7 ++ rest
    → bytes ≡ (x1 ++ (x2 ++ (x3 ++ (x4 ++ (x5 ++ (x6 ++ x7)))))) ++ rest
joined_seven x1 x2 x3 x4 x5 x6 x7 bytes b1 b2 b3 b4 b5 b6 rest e1 e2 e3 e4 e5 e6 e7 =
    e1 ∙ ap (λ (t : List ℕ). x1 ++ t) (e2 ∙ ap (λ (t : List ℕ). x2 ++ t) (e3 ∙ ap (λ (t : List ℕ). x3 ++ t) (e4 ∙ ap (λ (t : List ℕ). x4 ++ t)
    (e5 ∙ ap (λ (t : List ℕ). x5 ++ t) (e6 ∙ ap (λ (t : List ℕ). x6 ++ t) e7)))))
    ∙ sym (seven x1 x2 x3 x4 x5 x6 x7 rest)

-- ---- what follows each part of a process

abbrev AProcess : Type 0
AProcess = Result (ProcessRow × List ℕ) Fault

abbrev after_places : Word → List Word → List ℕ → List ℕ → List (Option ℕ × Instr) × List ℕ → AProcess
after_places name integers claims entries places =
    Ok (record { name = name; integers = integers; claims = claims; entries = entries; places = places.0 }, places.1)

abbrev after_count : Format → Word → List Word → List ℕ → List ℕ → ℕ × List ℕ → AProcess
after_count format name integers claims entries count =
    many (place_at format) [] count.0 count.1 >>= after_places name integers claims entries

abbrev after_entries : Format → Word → List Word → List ℕ → List ℕ × List ℕ → AProcess
after_entries format name integers claims entries =
    line_by (counted (codes "code") 1 40000) entries.1 >>= after_count format name integers claims entries.0

abbrev after_claims : Format → Word → List Word → ℕ → List ℕ × List ℕ → AProcess
after_claims format name integers arms claims =
    many entry_at [] arms claims.1 >>= after_entries format name integers claims.0

abbrev after_arms : Format → ℕ → Word → List Word → ℕ × List ℕ → AProcess
after_arms format m name integers arms = line_by (claims m) arms.1 >>= after_claims format name integers arms.0

abbrev after_integers : Format → ℕ → Word → List Word × List ℕ → AProcess
after_integers format m name integers =
    line_by (counted (codes "arms") 1 64) integers.1 >>= after_arms format m name integers.0

abbrev after_name : Format → ℕ → Word × List ℕ → AProcess
after_name format m name = line_by (integers format) name.1 >>= after_integers format m name.0

process_takes : (format : Format) (m : ℕ) (earlier : List ProcessRow) (bytes : List ℕ) (p : ProcessRow) (rest : List
    ℕ) → process_at format m earlier bytes ≡ Ok (p, rest)
    → (bytes ≡ process_text format p ++ rest) × IsProcess format m earlier p
unfolding process_after process_text
process_takes format m earlier bytes p rest e =
    let a = bind_ok (line_by (process_name (map (λ p. p.name) earlier)) bytes) (after_name format m) (p, rest) e in
    let b = bind_ok (line_by (integers format) a.0.1) (after_integers format m a.0.0) (p, rest) a.2 in
    let d = bind_ok (line_by (counted (codes "arms") 1 64) b.0.1) (after_arms format m a.0.0 b.0.0) (p, rest) b.2 in
    let f = bind_ok (line_by (claims m) d.0.1) (after_claims format a.0.0 b.0.0 d.0.0) (p, rest) d.2 in
    let g = bind_ok (many entry_at [] d.0.0 f.0.1) (after_entries format a.0.0 b.0.0 f.0.0) (p, rest) f.2 in
    let h = bind_ok (line_by (counted (codes "code") 1 40000) g.0.1) (after_count format a.0.0 b.0.0 f.0.0 g.0.0) (p, rest) g.2 in
    let i = bind_ok (many (place_at format) [] h.0.0 h.0.1) (after_places a.0.0 b.0.0 f.0.0 g.0.0) (p, rest) h.2 in
    let ta = (name_part earlier).takes bytes a.0.0 a.0.1 a.1 in
    let tb = (integers_part format).takes a.0.1 b.0.0 b.0.1 b.1 in
    let td = (counted_part (codes "arms") 1 64 (omega arith) refl).takes b.0.1 d.0.0 d.0.1 d.1 in
    let tf = (claims_part m).takes d.0.1 f.0.0 f.0.1 f.1 in
    let tg = (entries_part d.0.0).takes f.0.1 g.0.0 g.0.1 g.1 in
    let th = (counted_part (codes "code") 1 40000 (omega arith) refl).takes g.0.1 h.0.0 h.0.1 h.1 in
    let ti = (places_part format h.0.0).takes h.0.1 i.0.0 i.0.1 i.1 in
    let made : ProcessRow = record { name = a.0.0; integers = b.0.0; claims = f.0.0; entries = g.0.0; places = i.0.0 } in
    let arms : line_text (counted_words (codes "arms") d.0.0) ≡ line_text (counted_words (codes "arms") (length
    g.0.0)) = ap (λ (n : ℕ). line_text (counted_words (codes "arms") n)) (sym tg.1.0) in
    let code : line_text (counted_words (codes "code") h.0.0) ≡ line_text (counted_words (codes "code") (length
    i.0.0)) = ap (λ (n : ℕ). line_text (counted_words (codes "code") n)) (sym ti.1.0) in
    let e1 =
    joined_seven
    (line_text (process_words a.0.0))
    (line_text (integers_words format b.0.0))
    (line_text (counted_words (codes "arms") (length g.0.0)))
    (line_text (claims_words f.0.0))
    (flat_map (λ e. line_text (counted_words (codes "arm") e)) g.0.0)
    (line_text (counted_words (codes "code") (length i.0.0)))
    (flat_map (λ i. line_text (place_words format i)) i.0.0)
    bytes a.0.1 b.0.1 d.0.1 f.0.1 g.0.1 h.0.1 i.0.1
    ta.0 tb.0 (td.0 ∙ ap (λ (t : List ℕ). t ++ d.0.1) arms) tf.0 tg.0 (th.0 ∙ ap (λ (t : List ℕ). t ++ h.0.1) code) ti.0 in
    let good : IsProcess format m earlier made = record {
      name = ta.1;
      integers = tb.1;
      some_arms = (let n = tg.1.0 in let l = td.1.0 in omega arith);
      few_arms = (let n = tg.1.0 in let l = td.1.1 in omega arith);
      claims = tf.1;
      entries = tg.1.1;
      some_places = (let n = ti.1.0 in let l = th.1.0 in omega arith);
      few_places = (let n = ti.1.0 in let l = th.1.1 in omega arith);
      places = ti.1.1;
    } in
    subst (λ (y : ProcessRow × List ℕ). (bytes ≡ process_text format y.0 ++ y.1) × IsProcess format m earlier y.0)
    (ok_is (made, i.0.1) (p, rest) i.2) (e1, good)

process_again : (format : Format) (m : ℕ) (earlier : List ProcessRow) (p : ProcessRow) (rest : List ℕ) → IsProcess format m earlier p
    → process_at format m earlier (process_text format p ++ rest) ≡ Ok (p, rest)
unfolding process_after process_text
process_again format m earlier p rest good =
    let x1 = line_text (process_words p.name) in
    let x2 = line_text (integers_words format p.integers) in
    let x3 = line_text (counted_words (codes "arms") (length p.entries)) in
    let x4 = line_text (claims_words p.claims) in
    let x5 = flat_map (λ e. line_text (counted_words (codes "arm") e)) p.entries in
    let x6 = line_text (counted_words (codes "code") (length p.places)) in
    let x7 = flat_map (λ i. line_text (place_words format i)) p.places in
    let regrouped = seven x1 x2 x3 x4 x5 x6 x7 rest in
    let ints = p.integers in
    let arms = length p.entries in
    let count = length p.places in
    ap (process_at format m earlier) regrouped
    ∙ bind_is (line_by (process_name (map (λ p. p.name) earlier)) (x1 ++ (x2 ++ (x3 ++ (x4 ++ (x5 ++ (x6 ++ (x7 ++ rest))))))))
    (after_name format m) (p.name, x2 ++ (x3 ++ (x4 ++ (x5 ++ (x6 ++ (x7 ++ rest))))))
    ((name_part earlier).again p.name (x2 ++ (x3 ++ (x4 ++ (x5 ++ (x6 ++ (x7 ++ rest)))))) good.name)
    ∙ bind_is (line_by (integers format) (x2 ++ (x3 ++ (x4 ++ (x5 ++ (x6 ++ (x7 ++ rest)))))))
    (after_integers format m p.name) (ints, x3 ++ (x4 ++ (x5 ++ (x6 ++ (x7 ++ rest)))))
    ((integers_part format).again ints (x3 ++ (x4 ++ (x5 ++ (x6 ++ (x7 ++ rest))))) good.integers)
    ∙ bind_is (line_by (counted (codes "arms") 1 64) (x3 ++ (x4 ++ (x5 ++ (x6 ++ (x7 ++ rest))))))
    (after_arms format m p.name ints) (arms, x4 ++ (x5 ++ (x6 ++ (x7 ++ rest))))
    ((counted_part (codes "arms") 1 64 (omega arith) refl).again arms (x4 ++ (x5 ++ (x6 ++ (x7 ++ rest)))) (good.some_arms, good.few_arms))
    ∙ bind_is (line_by (claims m) (x4 ++ (x5 ++ (x6 ++ (x7 ++ rest)))))
    (after_claims format p.name ints arms) (p.claims, x5 ++ (x6 ++ (x7 ++ rest)))
    ((claims_part m).again p.claims (x5 ++ (x6 ++ (x7 ++ rest))) good.claims)
    ∙ bind_is (many entry_at [] arms (x5 ++ (x6 ++ (x7 ++ rest))))
    (after_entries format p.name ints p.claims) (p.entries, x6 ++ (x7 ++ rest))
    ((entries_part arms).again p.entries (x6 ++ (x7 ++ rest)) (refl, good.entries))
    ∙ bind_is (line_by (counted (codes "code") 1 40000) (x6 ++ (x7 ++ rest)))
    (after_count format p.name ints p.claims p.entries) (count, x7 ++ rest)
    ((counted_part (codes "code") 1 40000 (omega arith) refl).again count (x7 ++ rest) (good.some_places, good.few_places))
    ∙ bind_is (many (place_at format) [] count (x7 ++ rest))
    (after_places p.name ints p.claims p.entries) (p.places, rest)
    ((places_part format count).again p.places rest (refl, good.places))

pub process_part : (format : Format) (m : ℕ) (earlier : List ProcessRow) → IsPart (process_at format m earlier)
    (process_text format) (IsProcess format m earlier)
process_part format m earlier = record { takes = process_takes format m earlier; again = process_again format m earlier }

processes_part : (format : Format) (m n : ℕ) → IsPart (many (process_at format m) [] n) (flat_map (λ p. process_text
    format p)) (λ xs. (length xs ≡ n) × Each (IsProcess format m) [] xs)
processes_part format m n = many_is (process_at format m) (process_text format) (IsProcess format m) (process_part format m) n

-- ---- a whole object

pub small_processes : (f : Format) → most_processes f < 2 ^ 64
small_processes One = omega arith
small_processes Two = omega arith

pub format_part : IsPart (line_by heading) (λ f. line_text (codes "PBO" ∷ digit_of f ∷ [])) (λ f. Unit {0})
format_part = line_is heading (λ f. codes "PBO" ∷ digit_of f ∷ []) (λ f. Unit {0}) heading_is

abbrev AnObject : Type 0
AnObject = Result (Object × List ℕ) Fault

abbrev after_processes : Format → List ResourceRow → List ProcessRow × List ℕ → AnObject
after_processes format resources processes =
    Ok (record { format = format; resources = resources; processes = processes.0 }, processes.1)

abbrev after_number : Format → ℕ → List ResourceRow → ℕ × List ℕ → AnObject
after_number format m resources number =
    many (process_at format m) [] number.0 number.1 >>= after_processes format resources

abbrev after_resources : Format → ℕ → List ResourceRow × List ℕ → AnObject
after_resources format m resources =
    line_by (counted (codes "processes") 1 (most_processes format)) resources.1 >>= after_number format m resources.0

abbrev after_m : Format → ℕ × List ℕ → AnObject
after_m format m = many resource_at [] m.0 m.1 >>= after_resources format m.0

abbrev after_format : Format × List ℕ → AnObject
after_format format = line_by (counted (codes "resources") 0 16) format.1 >>= after_m format.0

object_takes : (bytes : List ℕ) (o : Object) (rest : List ℕ) → object_at bytes ≡ Ok (o, rest) → (bytes ≡ object_spelling o ++ rest) × IsObject o
unfolding object_at object_spelling
object_takes bytes o rest e =
    let a = bind_ok (line_by heading bytes) after_format (o, rest) e in
    let b = bind_ok (line_by (counted (codes "resources") 0 16) a.0.1) (after_m a.0.0) (o, rest) a.2 in
    let c = bind_ok (many resource_at [] b.0.0 b.0.1) (after_resources a.0.0 b.0.0) (o, rest) b.2 in
    let d = bind_ok (line_by (counted (codes "processes") 1 (most_processes a.0.0)) c.0.1) (after_number a.0.0 b.0.0 c.0.0) (o, rest) c.2 in
    let g = bind_ok (many (process_at a.0.0 b.0.0) [] d.0.0 d.0.1) (after_processes a.0.0 c.0.0) (o, rest) d.2 in
    let ta = format_part.takes bytes a.0.0 a.0.1 a.1 in
    let tb = (counted_part (codes "resources") 0 16 (omega arith) refl).takes a.0.1 b.0.0 b.0.1 b.1 in
    let tc = (resources_part b.0.0).takes b.0.1 c.0.0 c.0.1 c.1 in
    let td = (counted_part (codes "processes") 1 (most_processes a.0.0) (small_processes a.0.0) refl).takes c.0.1 d.0.0 d.0.1 d.1 in
    let tg = (processes_part a.0.0 b.0.0 d.0.0).takes d.0.1 g.0.0 g.0.1 g.1 in
    let made : Object = record { format = a.0.0; resources = c.0.0; processes = g.0.0 } in
    let resources : line_text (counted_words (codes "resources") b.0.0) ≡ line_text (counted_words (codes "resources")
    (length c.0.0)) = ap (λ (n : ℕ). line_text (counted_words (codes "resources") n)) (sym tc.1.0) in
    let processes : line_text (counted_words (codes "processes") d.0.0) ≡ line_text (counted_words (codes "processes")
    (length g.0.0)) = ap (λ (n : ℕ). line_text (counted_words (codes "processes") n)) (sym tg.1.0) in
    let e1 =
    joined
    (line_text (codes "PBO" ∷ digit_of a.0.0 ∷ []))
    (line_text (counted_words (codes "resources") (length c.0.0)))
    (flat_map (λ r. line_text (resource_words r)) c.0.0)
    (line_text (counted_words (codes "processes") (length g.0.0)))
    (flat_map (λ p. process_text a.0.0 p) g.0.0)
    bytes a.0.1 b.0.1 c.0.1 d.0.1 g.0.1
    ta.0 (tb.0 ∙ ap (λ (t : List ℕ). t ++ b.0.1) resources) tc.0 (td.0 ∙ ap (λ (t : List ℕ). t ++ d.0.1) processes) tg.0 in
    let good : IsObject made = record {
      few_resources = (let n = tc.1.0 in let l = tb.1.1 in omega arith);
      resources = tc.1.1;
      some_processes = (let n = tg.1.0 in let l = td.1.0 in omega arith);
      few_processes = subst (λ (n : ℕ). n ≤ most_processes a.0.0) (sym tg.1.0) td.1.1;
      processes = subst (λ (m : ℕ). Each (IsProcess a.0.0 m) [] g.0.0) (sym tc.1.0) tg.1.1;
    } in
    subst (λ (y : Object × List ℕ). (bytes ≡ object_spelling y.0 ++ y.1) × IsObject y.0) (ok_is (made, g.0.1) (o, rest) g.2) (e1, good)

object_again : (o : Object) (rest : List ℕ) → IsObject o → object_at (object_spelling o ++ rest) ≡ Ok (o, rest)
unfolding object_at object_spelling
object_again o rest good =
    let x1 = line_text (codes "PBO" ∷ digit_of o.format ∷ []) in
    let x2 = line_text (counted_words (codes "resources") (length o.resources)) in
    let x3 = flat_map (λ r. line_text (resource_words r)) o.resources in
    let x4 = line_text (counted_words (codes "processes") (length o.processes)) in
    let x5 = flat_map (λ p. process_text o.format p) o.processes in
    let m = length o.resources in
    let number = length o.processes in
    ap object_at (five x1 x2 x3 x4 x5 rest)
    ∙ bind_is (line_by heading (x1 ++ (x2 ++ (x3 ++ (x4 ++ (x5 ++ rest)))))) after_format
    (o.format, x2 ++ (x3 ++ (x4 ++ (x5 ++ rest))))
    (format_part.again o.format (x2 ++ (x3 ++ (x4 ++ (x5 ++ rest)))) tt)
    ∙ bind_is (line_by (counted (codes "resources") 0 16) (x2 ++ (x3 ++ (x4 ++ (x5 ++ rest))))) (after_m o.format)
    (m, x3 ++ (x4 ++ (x5 ++ rest)))
    ((counted_part (codes "resources") 0 16 (omega arith) refl).again m (x3 ++ (x4 ++ (x5 ++ rest))) (omega arith, good.few_resources))
    ∙ bind_is (many resource_at [] m (x3 ++ (x4 ++ (x5 ++ rest)))) (after_resources o.format m) (o.resources, x4 ++ (x5 ++ rest))
    ((resources_part m).again o.resources (x4 ++ (x5 ++ rest)) (refl, good.resources))
    ∙ bind_is (line_by (counted (codes "processes") 1 (most_processes o.format)) (x4 ++ (x5 ++ rest)))
    (after_number o.format m o.resources) (number, x5 ++ rest)
    ((counted_part (codes "processes") 1 (most_processes o.format) (small_processes o.format) refl).again number (x5 ++
    rest) (good.some_processes, good.few_processes))
    ∙ bind_is (many (process_at o.format m) [] number (x5 ++ rest)) (after_processes o.format o.resources) (o.processes, rest)
    ((processes_part o.format m number).again o.processes rest (refl, good.processes))

pub object_part : IsPart object_at object_spelling IsObject
object_part = record { takes = object_takes; again = object_again }

-- an object's text followed by more is an object's text only if nothing follows, and then of the same object
pub alike : (a b : Object) (more : List ℕ) → IsObject a → IsObject b → object_spelling a ++ more ≡ object_spelling b → (a ≡ b) × (more ≡ [])
alike a b more ga gb e =
    let first = object_again a more ga in
    let second = object_again b [] gb in
    let same : object_at (object_spelling a ++ more) ≡ object_at (object_spelling b ++ []) = ap object_at (e ∙ sym (append-nil (object_spelling b))) in
    let pairs : (a, more) ≡ (b, []) = ok_is (a, more) (b, []) (sym first ∙ same ∙ second) in
    (ap (λ (x : Object × List ℕ). x.0) pairs, ap (λ (x : Object × List ℕ). x.1) pairs)

guard_ended : (b : Bool) (d : Fault) (x y : Object) → cond b (Ok x) (Err d) ≡ Ok y → (b ≡ true) × (x ≡ y)
guard_ended true d x y e = (refl, cc)
guard_ended false d x y e = absurd cc

pub all_takes : (bytes : List ℕ) (o : Object) → all_of bytes ≡ Ok o → IsObject o × (bytes ≡ object_spelling o)
unfolding all_of
all_takes bytes o e =
    let a = bind_ok (object_at bytes) (λ x. cond (eqb (length x.1) 0) (Ok x.0) (Err (Malformed (length x.1)))) o e in
    let g = guard_ended (eqb (length a.0.1) 0) (Malformed (length a.0.1)) a.0.0 o a.2 in
    let t = object_takes bytes a.0.0 a.0.1 a.1 in
    let nothing : a.0.1 ≡ [] = nil_from_length a.0.1 (eqb-true _ _ g.0) in
    let whole : bytes ≡ object_spelling a.0.0 = t.0 ∙ ap (λ (r : List ℕ). object_spelling a.0.0 ++ r) nothing ∙ append-nil (object_spelling a.0.0) in
    subst (λ (x : Object). IsObject x × (bytes ≡ object_spelling x)) g.1 (t.1, whole)

pub all_again : (o : Object) → IsObject o → all_of (object_spelling o) ≡ Ok o
unfolding all_of
all_again o good =
    let read : object_at (object_spelling o) ≡ Ok (o, []) = ap object_at (sym (append-nil (object_spelling o))) ∙ object_again o [] good in
    rw read refl
