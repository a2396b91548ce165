-- Reading an object stops only where the lines before could go on, and rests only on the lines up to there.
use Rattle.std.proofs.Common.{◌≡◌, ℕ, zero, suc, ◌^◌, ◌<◌, ◌≤◌, true, List, [], ◌∷◌, ◌++◌, length, map, codes, Option}
use Rattle.std.proofs.Common.{None, refl, ap, arith}
use Rattle.std.specs.List.{list_all}
use Rattle.std.proofs.lemmas.List.{length-map}
use Rattle.pb_code.specs.Code.{Instr, End}
use Rattle.pb_code.specs.Names.{Word}
use Rattle.pb_code.specs.declared.format.Format.{Format}
use Rattle.pb_code.specs.declared.format.Format.TheVariants.{One, Two}
use Rattle.pb_object.specs.Instructions.{place, place_words}
use Rattle.pb_object.specs.Lines.{line_by, many, line_text}
use Rattle.pb_object.specs.Objects.{ResourceRow, ProcessRow, Object, counted_words, resource_words, process_words}
use Rattle.pb_object.specs.Ranges.{IsPlace, IsResource, AreIntegers, AreClaimsInRange, most_processes, plain_names}
use Rattle.pb_object.specs.Reading.{counted, resource, process_name, heading, integers, claims, resource_at, entry_at}
use Rattle.pb_object.specs.Reading.{place_at, process_at, process_after, object_at}
use Rattle.pb_object.proofs.LineLemmas.{is_inner}
use Rattle.pb_object.proofs.Parts.{IsPart, line_is}
use Rattle.pb_object.proofs.LineForms.{resource_is, name_is}
use Rattle.pb_object.proofs.LineKinds.{IsKey, counted_keeps, heading_keeps, resource_keeps, name_keeps, integers_keep, claims_keep}
use Rattle.pb_object.proofs.InstrKinds.{place_keeps}
use Rattle.pb_object.proofs.InstrForms.{place_is}
use Rattle.pb_object.proofs.ObjectLaws.{counted_part, claims_part, format_part, integers_part, small_processes}
use Rattle.pb_object.proofs.FreshNames.{fresh_name}
use Rattle.pb_object.proofs.ExactReaders.{Reader, Says, IsExact, IsSayable, line_exact, then_read, then_exact, then_sayable}
use Rattle.pb_object.proofs.ExactReaders.{read_all, end_exact, end_sayable, many_exact}

abbrev pub Both : {X : Type 0} → Reader X → Type 0
Both part = IsExact part × IsSayable part

both_then : {X Y : Type 0} (first : Reader X) (second : X → Reader Y) → Both first
    → ((x : X) (s : List ℕ) → Says first x s → Both (second x)) → Both (then_read first second)
both_then {X} first second one after =
    let others : (x : X) (s : List ℕ) → Says first x s → IsSayable (second x) = λ x s says. (after x s says).1 in
    (then_exact first second one.0 after, then_sayable first second one.1 others)

both_end : {X : Type 0} (v : X) → Both (read_all v)
both_end v = (end_exact v, end_sayable v)

said_of : {X : Type 0} (part : Reader X) (text : X → List ℕ) (Good : X → Type 0) → IsPart part text Good → (x : X) → Good x → IsSayable part
said_of part text Good is x good = (x, text x, λ rest. is.again x rest good)

-- ---- lines

counted_both : (key : Word) (high : ℕ) → 1 ≤ high → high < 2 ^ 64 → list_all is_inner key ≡ true → IsKey key → (low : ℕ) → low ≤ 1
    → Both (line_by (counted key low high))
counted_both key high some small clean is low few =
    let s = said_of (line_by (counted key low high)) (λ n. line_text (counted_words key n)) (λ n. (low ≤ n) × (n ≤ high))
    (counted_part key low high small clean) 1 (few, some) in
    (line_exact (counted key low high) (counted_keeps key low high small few some clean is) s, s)

-- a number that was read is in range
counted_within : (key : Word) (low high n : ℕ) (s : List ℕ) → high < 2 ^ 64 → list_all is_inner key ≡ true
    → Says (line_by (counted key low high)) n s → n ≤ high
counted_within key low high n s small clean says = ((counted_part key low high small clean).takes (s ++ []) n [] (says [])).1.1

heading_both : Both (line_by heading)
heading_both =
    let s = said_of (line_by heading) _ _ format_part Two tt in
    (line_exact heading heading_keeps s, s)

resource_both : (earlier : List ResourceRow) → length earlier < 64 → Both (resource_at earlier)
resource_both earlier few =
    let f = fresh_name (map (λ e. e.name) earlier) (omega (arith, few, length-map earlier (λ (e : ResourceRow). e.name))) in
    let row : ResourceRow = record { name = f.0; capital = 0 } in
    let good : IsResource earlier row = record { name = f.1; capital = omega arith } in
    let s = said_of (line_by (resource earlier)) (λ r. line_text (resource_words r)) (IsResource earlier) (line_is
    (resource earlier) resource_words (IsResource earlier) (resource_is earlier)) row good in
    (line_exact (resource earlier) (resource_keeps earlier) s, s)

name_both : (names : List Word) → length names < 64 → Both (line_by (process_name names))
name_both names few =
    let f = fresh_name names few in
    let s = said_of (line_by (process_name names)) (λ name. line_text (process_words name)) _ (line_is (process_name
    names) process_words _ (name_is names)) f.0 f.1 in
    (line_exact (process_name names) (name_keeps names) s, s)

no_integers : (format : Format) → AreIntegers format []
unfolding plain_names
no_integers One = (refl, omega arith)
no_integers Two = (tt, refl, omega arith)

integers_both : (format : Format) → Both (line_by (integers format))
integers_both format =
    let s = said_of (line_by (integers format)) _ (AreIntegers format) (integers_part format) [] (no_integers format) in
    (line_exact (integers format) (integers_keep format) s, s)

some_claims : (m : ℕ) → (cs : List ℕ) × AreClaimsInRange m cs
some_claims zero = ([], (refl, tt))
some_claims (suc m) = let s = some_claims m in (0 ∷ s.0, (ap suc s.1.0, (omega arith, s.1.1)))

claims_both : (m : ℕ) → Both (line_by (claims m))
claims_both m =
    let c = some_claims m in
    let s = said_of (line_by (claims m)) _ (AreClaimsInRange m) (claims_part m) c.0 c.1 in
    (line_exact (claims m) (claims_keep m) s, s)

an_end : (format : Format) → IsPlace format (None, End)
an_end One = (refl, tt)
an_end Two = (tt, tt)

place_both : (format : Format) → Both (line_by (place format))
place_both format =
    let s = said_of (line_by (place format)) (λ i. line_text (place_words format i)) (IsPlace format) (line_is (place
    format) (place_words format) (IsPlace format) (place_is format)) (None, End) (an_end format) in
    (line_exact (place format) (place_keeps format) s, s)

-- ---- parts in a row

entries_both : (n : ℕ) → Both (many entry_at [] n)
entries_both n = many_exact entry_at n (λ earlier few. counted_both (codes "arm") 39999 (omega arith) (omega arith) refl (record { numeral = refl; below = refl; heading = refl }) 0 (omega arith)) n [] (omega arith)

places_both : (format : Format) (n : ℕ) → Both (many (place_at format) [] n)
places_both format n = many_exact (place_at format) n (λ earlier few. place_both format) n [] (omega arith)

resources_both : (n : ℕ) → n ≤ 64 → Both (many resource_at [] n)
resources_both n few = many_exact resource_at 64 resource_both n [] (omega (arith, few))

-- ---- a process

abbrev Place : Type 0
Place = Option ℕ × Instr

abbrev after_places : Word → List Word → List ℕ → List ℕ → List Place → Reader ProcessRow
after_places name names claims entries places =
    read_all (record { name = name; integers = names; claims = claims; entries = entries; places = places })

abbrev after_count : Format → Word → List Word → List ℕ → List ℕ → ℕ → Reader ProcessRow
after_count format name names claims entries count = then_read (many (place_at format) [] count) (after_places name names claims entries)

abbrev after_entries : Format → Word → List Word → List ℕ → List ℕ → Reader ProcessRow
after_entries format name names claims entries = then_read (line_by (counted (codes "code") 1 40000)) (after_count format name names claims entries)

abbrev after_claims : Format → Word → List Word → ℕ → List ℕ → Reader ProcessRow
after_claims format name names arms claims = then_read (many entry_at [] arms) (after_entries format name names claims)

abbrev after_arms : Format → ℕ → Word → List Word → ℕ → Reader ProcessRow
after_arms format m name names arms = then_read (line_by (claims m)) (after_claims format name names arms)

abbrev after_integers : Format → ℕ → Word → List Word → Reader ProcessRow
after_integers format m name names = then_read (line_by (counted (codes "arms") 1 64)) (after_arms format m name names)

abbrev after_name : Format → ℕ → Word → Reader ProcessRow
after_name format m name = then_read (line_by (integers format)) (after_integers format m name)

count_both : (format : Format) (name : Word) (names : List Word) (claims entries : List ℕ) (count : ℕ) → Both
    (after_count format name names claims entries count)
count_both format name names claims entries count =
    both_then (many (place_at format) [] count) (after_places name names claims entries) (places_both format count)
    (λ places s says. both_end (record { name = name; integers = names; claims = claims; entries = entries; places = places }))

entries_then : (format : Format) (name : Word) (names : List Word) (claims entries : List ℕ) → Both (after_entries format name names claims entries)
entries_then format name names claims entries =
    both_then (line_by (counted (codes "code") 1 40000)) (after_count format name names claims entries)
    (counted_both (codes "code") 40000 (omega arith) (omega arith) refl (record { numeral = refl; below = refl; heading = refl }) 1 (omega arith))
    (λ count s says. count_both format name names claims entries count)

claims_then : (format : Format) (name : Word) (names : List Word) (arms : ℕ) (claims : List ℕ) → Both (after_claims format name names arms claims)
claims_then format name names arms claims =
    both_then (many entry_at [] arms) (after_entries format name names claims) (entries_both arms)
    (λ entries s says. entries_then format name names claims entries)

arms_then : (format : Format) (m : ℕ) (name : Word) (names : List Word) (arms : ℕ) → Both (after_arms format m name names arms)
arms_then format m name names arms =
    both_then (line_by (claims m)) (after_claims format name names arms) (claims_both m)
    (λ claims s says. claims_then format name names arms claims)

integers_then : (format : Format) (m : ℕ) (name : Word) (names : List Word) → Both (after_integers format m name names)
integers_then format m name names =
    both_then (line_by (counted (codes "arms") 1 64)) (after_arms format m name names)
    (counted_both (codes "arms") 64 (omega arith) (omega arith) refl (record { numeral = refl; below = refl; heading = refl }) 1 (omega arith))
    (λ arms s says. arms_then format m name names arms)

name_then : (format : Format) (m : ℕ) (name : Word) → Both (after_name format m name)
name_then format m name =
    both_then (line_by (integers format)) (after_integers format m name) (integers_both format)
    (λ names s says. integers_then format m name names)

process_both : (format : Format) (m : ℕ) (earlier : List ProcessRow) → length earlier < 64 → Both (process_at format m earlier)
unfolding process_after
process_both format m earlier few =
    let names = map (λ e. e.name) earlier in
    both_then (line_by (process_name names)) (after_name format m)
    (name_both names (omega (arith, few, length-map earlier (λ (e : ProcessRow). e.name))))
    (λ name s says. name_then format m name)

processes_both : (format : Format) (m n : ℕ) → n ≤ 64 → Both (many (process_at format m) [] n)
processes_both format m n few = many_exact (process_at format m) 64 (process_both format m) n [] (omega (arith, few))

-- ---- an object

abbrev after_processes : Format → List ResourceRow → List ProcessRow → Reader Object
after_processes format resources processes = read_all (record { format = format; resources = resources; processes = processes })

abbrev after_process_count : Format → ℕ → List ResourceRow → ℕ → Reader Object
after_process_count format m resources p = then_read (many (process_at format m) [] p) (after_processes format resources)

abbrev after_resources : Format → ℕ → List ResourceRow → Reader Object
after_resources format m resources = then_read (line_by (counted (codes "processes") 1 (most_processes format))) (after_process_count format m resources)

abbrev after_resource_count : Format → ℕ → Reader Object
after_resource_count format m = then_read (many resource_at [] m) (after_resources format m)

abbrev after_format : Format → Reader Object
after_format format = then_read (line_by (counted (codes "resources") 0 16)) (after_resource_count format)

few_of : (format : Format) → (1 ≤ most_processes format) × (most_processes format ≤ 64)
few_of One = (omega arith, omega arith)
few_of Two = (omega arith, omega arith)

process_count_then : (format : Format) (m : ℕ) (resources : List ResourceRow) (p : ℕ) → p ≤ 64 → Both (after_process_count format m resources p)
process_count_then format m resources p few =
    both_then (many (process_at format m) [] p) (after_processes format resources) (processes_both format m p few)
    (λ processes s says. both_end (record { format = format; resources = resources; processes = processes }))

resources_then : (format : Format) (m : ℕ) (resources : List ResourceRow) → Both (after_resources format m resources)
resources_then format m resources =
    let few = few_of format in
    both_then (line_by (counted (codes "processes") 1 (most_processes format))) (after_process_count format m resources)
    (counted_both (codes "processes") (most_processes format) few.0 (small_processes format) refl (record { numeral = refl; below = refl; heading = refl }) 1 (omega arith))
    (λ p s says. let below = counted_within (codes "processes") 1 (most_processes format) p s (small_processes format) refl says in
    process_count_then format m resources p (let most = few.1 in omega (arith, below, most)))

resource_count_then : (format : Format) (m : ℕ) → m ≤ 64 → Both (after_resource_count format m)
resource_count_then format m few =
    both_then (many resource_at [] m) (after_resources format m) (resources_both m few)
    (λ resources s says. resources_then format m resources)

pub format_then : (format : Format) → Both (after_format format)
format_then format =
    both_then (line_by (counted (codes "resources") 0 16)) (after_resource_count format)
    (counted_both (codes "resources") 16 (omega arith) (omega arith) refl (record { numeral = refl; below = refl; heading = refl }) 0 (omega arith))
    (λ m s says. let below = counted_within (codes "resources") 0 16 m s (omega arith) refl says in
    resource_count_then format m (omega (arith, below)))

pub object_both : Both object_at
unfolding object_at
object_both = both_then (line_by heading) after_format heading_both (λ format s says. format_then format)
