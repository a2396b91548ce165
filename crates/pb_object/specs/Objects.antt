-- What the text of an object says, and its one spelling in each format.
use Rattle.std.specs.Prelude.{ℕ, List, [], ◌∷◌, ◌++◌, length, map, codes, Option}
use Rattle.std.specs.Fmt.{decimal}
use Rattle.std.specs.List.{flat_map}
use Rattle.pb_code.specs.declared.format.Format.{Format}
use Rattle.pb_code.specs.declared.format.Format.TheVariants.{One, Two}
use Rattle.pb_code.specs.Code.{Instr, ProcessCode}
use Rattle.pb_code.specs.Whole.{Code, ProcessLabels}
use Rattle.pb_code.specs.Names.{Word}
use Rattle.pb_object.specs.Lines.{line_text}
use Rattle.pb_object.specs.Instructions.{place_words}

-- ---- what an object says

-- a resource of an object
pub record ResourceRow : Type 0 where
  pub name : Word
  pub capital : ℕ

-- a process of an object
pub record ProcessRow : Type 0 where
  pub name : Word
  -- the names of its integers
  pub integers : List Word
  pub claims : List ℕ
  pub entries : List ℕ
  -- each with its source line, if it has one
  pub places : List (Option ℕ × Instr)

-- what an object says: its format, its resources and its processes
pub record Object : Type 0 where
  pub format : Format
  pub resources : List ResourceRow
  pub processes : List ProcessRow

-- the code of a process of an object
abbrev pub code_of_row : ProcessRow → ProcessCode
code_of_row p =
    record { integers = length p.integers; entries = p.entries; instrs = map (λ place. place.1) p.places }

-- the labels of a process of an object
abbrev pub labels_of_row : ProcessRow → ProcessLabels
labels_of_row p = record { lines = map (λ place. place.0) p.places; integers = p.integers }

-- the code that an object says
abbrev pub code_of : Object → Code
code_of o = record {
  names = record { processes = map (λ p. p.name) o.processes; resources = map (λ r. r.name) o.resources };
  capital = map (λ r. r.capital) o.resources;
  claims = map (λ p. p.claims) o.processes;
  processes = map code_of_row o.processes;
}

-- the labels that an object says
abbrev pub labels_of : Object → List ProcessLabels
labels_of o = map labels_of_row o.processes

-- ---- the spelling

-- the number of a format
abbrev pub digit_of : Format → Word
digit_of One = codes "1"
digit_of Two = codes "2"

-- a keyword and a number
abbrev pub counted_words : Word → ℕ → List Word
counted_words key n = key ∷ decimal n ∷ []

-- `resource NAME K`
abbrev pub resource_words : ResourceRow → List Word
resource_words r = codes "resource" ∷ r.name ∷ decimal r.capital ∷ []

-- `process NAME`
abbrev pub process_words : Word → List Word
process_words name = codes "process" ∷ name ∷ []

-- the first format has no names of integers
abbrev pub integers_words : Format → List Word → List Word
integers_words One names = counted_words (codes "vars") (length names)
integers_words Two names = codes "vars" ∷ decimal (length names) ∷ names

-- `claims K ..`: a claim for each resource
abbrev pub claims_words : List ℕ → List Word
claims_words claims = codes "claims" ∷ map decimal claims

-- the lines of a process
unfoldable pub process_text : Format → ProcessRow → List ℕ
process_text format p =
    line_text (process_words p.name)
    ++ (line_text (integers_words format p.integers)
    ++ (line_text (counted_words (codes "arms") (length p.entries))
    ++ (line_text (claims_words p.claims)
    ++ (flat_map (λ e. line_text (counted_words (codes "arm") e)) p.entries
    ++ (line_text (counted_words (codes "code") (length p.places))
    ++ flat_map (λ place. line_text (place_words format place)) p.places)))))

-- all lines of an object
unfoldable pub object_spelling : Object → List ℕ
object_spelling o =
    line_text (codes "PBO" ∷ digit_of o.format ∷ [])
    ++ (line_text (counted_words (codes "resources") (length o.resources))
    ++ (flat_map (λ r. line_text (resource_words r)) o.resources
    ++ (line_text (counted_words (codes "processes") (length o.processes))
    ++ flat_map (λ p. process_text o.format p) o.processes)))
