-- What contracts see of the lines that were read. No public contract cites this file.
use Rattle.std.specs.Prelude.{◌≡◌, ℕ, List, [], ◌∷◌, length, map, Option, Some, None, ⊤}
use Rattle.pb_base.specs.declared.pair.Pair.{Pair}
use Rattle.pb_object.specs.declared.words.Verdict.{Verdict}
use Rattle.pb_object.specs.declared.words.Verdict.TheVariants as verdict
use Rattle.pb_code.specs.declared.instr.Instr.{Instr as Given}
use Rattle.pb_code.specs.Code.{Instr}
use Rattle.pb_code.specs.View.{instr_view}
use Rattle.pb_object.specs.declared.reader.Places.{Places}
use Rattle.pb_object.specs.declared.rows.ResourceRow.{ResourceRow as GivenResource}
use Rattle.pb_object.specs.declared.rows.ProcessRow.{ProcessRow as GivenProcess}
use Rattle.pb_object.specs.declared.rows.Rows.{Rows}
use Rattle.pb_object.specs.Objects.{ResourceRow, ProcessRow, Object}

-- a place, with the bundles of its process
abbrev pub place_view : List (List Pair) → Option ℕ × Given → Option ℕ × Instr
place_view bundles place = (place.0, instr_view bundles place.1)

-- of what was read
abbrev pub IfRead : {A : Type 0} → Verdict A → (A → Type 0) → Type 0
IfRead verdict.Malformed P = ⊤
IfRead verdict.Beyond P = ⊤
IfRead (verdict.Read x) P = P x

-- the pairs so far
abbrev pub bundle_so_far : Option (List Pair) → List Pair
bundle_so_far None = []
bundle_so_far (Some pairs) = pairs

-- ---- rows

-- each element with the one that has the same number in the other list
abbrev pub side_by_side : {A B : Type 0} → List A → List B → List (A × B)
side_by_side [] ys = []
side_by_side (x ∷ xs) [] = []
side_by_side (x ∷ xs) (y ∷ ys) = (x, y) ∷ side_by_side xs ys

-- a resource that was read
abbrev pub resource_row : GivenResource → ResourceRow
resource_row r = record { name = r.name.items; capital = r.capital }

-- the places that were read
abbrev pub places_row : Places → List (Option ℕ × Instr)
places_row p = side_by_side p.lines.items (map (instr_view p.bundles.items) p.instrs.items)

-- a process that was read
abbrev pub process_row : GivenProcess → ProcessRow
process_row p = record {
  name = p.name.items;
  integers = map (λ name. name.items) p.labels.integers.items;
  claims = p.claims.items;
  entries = p.code.entries.items;
  places = side_by_side p.labels.lines.items (map (instr_view p.code.bundles.items) p.code.instrs.items);
}

-- an object that was read
abbrev pub object_row : Rows → Object
object_row rows = record {
  format = rows.format;
  resources = map resource_row rows.resources.items;
  processes = map process_row rows.processes.items;
}

-- the labels of a process fit its code
pub record IsRow (p : GivenProcess) : Type 0 where
  pub integers : p.code.integers ≡ length p.labels.integers.items
  pub lines : length p.labels.lines.items ≡ length p.code.instrs.items

-- a name that was read, or not of the form
abbrev pub named : Option (List ℕ) → Verdict (List ℕ)
named None = verdict.Malformed
named (Some name) = verdict.Read name
