-- Reading an object from left to right, up to the first faulty line.
use Rattle.std.specs.Prelude.{ℕ, ◌-◌, Bool, cond, ◌&&◌, nat_lt, ◌==◌, List, [], ◌∷◌, length, map, if◌then◌else◌}
use Rattle.std.specs.Prelude.{codes, Option, Result, Ok, Err}
use Rattle.std.specs.Str.Parse.{digits_value}
use Rattle.std.specs.List.{list_all}
use Rattle.pb_base.specs.declared.limits.TheConstants.{MAX_AMOUNT, MAX_ARMS, MAX_INPUT, MAX_INTEGERS, MAX_PLACES}
use Rattle.pb_base.specs.declared.limits.TheConstants.{MAX_RESOURCES}
use Rattle.pb_object.specs.declared.words.Verdict.{Verdict}
use Rattle.pb_object.specs.declared.words.Verdict.TheVariants as verdict
use Rattle.pb_object.specs.declared.fault.Fault.{Fault}
use Rattle.pb_object.specs.declared.fault.Fault.TheVariants.{Malformed, Beyond}
use Rattle.pb_object.specs.declared.fault.ObjectFault.{ObjectFault}
use Rattle.pb_object.specs.declared.fault.ObjectFault.TheVariants.{NotObject, Limit}
use Rattle.pb_code.specs.declared.format.Format.{Format}
use Rattle.pb_code.specs.declared.format.Format.TheVariants.{One, Two}
use Rattle.pb_code.specs.Code.{Instr}
use Rattle.pb_code.specs.Names.{Word, is_name}
use Rattle.pb_code.specs.Numerals.{is_numeral}
use Rattle.pb_object.specs.Words.{mapped, number, numbers, is_new_name, are_new}
use Rattle.pb_object.specs.Lines.{line_by, many, ◌>>=◌}
use Rattle.pb_object.specs.Instructions.{select, alone, place}
use Rattle.pb_object.specs.Objects.{ResourceRow, ProcessRow, Object}
use Rattle.pb_object.specs.Ranges.{plain_names, most_processes}

-- ---- what each line says

-- `PBO 1` or `PBO 2`
abbrev pub heading : List Word → Verdict Format
heading [] = verdict.Malformed
heading (k ∷ []) = verdict.Malformed
heading (k ∷ d ∷ []) =
    select k (codes "PBO")
    (select d (codes "1") (verdict.Read One) (select d (codes "2") (verdict.Read Two) verdict.Malformed))
    verdict.Malformed
heading (k ∷ d ∷ w ∷ ws) = verdict.Malformed

-- a keyword and a number
abbrev pub counted : Word → ℕ → ℕ → List Word → Verdict ℕ
counted key low high [] = verdict.Malformed
counted key low high (k ∷ ws) = select k key (alone (number low high) ws) verdict.Malformed

-- `resource NAME K`: a resource with a new name
abbrev pub resource : List ResourceRow → List Word → Verdict ResourceRow
resource earlier [] = verdict.Malformed
resource earlier (k ∷ []) = verdict.Malformed
resource earlier (k ∷ name ∷ []) = verdict.Malformed
resource earlier (k ∷ name ∷ capital ∷ []) =
    select k (codes "resource")
    (cond (is_new_name (map (λ r. r.name) earlier) name)
    (mapped (λ c. record { name = name; capital = c }) (number 0 MAX_AMOUNT capital))
    verdict.Malformed)
    verdict.Malformed
resource earlier (k ∷ name ∷ capital ∷ w ∷ ws) = verdict.Malformed

-- `process NAME`: a new name
abbrev pub process_name : List Word → List Word → Verdict Word
process_name earlier [] = verdict.Malformed
process_name earlier (k ∷ []) = verdict.Malformed
process_name earlier (k ∷ name ∷ []) =
    select k (codes "process") (cond (is_new_name earlier name) (verdict.Read name) verdict.Malformed) verdict.Malformed
process_name earlier (k ∷ name ∷ w ∷ ws) = verdict.Malformed

-- the word is the numeral of this number
abbrev pub says_number : Word → ℕ → Bool
says_number word n = is_numeral word && (digits_value 10 word == n)

-- as many names as the word says; they are compared with one another if they are at most 64
unfoldable pub named_integers : Word → List Word → Verdict (List Word)
named_integers count names =
    cond (says_number count (length names) && list_all is_name names)
    (cond (nat_lt MAX_INTEGERS (length names)) verdict.Beyond (cond (are_new [] names) (verdict.Read names) verdict.Malformed))
    verdict.Malformed

-- `vars V`, in the second format with V names after it
abbrev pub integers : Format → List Word → Verdict (List Word)
integers One ws = mapped plain_names (counted (codes "vars") 0 MAX_INTEGERS ws)
integers Two [] = verdict.Malformed
integers Two (k ∷ []) = verdict.Malformed
integers Two (k ∷ count ∷ names) = select k (codes "vars") (named_integers count names) verdict.Malformed

-- a claim for each of m resources
abbrev pub claims : ℕ → List Word → Verdict (List ℕ)
claims m [] = verdict.Malformed
claims m (k ∷ ws) =
    select k (codes "claims") (cond (length ws == m) (numbers 0 MAX_AMOUNT ws) verdict.Malformed) verdict.Malformed

-- ---- the parts of an object, each with what follows it

-- a resource, after these
abbrev pub resource_at : List ResourceRow → List ℕ → Result (ResourceRow × List ℕ) Fault
resource_at earlier = line_by (resource earlier)

-- an entry, after these
abbrev pub entry_at : List ℕ → List ℕ → Result (ℕ × List ℕ) Fault
entry_at earlier = line_by (counted (codes "arm") 0 (MAX_PLACES - 1))

-- a place, after these
abbrev pub place_at : Format → List (Option ℕ × Instr) → List ℕ → Result ((Option ℕ × Instr) × List ℕ) Fault
place_at format earlier = line_by (place format)

-- a process with claims on m resources, after those of these names
unfoldable pub process_after : Format → ℕ → List Word → List ℕ → Result (ProcessRow × List ℕ) Fault
process_after format m names text = do
  name ← line_by (process_name names) text
  integers ← line_by (integers format) name.1
  arms ← line_by (counted (codes "arms") 1 MAX_ARMS) integers.1
  claims ← line_by (claims m) arms.1
  entries ← many entry_at [] arms.0 claims.1
  count ← line_by (counted (codes "code") 1 MAX_PLACES) entries.1
  places ← many (place_at format) [] count.0 count.1
  Ok (record { name = name.0; integers = integers.0; claims = claims.0; entries = entries.0; places = places.0 }, places.1)

-- a process with claims on m resources, after these
abbrev pub process_at : Format → ℕ → List ProcessRow → List ℕ → Result (ProcessRow × List ℕ) Fault
process_at format m earlier text = process_after format m (map (λ p. p.name) earlier) text

-- an object
unfoldable pub object_at : List ℕ → Result (Object × List ℕ) Fault
object_at text = do
  format ← line_by heading text
  m ← line_by (counted (codes "resources") 0 MAX_RESOURCES) format.1
  resources ← many resource_at [] m.0 m.1
  p ← line_by (counted (codes "processes") 1 (most_processes format.0)) resources.1
  processes ← many (process_at format.0 m.0) [] p.0 p.1
  Ok (record { format = format.0; resources = resources.0; processes = processes.0 }, processes.1)

-- all of the text
unfoldable pub all_of : List ℕ → Result Object Fault
all_of text = do
  o ← object_at text
  if length o.1 == 0 then Ok o.0 else Err (Malformed (length o.1))

-- ---- the result

-- the offset of a line is the length of what is before it
abbrev pub placed : ℕ → Result Object Fault → Result Object ObjectFault
placed n (Ok o) = Ok o
placed n (Err (Malformed left)) = Err (NotObject (n - left))
placed n (Err (Beyond left)) = Err (Limit (n - left))

-- a text of more than 4,194,304 bytes is not read
abbrev pub answer_of : List ℕ → Result Object ObjectFault
answer_of text = if nat_lt MAX_INPUT (length text) then Err (Limit 0) else placed (length text) (all_of text)
