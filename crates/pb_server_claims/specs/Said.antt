-- What is said of a name of a text: of what kind it is, and the claims that have to do with it.
use Rattle.std.specs.Prelude.{ℕ, ◌==◌, List, [], ◌∷◌, ◌++◌, Option, Some, None, codes, cond, length, map, slice_index_or}
use Rattle.std.specs.Fmt.{decimal}
use Rattle.std.specs.List.{flat_map}
use Rattle.pb_names.specs.Program.{Name}
use Rattle.pb_names.specs.Resolves.{process_names, resource_names}
use Rattle.pb_outline.specs.Places.{Place}
use Rattle.pb_outline.specs.declared.place.Kind.{Kind}
use Rattle.pb_outline.specs.declared.place.Kind.TheVariants.{Resource, Process, Integer}
use Rattle.pb_plan.specs.declared.part.Part.{Part}
use Rattle.pb_server_claims.specs.Below.{each_below, made_of}
use Rattle.pb_server_claims.specs.Known.{Known}
use Rattle.pb_server_claims.specs.Numbered.{Numbered, capital, claim, claim_parts, process_name, resource_name}
use Rattle.pb_tree.specs.Syntax.{ProgramSyntax}

-- ---- a process

-- the lines of parts, each after a comma
abbrev pub further_lines : List Part → List ℕ
further_lines parts = flat_map (λ part. codes ", " ++ decimal part.line) parts

-- `line`, or `lines` if there are further ones
abbrev pub line_word : (further : ℕ) → List ℕ
line_word further = cond (further == 0) (codes " (line ") (codes " (lines ")

-- the lines of parts, as ` (lines 3, 5)`; nothing if there is none
abbrev pub lines_words : List Part → List ℕ
lines_words [] = []
lines_words (first ∷ rest) =
    line_word (length rest) ++ (decimal first.line ++ (further_lines rest ++ codes ")"))

-- a claim and where it comes from, on a line of its own; nothing if it is 0
abbrev pub claim_words : (amount : ℕ) → (resource : Name) → List Part → List ℕ
claim_words amount resource parts = cond (amount == 0) []
    (codes "\nmay hold " ++ (decimal amount ++ (codes " of " ++ (resource ++ (codes " at once" ++ lines_words parts)))))

-- the claims of process p
abbrev pub claims_words : Numbered → (p : ℕ) → List ℕ
claims_words n p =
    each_below (λ r. claim_words (claim n p r) (resource_name n r) (claim_parts n p r)) (length n.program.resources)

-- ---- a resource

-- what a process claims of it, on a line of its own; nothing if that is 0
abbrev pub holder_words : (process : Name) → (amount : ℕ) → List ℕ
holder_words process amount = cond (amount == 0) []
    (codes "\nprocess " ++ (process ++ (codes " may hold " ++ (decimal amount ++ codes " at once"))))

-- how much there is of resource r, and what each process claims of it
abbrev pub holders_words : Numbered → (r : ℕ) → List ℕ
holders_words n r =
    codes ": " ++ (decimal (capital n r) ++ (codes " in all"
    ++ each_below (λ p. holder_words (process_name n p) (claim n p r)) (length n.program.processes)))

-- ---- a name

-- the name of the process of a tree with this number
abbrev pub declared_name : ProgramSyntax → (p : ℕ) → Name
declared_name tree p = slice_index_or (map (λ process. process.name.text) tree.processes) p []

-- which numbers an integer may be, and what it is at first
unfoldable pub integer_range : List ℕ
integer_range = codes "\nfrom -9223372036854775808 to 9223372036854775807, 0 at first"

-- what is said by the numbered program, if there is one
abbrev pub by_program : Option Numbered → (Numbered → List ℕ) → List ℕ
by_program None said = []
by_program (Some n) said = said n

-- what is said of a name of this kind
abbrev pub words_by : Kind → Known → Name → List ℕ
words_by Resource known name = codes "resource " ++ (name
    ++ by_program known.found (λ n. made_of (resource_names n.program) name (holders_words n)))
words_by Process known name = codes "process " ++ (name
    ++ by_program known.found (λ n. made_of (process_names n.program) name (claims_words n)))
words_by (Integer p) known name = codes "integer " ++ (name ++ (codes " of process " ++ (declared_name known.tree p ++ integer_range)))

-- what is said of a place of a name
abbrev pub name_words : Known → Place → List ℕ
name_words known place = words_by place.kind known place.text
