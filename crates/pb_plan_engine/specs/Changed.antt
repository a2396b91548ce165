-- Programs with capitals that stand in place of those of their texts.
use Rattle.std.specs.Prelude.{Bool, List, Option, find, map, not}
use Rattle.std.specs.List.{list_any}
use Rattle.std.specs.Str.{bytes_eq}
use Rattle.pb_capitals.specs.Changes.{capital_under}
use Rattle.pb_capitals.specs.declared.change.Change.{Change}
use Rattle.pb_names.specs.Program.{Name, Program, Resource}

-- a resource with the capital that a change gives it, if one names it
abbrev pub changed_resource : List Change → Resource → Resource
changed_resource changes resource =
    record resource { capital = capital_under changes resource.name resource.capital }

-- the program as it would be if the texts had these capitals
abbrev pub with_changes : List Change → Program → Program
with_changes changes program = record program { resources = map (changed_resource changes) program.resources }

-- whether a resource of the program has this name
abbrev pub is_declared : Program → Name → Bool
is_declared program name = list_any (λ resource. bytes_eq resource.name name) program.resources

-- the first change that names no resource of the program, if there is one
abbrev pub undeclared : List Change → Program → Option Change
undeclared changes program = find (λ change. not (is_declared program change.resource.bytes)) changes
