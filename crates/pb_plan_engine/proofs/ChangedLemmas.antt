-- A program with other capitals is the program of a tree that has these, with the same claims.
use Rattle.std.proofs.Common.{◌≡◌, ◌∙◌, ℕ, ◌≤◌, pos, List, [], ◌∷◌, Option, Some, None, map, option_map, refl, ap, subst, sym, arith}
use Rattle.std.specs.Prelude.{find, unwrap_or}
use Rattle.std.specs.Str.{bytes_eq}
use Rattle.std.specs.List.{AllZip}
use Rattle.std.proofs.lemmas.List.{length-map}
use Rattle.pb_base.specs.Steppers.{Table}
use Rattle.pb_capitals.specs.Changes.{capital_under}
use Rattle.pb_capitals.specs.declared.change.Change.{Change}
use Rattle.pb_names.specs.Program.{Name, Program, Resource}
use Rattle.pb_names.specs.Resolves.{AreDistinct, ResolvesProcess, ResolvesResource}
use Rattle.pb_plan_engine.specs.Changed.{changed_resource, with_changes}
use Rattle.pb_plan_engine.specs.Plans.{IsOfTree}
use Rattle.pb_tree.specs.Syntax.{ResourceSyntax}

-- a capital that a change gives is small
small_under : (found : Option Change) (own : ℕ) → own ≤ 1000000
    → unwrap_or (option_map (λ (change : Change). change.capital) found) own ≤ 1000000
small_under None own small = small
small_under (Some change) own small = change.small

-- the resources of a tree, written with the capitals of changes
abbrev rewritten : List Change → List ResourceSyntax → List Resource → List ResourceSyntax
rewritten changes [] resources = []
rewritten changes (w ∷ written) [] = []
rewritten changes (w ∷ written) (r ∷ resources) =
    record w { capital = record w.capital { value = pos (capital_under changes r.name r.capital) } } ∷ rewritten changes written resources

are_rewritten : (changes : List Change) (written : List ResourceSyntax) (resources : List Resource) → AllZip ResolvesResource written resources
    → AllZip ResolvesResource (rewritten changes written resources) (map (changed_resource changes) resources)
are_rewritten changes [] [] is = tt
are_rewritten changes [] (r ∷ resources) is = absurd is
are_rewritten changes (w ∷ written) [] is = absurd is
are_rewritten changes (w ∷ written) (r ∷ resources) is = (
  record { name = is.0.name; capital = refl; small = small_under (find (λ (change : Change). bytes_eq change.resource.bytes r.name) changes) r.capital is.0.small },
  are_rewritten changes written resources is.1,
)

-- the names are kept
names_kept : (changes : List Change) (resources : List Resource)
    → map (λ (r : Resource). r.name) (map (changed_resource changes) resources) ≡ map (λ (r : Resource). r.name) resources
names_kept changes [] = refl
names_kept changes (r ∷ resources) = ap (λ (ns : List Name). r.name ∷ ns) (names_kept changes resources)

-- and so are the claims
pub changed_of_tree : (changes : List Change) (program : Program) (claims : Table) → IsOfTree program claims
    → IsOfTree (with_changes changes program) claims
changed_of_tree changes program claims is =
    let names = names_kept changes program.resources in
    let long = length-map program.resources (changed_resource changes) in
    let few = is.numbered.few_resources in
    record {
      tree = record is.tree { resources = rewritten changes is.tree.resources program.resources };
      numbered = record {
        resources = are_rewritten changes is.tree.resources program.resources is.numbered.resources;
        processes = subst (λ (ns : List Name). AllZip (ResolvesProcess ns) is.tree.processes program.processes) (sym names) is.numbered.processes;
        distinct_resources = subst AreDistinct (sym names) is.numbered.distinct_resources;
        distinct_processes = is.numbered.distinct_processes;
        few_resources = omega (arith, few, long);
        some_processes = is.numbered.some_processes;
        few_processes = is.numbered.few_processes;
      };
      claimed = record {
        height = is.claimed.height;
        width = λ p lt. is.claimed.width p lt ∙ sym long;
        each = λ p r process has lt. is.claimed.each p r process has (omega (arith, lt, long));
      };
    }
