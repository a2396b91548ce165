-- From the parts of a process or a program to the whole.
use Rattle.std.proofs.Common.{◌≡◌, ◌≢◌, ℕ, zero, suc, ◌+◌, ◌<◌, ◌≤◌, List, [], ◌∷◌, ◌++◌, map, length, take, get_or}
use Rattle.std.proofs.Common.{Some, arith, ap, sym, ◌∙◌, refl, subst}
use Rattle.std.specs.Prelude.{slice_get, All}
use Rattle.std.specs.List.{AllZip}
use Rattle.std.proofs.lemmas.List.{length-map, map-append}
use Rattle.std.proofs.lemmas.Option.{slice_get-get_or, slice_get_within, get_or_from_slice_get}
use Rattle.pb_tree.specs.Syntax.{NameSyntax, ProcessSyntax, ResourceSyntax, ProgramSyntax}
use Rattle.pb_names.specs.Causes.{IsAgain, Among, InInteger, InResource, InProcess, InsideProcess, InProgram}
use Rattle.pb_names.specs.Limits.{most, widest_in, inner_arms, IsWithinLimits}
use Rattle.pb_names.specs.Program.{Name, Process, Resource, Block, IsNumbered}
use Rattle.pb_names.specs.Ready.{IsComplete, IsFitting}
use Rattle.pb_names.specs.Resolves.{texts, AreDistinct, ResolvesStmts, ResolvesProcess, ResolvesResource, Resolves}
use Rattle.pb_names.specs.Search.{IsFree}
use Rattle.pb_names.specs.declared.causes.Wrong.TheVariants.{Twice}
use Rattle.pb_names.specs.declared.fault.Kind.TheVariants.{Processes, Resources, Integers, Fork, Arms}
use Rattle.pb_names.proofs.FirstCauses.{free_left, free_right, free_at}
use Rattle.pb_names.proofs.Holds.{zip_more}
use Rattle.pb_names.proofs.NameNumbers.{read_take, taken_texts, taken_names}
use Rattle.pb_names.proofs.NumberedLists.{inner_of}
use Rattle.pb_base.proofs.Lists.{get_mapped}

-- ---- distinct names

-- a list in which no element is before itself
distinct_list : {X : Type 0} (xs : List X)
    → ((i k : ℕ) (x : X) → slice_get xs i ≡ Some x → k < i → slice_get xs k ≢ Some x)
    → (i j : ℕ) (d : X) → i < j → j < length xs → get_or xs i d ≢ get_or xs j d
distinct_list xs once i j d less below same =
    once j i (get_or xs j d) (slice_get-get_or xs j d below) less
    (slice_get-get_or xs i d (omega arith) ∙ ap Some same)

pub distinct_integers : (names : List NameSyntax) → IsFree (Among InInteger names) → AreDistinct (texts names)
distinct_integers names free = distinct_list (texts names) once
  where
    once : (i k : ℕ) (t : Name) → slice_get (texts names) i ≡ Some t → k < i → slice_get (texts names) k ≢ Some t
    once i k t here below there =
        let from = get_mapped (λ name. name.text) names i t here in
        let taken = read_take (texts names) i k t below there in
        (free_at InInteger names i from.0 from.1 free).free _
        (record {
          first = k;
          again = ap (λ ts. slice_get ts k) (sym (taken_texts names i)) ∙ taken ∙ ap Some (sym from.2);
          is = refl;
        })

pub distinct_names : {T : Type 0} (name : T → NameSyntax) (xs : List T)
    → ((i : ℕ) (x : T) → slice_get xs i ≡ Some x → IsFree (IsAgain Twice (texts (map name (take i xs))) (name x)))
    → AreDistinct (texts (map name xs))
distinct_names {T} name xs free = distinct_list (texts (map name xs)) once
  where
    once : (i k : ℕ) (t : Name) → slice_get (texts (map name xs)) i ≡ Some t → k < i
        → slice_get (texts (map name xs)) k ≢ Some t
    once i k t here below there =
        let text = get_mapped (λ name. name.text) (map name xs) i t here in
        let from = get_mapped name xs i text.0 text.1 in
        let taken = read_take (texts (map name xs)) i k t below there in
        (free i from.0 from.1).free _
        (record {
          first = k;
          again =
              ap (λ ts. slice_get ts k) (sym (taken_names name xs i)) ∙ taken
              ∙ ap Some (sym (ap (λ n. n.text) from.2 ∙ text.2));
          is = refl;
        })

-- ---- processes

pub whole_process : (rs : List Name) (written : ProcessSyntax) (name : Name) (integers : List Name) (body : Block)
    → name ≡ written.name.text → integers ≡ texts written.integers
    → length written.integers ≤ 64 → 1 + inner_arms written.body ≤ 64 → IsFree (InsideProcess rs written)
    → ResolvesStmts (texts written.integers) rs written.body body → IsNumbered 1 body
    → ResolvesProcess rs written (record { name = name; integers = integers; body = body })
whole_process rs written name integers body same_name same_integers few room free resolved numbered = record {
  name = same_name;
  integers = same_integers;
  distinct = rw same_integers (distinct_integers written.integers (free_left free));
  few_integers = omega (arith, ap length same_integers, length-map written.integers (λ name. name.text));
  body = rw same_integers resolved;
  numbered = numbered;
  few_arms = omega (arith, inner_of (texts written.integers) rs written.body body resolved);
}

-- one more element of two lists, as a loop reads the first
pub zip_view_more : {S T U V : Type 0} (R : T → V → Type 0) (view : S → T) (made : U → V) (xs : List S)
    (ys ys' : List U) (i : ℕ) (x : S) (y : U) → slice_get (map view xs) i ≡ Some (view x) → ys' ≡ ys ++ y ∷ []
    → AllZip R (take i (map view xs)) (map made ys) → R (view x) (made y)
    → AllZip R (take (i + 1) (map view xs)) (map made ys')
zip_view_more R view made xs ys ys' i x y here pushed zip next =
    zip_more R (map view xs) (map made ys) (map made ys') i (view x) (made y) here
    (ap (map made) pushed ∙ map-append made ys (y ∷ [])) zip next

-- what holds of the most holds of each
most_each : (f : ProcessSyntax → ℕ) (ps : List ProcessSyntax) (n : ℕ) → most f ps ≤ n → All (λ p. f p ≤ n) ps
most_each f [] n most k d below = absurd (omega arith)
most_each f (p ∷ ps) n most zero d below = omega arith
most_each f (p ∷ ps) n most (suc k) d below = most_each f ps n (omega arith) k d (omega arith)

pub each_fitting : (program : ProgramSyntax) → IsWithinLimits program → IsComplete program
    → All IsFitting program.processes
each_fitting program limits complete k d below = record {
  few_integers =
      most_each (λ process. length process.integers) program.processes 64 (limits.within Integers) k d below;
  complete = complete.bodies k d below;
  narrow = most_each (λ process. widest_in process.body) program.processes 16 (limits.within Fork) k d below;
  room = most_each (λ process. 1 + inner_arms process.body) program.processes 64 (limits.within Arms) k d below;
}

pub fitting_at : (ps : List ProcessSyntax) (i : ℕ) (p : ProcessSyntax) → slice_get ps i ≡ Some p → All IsFitting ps
    → IsFitting p
fitting_at ps i p here all =
    subst IsFitting (get_or_from_slice_get ps i p p here) (all i p (slice_get_within ps i p here))

-- ---- the program

pub resource_names_kept : (written : List ResourceSyntax) (resources : List Resource)
    → AllZip ResolvesResource written resources
    → map (λ r. r.name) resources ≡ texts (map (λ r. r.name) written)
resource_names_kept [] [] zip = refl
resource_names_kept [] (r ∷ rs) zip = absurd zip
resource_names_kept (w ∷ ws) [] zip = absurd zip
resource_names_kept (w ∷ ws) (r ∷ rs) zip =
    let rest = resource_names_kept ws rs zip.1 in let first = zip.0.name in cc

pub process_names_kept : (names : List Name) (written : List ProcessSyntax) (processes : List Process)
    → AllZip (ResolvesProcess names) written processes
    → map (λ p. p.name) processes ≡ texts (map (λ p. p.name) written)
process_names_kept names [] [] zip = refl
process_names_kept names [] (p ∷ ps) zip = absurd zip
process_names_kept names (w ∷ ws) [] zip = absurd zip
process_names_kept names (w ∷ ws) (p ∷ ps) zip =
    let rest = process_names_kept names ws ps zip.1 in let first = zip.0.name in cc

pub same_length : {A B : Type 0} (R : A → B → Type 0) (xs : List A) (ys : List B) → AllZip R xs ys → length ys ≡ length xs
same_length R [] [] zip = refl
same_length R [] (y ∷ ys) zip = absurd zip
same_length R (x ∷ xs) [] zip = absurd zip
same_length R (x ∷ xs) (y ∷ ys) zip = ap suc (same_length R xs ys zip.1)

pub whole_program : (written : ProgramSyntax) (resources : List Resource) (processes : List Process)
    → IsComplete written → IsWithinLimits written → IsFree (InProgram written)
    → AllZip ResolvesResource written.resources resources
    → AllZip (ResolvesProcess (texts (map (λ r. r.name) written.resources))) written.processes processes
    → Resolves written (record { resources = resources; processes = processes })
whole_program written resources processes complete limits free zip_resources zip_processes =
    let names = texts (map (λ (r : ResourceSyntax). r.name) written.resources) in
    let resource_names = resource_names_kept written.resources resources zip_resources in
    let process_names = process_names_kept names written.processes processes zip_processes in
    let many_resources = same_length ResolvesResource written.resources resources zip_resources in
    let many_processes = same_length (ResolvesProcess names) written.processes processes zip_processes in
    let few_resources = limits.within Resources in
    let few_processes = limits.within Processes in
    let some = complete.some_process in
    record {
      resources = zip_resources;
      processes = rw resource_names zip_processes;
      distinct_resources =
          rw resource_names (distinct_names (λ (r : ResourceSyntax). r.name) written.resources
          (λ i r here. free_left (free_at InResource written.resources i r here (free_left free))));
      distinct_processes =
          rw process_names (distinct_names (λ (p : ProcessSyntax). p.name) written.processes
          (λ i p here. free_left (free_at (InProcess names) written.processes i p here (free_right free))));
      few_resources = omega arith;
      some_processes = omega arith;
      few_processes = omega arith;
    }
