-- Edges one before another, and the circle at their end.
use Rattle.std.proofs.Common.{◌≡◌, ◌⊎◌, inl, inr, ⊎_elim, ℕ, zero, suc, ◌+◌, ◌-◌, ◌<◌, List, [], ◌∷◌, length, take, map, get_or}
use Rattle.std.proofs.Common.{Option, Some, None, refl, sym, ap, ◌∙◌, subst, arith}
use Rattle.std.specs.Prelude.{All, slice_get, remove}
use Rattle.std.proofs.lemmas.Bool.{cases_eq}
use Rattle.std.proofs.lemmas.List.{length-take-le}
use Rattle.std.proofs.lemmas.List.Elements.{All-nil, All-cons, All-take, All-weaker}
use Rattle.std.proofs.lemmas.Option.{slice_get_within}
use Rattle.pb_base.proofs.Lists.{all_at, get_removed}
use Rattle.pb_names.specs.Program.{Process}
use Rattle.pb_names.specs.View.{process_view}
use Rattle.pb_names.specs.declared.resolved.Process.{Process as GivenProcess}
use Rattle.pb_plan.proofs.StandingLemmas.{nest_below}
use Rattle.pb_plan.specs.Circles.{IsBelow, IsCircleAmong, IsEdge, IsEdgeAmong, IsOnPath, IsPath, JoinsThese}
use Rattle.pb_plan.specs.Nests.{AskBelow, IsAmong, first, nest, nest_among}
use Rattle.pb_plan.specs.Orders.{EachHold}
use Rattle.pb_plan.specs.declared.edge.Edge.{Edge}
use Rattle.pb_plan.specs.declared.nest.Nest.{Nest}

-- what is in the first part of a list is in the list
get_taken : {X : Type 0} (n : ℕ) (xs : List X) (k : ℕ) (x : X) → slice_get (take n xs) k ≡ Some x → slice_get xs k ≡ Some x
get_taken zero xs k x h = absurd cc
get_taken (suc n) [] k x h = absurd cc
get_taken (suc n) (y ∷ xs) zero x h = h
get_taken (suc n) (y ∷ xs) (suc k) x h = get_taken n xs k x h

module _ (Good : Edge → Type 0) where
  pub path_start : (at : ℕ) → IsPath Good [] at
  path_start at = record {
    each = All-nil Good;
    next = λ k edge next h i. absurd cc;
    first = λ edge h. absurd cc;
    once = λ i k edge other h j e. absurd cc;
  }

  pub path_more : (path : List Edge) (at : ℕ) (edge : Edge) → IsPath Good path at → Good edge → edge.nest.inner ≡ at
      → (IsOnPath path at → ⊥) → IsPath Good (edge ∷ path) edge.nest.outer
  path_more path at edge is good to new = record {
    each = All-cons Good edge path good is.each;
    next = next;
    first = λ one h. (let e : edge ≡ one = cc in ap (λ (it : Edge). it.nest.outer) (sym e));
    once = once;
  }
    where
      next : (k : ℕ) (one two : Edge) → slice_get (edge ∷ path) k ≡ Some one → slice_get (edge ∷ path) (k + 1) ≡ Some two
          → one.nest.inner ≡ two.nest.outer
      next zero one two h i =
          let e : edge ≡ one = cc in
          sym (ap (λ (it : Edge). it.nest.inner) e) ∙ (to ∙ sym (is.first two i))
      next (suc k) one two h i =
          let e : suc k + 1 ≡ suc (k + 1) = omega arith in
          let i' : slice_get (edge ∷ path) (suc (k + 1)) ≡ Some two = subst (λ (j : ℕ). slice_get (edge ∷ path) j ≡ Some two) e i in
          is.next k one two h i'

      once : (i k : ℕ) (one two : Edge) → slice_get (edge ∷ path) i ≡ Some one → slice_get (edge ∷ path) k ≡ Some two
          → one.nest.inner ≡ two.nest.inner → i ≡ k
      once zero zero one two h j same = refl
      once zero (suc k) one two h j same =
          let e : edge ≡ one = cc in
          absurd (new (k, two, j, sym same ∙ (sym (ap (λ (it : Edge). it.nest.inner) e) ∙ to)))
      once (suc i) zero one two h j same =
          let e : edge ≡ two = cc in
          absurd (new (i, one, h, same ∙ (sym (ap (λ (it : Edge). it.nest.inner) e) ∙ to)))
      once (suc i) (suc k) one two h j same = ap suc (is.once i k one two h j same)

-- the first part of a path, up to the edge to the resource from which the first one leads
pub circle_at : (processes : List Process) (among : List ℕ) (path : List Edge) (at k : ℕ) (edge : Edge)
    → IsPath (IsEdgeAmong processes among) path at → slice_get path k ≡ Some edge → edge.nest.inner ≡ at
    → IsCircleAmong among processes (take (k + 1) path)
circle_at processes among path at k edge is there back =
    let w = slice_get_within path k edge there in
    let n : length (take (k + 1) path) ≡ k + 1 = length-take-le (k + 1) path (omega (arith, w)) in
    let each = All-take (IsEdgeAmong processes among) (k + 1) path is.each in (
      record {
        some = omega (arith, n);
        each = All-weaker (IsEdgeAmong processes among) (IsEdge processes) (λ it both. both.0) (take (k + 1) path) each;
        next = λ i one two h j. is.next i one two (get_taken (k + 1) path i one h) (get_taken (k + 1) path (i + 1) two j);
        last = λ one first h j.
            let e : length (take (k + 1) path) - 1 ≡ k = omega (arith, n) in
            let same : Some edge ≡ Some one =
            sym there ∙ (ap (slice_get path) (sym e) ∙ get_taken (k + 1) path (length (take (k + 1) path) - 1) one h) in
            let it : edge ≡ one = cc in
            sym (ap (λ (x : Edge). x.nest.inner) it) ∙ (back ∙ sym (is.first first (get_taken (k + 1) path 0 first j)));
        once = λ i j one two h g same. is.once i j one two (get_taken (k + 1) path i one h) (get_taken (k + 1) path j two g) same;
      },
      All-weaker (IsEdgeAmong processes among) (JoinsThese among) (λ it both. both.1) (take (k + 1) path) each,
    )

-- edges between some of the resources, if those are all among others
pub joins_more : (few many : List ℕ) (circle : List Edge) → ((r : ℕ) → IsAmong few r → IsAmong many r)
    → All (JoinsThese few) circle → All (JoinsThese many) circle
joins_more few many circle more all =
    All-weaker (JoinsThese few) (JoinsThese many)
    (λ edge both. (more edge.nest.outer both.0, more edge.nest.inner both.1)) circle all

-- whichever is left or on the path stays so if the resource at which it is goes from one to the other
pub cover_more : (rest : List ℕ) (path : List Edge) (edge : Edge) (i at q : ℕ) → slice_get rest i ≡ Some at → edge.nest.inner ≡ at
    → IsAmong rest q ⊎ IsOnPath path q → IsAmong (remove rest i) q ⊎ IsOnPath (edge ∷ path) q
cover_more rest path edge i at q there to (inl left) =
    ⊎_elim (λ same. inr (0, edge, refl, to ∙ sym same)) (λ ne. inl (get_removed rest i left.0 at q there left.1 ne)) (cases_eq q at)
cover_more rest path edge i at q there to (inr on) = inr (suc on.0, on.1, on.2, on.3)

-- no process has a nest
pub none_among : (outer inner : ℕ) (processes : List Process)
    → ((k : ℕ) (process : Process) → slice_get processes k ≡ Some process → nest outer inner None process.body ≡ None)
    → nest_among outer inner processes ≡ None
none_among outer inner [] none = refl
none_among outer inner (process ∷ processes) none =
    ap (λ (o : Option Nest). first o (nest_among outer inner processes)) (none 0 process refl)
    ∙ none_among outer inner processes (λ k p h. none (suc k) p h)

-- the numbers of an edge
pub edge_below : (n : ℕ) (processes : List Process) (edge : Edge) → AskBelow n processes → IsEdge processes edge
    → IsBelow (length processes) n edge
edge_below n processes edge below is =
    let w = slice_get_within processes edge.process is.process is.there in
    let both = nest_below n is.process.body edge.nest
    (all_at (λ (p : Process). EachHold (λ around asked. All (λ pair. pair.resource < n) asked) [] p.body) processes edge.process is.process below is.there)
    is.nest in
    record { process = w; outer = both.0; inner = both.1 }

-- a process that was read, as it is seen
pub seen_process : {A : Type 0} (processes : List (GivenProcess A)) (p : ℕ) (process : GivenProcess A) → p < length processes
    → process ≡ get_or processes p process → slice_get (map process_view processes) p ≡ Some (process_view process)
seen_process [] p process u e = absurd (omega (arith, u))
seen_process (one ∷ processes) zero process u e = ap (λ (it : GivenProcess _). Some (process_view it)) (sym e)
seen_process (one ∷ processes) (suc p) process u e = seen_process processes p process (omega (arith, u)) e
