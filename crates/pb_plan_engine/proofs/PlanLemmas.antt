-- What is known of the program of a tree, and its whole plan.
use Rattle.std.proofs.Common.{◌≡◌, ◌≢◌, ◌∙◌, ℕ, List, [], ◌∷◌, ◌++◌, Option, Result, Ok, Err, IfOk, length, map, refl, ap}
use Rattle.std.proofs.Common.{Bool, None, Some, inl, inr, subst, sym}
use Rattle.std.specs.Prelude.{◌≤◌, All, MatchOption}
use Rattle.std.specs.List.{AllZip}
use Rattle.std.proofs.lemmas.List.{append_assoc, length-map}
use Rattle.std.proofs.lemmas.List.Elements.{All-cons, All-map, All-nil}
use Rattle.pb_accept.proofs.ClaimLemmas.{names_of_resources}
use Rattle.pb_capitals.specs.declared.change.Change.{Change}
use Rattle.pb_plan_engine.specs.Changed.{undeclared, with_changes}
use Rattle.pb_base.specs.declared.memory.NoMemory.{NoMemory}
use Rattle.pb_base.specs.Steppers.{Table}
use Rattle.pb_base.specs.declared.lending.Lending.{Lending}
use Rattle.pb_base.specs.Tables.{width_of}
use Rattle.pb_codegen.proofs.TextOutcomes.{claims_width}
use Rattle.pb_command_io.specs.Parts.{AreParts}
use Rattle.pb_names.specs.Program.{Block, Name, Program, capital_of, Resource as PlainResource}
use Rattle.pb_names.specs.Resolves.{Resolves, ResolvesResource, resource_names}
use Rattle.pb_names.specs.View.{block_view, process_view, resolved_view, resource_view}
use Rattle.pb_names.specs.declared.resolved.Process.{Process}
use Rattle.pb_names.specs.declared.resolved.Resolved.{Resolved}
use Rattle.pb_names.specs.declared.resolved.Resource.{Resource}
use Rattle.pb_plan.specs.Circles.{IsCircleAmong}
use Rattle.pb_plan.specs.Needs.{AllFree, IsBottleneck}
use Rattle.pb_plan.specs.declared.edge.Edge.{Edge}
use Rattle.pb_joint.specs.Texts.{AreReadAs, AreRefused, are_several, names_of}
use Rattle.pb_joint.specs.declared.texts.TextFault.{TextFault}
use Rattle.pb_codegen.specs.declared.fault.CompileFault.TheVariants.{Memory}
use Rattle.pb_command_io.specs.declared.status.Status.{Status}
use Rattle.pb_command_io.specs.declared.status.Status.TheVariants as status
use Rattle.pb_joint.specs.Texts.{FullName}
use Rattle.pb_plan_engine.specs.Plans.{HasStatus, IsOfTree, IsOrderIfAny, IsPlan, SaysOfPlan, TellsPlan, bodies_of, bottleneck_said, number_of, order_said}
use Rattle.pb_plan_engine.specs.Plans.{planned, read, refused, said_of_circle, said_of_claims, said_of_resources, scarce_of, unknown}
use Rattle.pb_plan_engine.specs.Sayings.{Saying, Refused, Unknown}
use Rattle.pb_plan_engine.specs.View.{said_view}
use Rattle.pb_plan_engine.specs.declared.plan.Plan.{Plan}
use Rattle.pb_tree.specs.Syntax.{ProgramSyntax, ResourceSyntax}

pub width_of_claims : {A : Type 0} (program : Resolved A) (claims : Table) → IsOfTree (resolved_view program) claims
    → width_of claims ≡ length program.resources.items
width_of_claims program claims is =
    claims_width is.tree (resolved_view program) claims is.numbered is.claimed
    ∙ length-map program.resources.items resource_view

-- the bodies of a program in memory are those of the program
pub bodies_of_processes : {A : Type 0} (program : Resolved A)
    → map (λ (p : Process A). block_view p.body.items) program.processes.items ≡ bodies_of (resolved_view program)
bodies_of_processes {A} program = go program.processes.items
  where
    go : (ps : List (Process A))
        → map (λ (p : Process A). block_view p.body.items) ps ≡ map (λ p. p.body) (map process_view ps)
    go [] = refl
    go (p ∷ ps) = ap (λ (bodies : List Block). block_view p.body.items ∷ bodies) (go ps)

-- the five parts of a plan, one said after another
pub is_plan : {A : Type 0} (called : List FullName) (program : Resolved A) (claims : Table) (capital : List ℕ) (found : Option ℕ) (order : Option (List ℕ))
    (circle : List Edge) (most follows : Saying) (first second third fourth fifth whole : List Saying) (some others last : List (Resource A)) → capital ≡ capital_of (resolved_view program)
    → MatchOption found (AllFree claims capital) (IsBottleneck claims capital)
    → IsOrderIfAny (resolved_view program) (scarce_of (resolved_view program) claims) order
    → MatchOption order (IsCircleAmong (scarce_of (resolved_view program) claims) (resolved_view program).processes circle) (λ some. circle ≡ [])
    → some ≡ program.resources.items → others ≡ program.resources.items → last ≡ program.resources.items → first ≡ []
    → most ≡ bottleneck_said (map (λ (r : Resource A). r.name.items) others) found
    → follows ≡ order_said (map (λ (r : Resource A). r.name.items) last) order
    → second ≡ first ++ said_of_claims called (resolved_view program) claims
    → third ≡ second ++ said_of_resources (map (λ (r : Resource A). r.name.items) some) capital claims
    → fourth ≡ third ++ most ∷ []
    → fifth ≡ fourth ++ follows ∷ []
    → whole ≡ fifth ++ said_of_circle called (resource_names (resolved_view program)) circle
    → IsPlan called (resolved_view program) claims whole
is_plan {A} called program claims capital found order circle most follows first second third fourth fifth whole some others last same is ordered closed here there below
    empty most_is follows_is one two three four five =
    let view = resolved_view program in
    let names : (rs : List (Resource A)) → rs ≡ program.resources.items
    → map (λ (r : Resource A). r.name.items) rs ≡ resource_names view =
    λ rs e. ap (λ (l : List (Resource A)). map (λ (r : Resource A). r.name.items) l) e ∙ names_of_resources program in
    let claimed = said_of_claims called view claims in
    let needed = said_of_resources (resource_names view) (capital_of view) claims in
    let most_so : most ≡ bottleneck_said (resource_names view) found = most_is ∙ ap (λ (n : List Name). bottleneck_said n found) (names others there) in
    let follows_so : follows ≡ order_said (resource_names view) order = follows_is ∙ ap (λ (n : List Name). order_said n order) (names last below) in
    let middle : third ≡ claimed ++ needed =
    two ∙ ap (λ (t : List Saying). t ++ said_of_resources (map (λ (r : Resource A). r.name.items) some) capital claims)
    (one ∙ ap (λ (t : List Saying). t ++ claimed) empty)
    ∙ ap (λ (n : List Name). claimed ++ said_of_resources n capital claims) (names some here)
    ∙ ap (λ (l : List ℕ). claimed ++ said_of_resources (resource_names view) l claims) same in
    let so_far : fourth ≡ claimed ++ (needed ++ most ∷ []) =
    three ∙ ap (λ (t : List Saying). t ++ most ∷ []) middle ∙ append_assoc claimed needed (most ∷ []) in
    let nearly : fifth ≡ claimed ++ (needed ++ (most ∷ follows ∷ [])) =
    four ∙ ap (λ (t : List Saying). t ++ follows ∷ []) so_far ∙ append_assoc claimed (needed ++ most ∷ []) (follows ∷ [])
    ∙ ap (λ (t : List Saying). claimed ++ t) (append_assoc needed (most ∷ []) (follows ∷ [])) in
    record {
      found = found;
      bottleneck = subst (λ (l : List ℕ). MatchOption found (AllFree claims l) (IsBottleneck claims l)) same is;
      order = order;
      ordered = ordered;
      circle = circle;
      closed = closed;
      whole = five ∙ ap (λ (t : List Saying). t ++ said_of_circle called (resource_names view) circle)
          (nearly ∙ ap (λ (m : Saying). claimed ++ (needed ++ (m ∷ follows ∷ []))) most_so
          ∙ ap (λ (f : Saying). claimed ++ (needed ++ (bottleneck_said (resource_names view) found ∷ f ∷ []))) follows_so);
    }

-- the capital of each resource is small
small_capitals : (written : List ResourceSyntax) (resources : List PlainResource) → AllZip ResolvesResource written resources
    → All (λ r. r.capital ≤ 1000000) resources
small_capitals [] [] is = All-nil (λ (r : PlainResource). r.capital ≤ 1000000)
small_capitals [] (r ∷ resources) is = elim is [ ]
small_capitals (w ∷ written) [] is = elim is [ ]
small_capitals (w ∷ written) (r ∷ resources) is =
    All-cons (λ r. r.capital ≤ 1000000) r resources is.0.small (small_capitals written resources is.1)

pub capitals_are_small : (tree : ProgramSyntax) (program : Program) → Resolves tree program
    → All (λ n. n ≤ 1000000) (map (λ r. r.capital) program.resources)
capitals_are_small tree program is =
    All-map (λ n. n ≤ 1000000) (λ (r : PlainResource). r.capital) program.resources
    (small_capitals tree.resources program.resources is.resources)

-- what is said with a circle after it
pub closed_plan : {V : Type 0} (seen : V → List Saying) (result : Result V NoMemory) (Is : List Saying → Type 0) (Closed : List Edge → Type 0)
    (Makes : List Saying → List Edge → Type 0) → IfOk result (λ whole. (circle : List Edge) × Closed circle × Makes (seen whole) circle)
    → ((circle : List Edge) (whole : List Saying) → Closed circle → Makes whole circle → Is whole)
    → IfOk result (λ said. Is (seen said))
closed_plan seen (Ok whole) Is Closed Makes made so = so made.0 (seen whole) made.1 made.2
closed_plan seen (Err e) Is Closed Makes made so = tt

-- a plan that refuses is no fault of a device
pub no_device : (plan : Result Plan NoMemory) → IfOk plan (λ p. p.status ≡ status.Refused) → IfOk plan (λ p. p.status ≢ status.Device)
no_device (Ok p) is = λ e. cc
no_device (Err e) is = tt

-- what is told of a program whose plan was made with changes
pub tells_plan : (plan : Result Plan NoMemory) (lending : Lending) (changes : List Change) (names : List FullName) (program changed : Program)
    (claims : Table) → undeclared changes program ≡ None → changed ≡ with_changes changes program
    → IfOk plan (λ p. IsPlan names changed claims (map said_view p.said.items) × HasStatus lending changed claims p.status)
    → IfOk plan (λ p. TellsPlan lending changes names program claims (map said_view p.said.items) p.status)
tells_plan (Ok p) lending changes names program changed claims known is made =
    planned (map said_view p.said.items) p.status known (subst (λ (q : Program). IsPlan names q claims (map said_view p.said.items)) is made.0)
    (subst (λ (q : Program). HasStatus lending q claims p.status) is made.1)
tells_plan (Err e) lending changes names program changed claims known is made = tt

-- one thing is said, with the status of a refusal
one_refused : (plan : Result Plan NoMemory) (one : Saying) (May : List Saying → Status → Type 0) → May (one ∷ []) status.Refused
    → IfOk plan (λ p. map said_view p.said.items ≡ one ∷ []) → IfOk plan (λ p. p.status ≡ status.Refused)
    → IfOk plan (λ p. May (map said_view p.said.items) p.status)
one_refused (Ok p) one May may said is =
    subst (λ (l : List Saying). May l p.status) (sym said) (subst (λ (s : Status). May (one ∷ []) s) (sym is) may)
one_refused (Err e) one May may said is = tt

-- what is told of a program if a change is refused
pub tells_unknown : (plan : Result Plan NoMemory) (lending : Lending) (changes : List Change) (names : List FullName) (program : Program)
    (claims : Table) (change : Change) → undeclared changes program ≡ Some change
    → IfOk plan (λ p. map said_view p.said.items ≡ Unknown change.resource.bytes ∷ []) → IfOk plan (λ p. p.status ≡ status.Refused)
    → IfOk plan (λ p. TellsPlan lending changes names program claims (map said_view p.said.items) p.status)
tells_unknown plan lending changes names program claims change first said is =
    one_refused plan (Unknown change.resource.bytes) (TellsPlan lending changes names program claims) (unknown change first) said is

-- what is said of texts that are read as a program
pub says_plan : (plan : Result Plan NoMemory) (lending : Lending) (changes : List Change) (bytes : List ℕ) (texts : List (List ℕ))
    (trees : List ProgramSyntax) (names : List FullName) (program : Program) (claims : Table) → AreParts bytes texts
    → AreReadAs texts trees program claims → names ≡ names_of trees
    → IfOk plan (λ p. TellsPlan lending changes names program claims (map said_view p.said.items) p.status)
    → IfOk plan (λ p. SaysOfPlan lending changes bytes (map said_view p.said.items) p.status)
says_plan (Ok p) lending changes bytes texts trees names program claims cut is same made =
    read texts trees program claims (map said_view p.said.items) p.status cut is
    (subst (λ (ns : List FullName). TellsPlan lending changes ns program claims (map said_view p.said.items) p.status) same made)
says_plan (Err e) lending changes bytes texts trees names program claims cut is same made = tt

-- what is said of texts that are refused
pub says_refused : (plan : Result Plan NoMemory) (lending : Lending) (changes : List Change) (bytes : List ℕ) (texts : List (List ℕ)) (it : TextFault)
    (several : Bool) → AreParts bytes texts → AreRefused texts it → several ≡ are_several texts
    → IfOk plan (λ p. it.fault ≢ Memory) → IfOk plan (λ p. map said_view p.said.items ≡ Refused (number_of several it.index) it.fault ∷ [])
    → IfOk plan (λ p. p.status ≡ status.Refused) → IfOk plan (λ p. SaysOfPlan lending changes bytes (map said_view p.said.items) p.status)
says_refused (Ok p) lending changes bytes texts it several cut (inl memory) same not said is = absurd (not memory)
says_refused (Ok p) lending changes bytes texts it several cut (inr first) same not said is =
    subst (λ (l : List Saying). SaysOfPlan lending changes bytes l p.status)
    (sym (said ∙ ap (λ (b : Bool). Refused (number_of b it.index) it.fault ∷ []) same))
    (subst (λ (s : Status). SaysOfPlan lending changes bytes (Refused (number_of (are_several texts) it.index) it.fault ∷ []) s) (sym is)
    (refused texts it.index it.fault cut first not))
says_refused (Err e) lending changes bytes texts it several cut refusal same not said is = tt
