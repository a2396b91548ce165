-- The marks of one pick more.
use Rattle.std.proofs.Common.{◌≡◌, ℕ, ℤ, zero, suc, ◌+◌, ◌++◌, [], List, Bool, true, false, cond, Option, Some, None, refl, sym, ap, ◌∙◌, arith}
use Rattle.std.specs.Prelude.{option_and_then, slice_get, All}
use Rattle.std.proofs.lemmas.List.Elements.{All-nil, All-cons, All-append}
use Rattle.pb_base.specs.declared.lending.Lending.{Lending}
use Rattle.pb_base.specs.Lines.{HasNames}
use Rattle.pb_base.specs.Steppers.{Move, State, event_of}
use Rattle.pb_base.specs.declared.event.Event.{Event}
use Rattle.pb_base.specs.declared.pick.Pick.{Pick}
use Rattle.pb_code.specs.Code.{CodeProcess, code_step}
use Rattle.pb_code.specs.Whole.{Code, ProcessLabels, bank_by, code_opening}
use Rattle.pb_debug_positions.specs.Searches.{arm_line_at, line_in, value_at, value_in}
use Rattle.pb_draw.specs.Accesses.{access_before}
use Rattle.pb_draw.specs.Marks.{IsNamed, assigned, assigned_by, happening_at, happening_of, line_before, mark_list, marks_at, marks_before, or_else, read, read_by}
use Rattle.pb_draw.specs.Marks.{value_before, value_behind}
use Rattle.pb_draw.specs.Walks.{event_at, shown_in}
use Rattle.pb_draw.specs.declared.accesses.Access.{Access}
use Rattle.pb_draw.specs.declared.accesses.Access.TheVariants.{Assigns, Reads}
use Rattle.pb_draw.specs.declared.drawing.Happening.{Happening}
use Rattle.pb_draw.specs.declared.drawing.Happening.TheVariants as happening
use Rattle.pb_draw.specs.declared.drawing.Integers.{Integers}
use Rattle.pb_draw.specs.declared.drawing.Mark.{Mark}
use Rattle.pb_history.proofs.Positions.{enabled_at, position_reached}
use Rattle.pb_history.specs.Positions.{AreEnabledBy, IsAfterBy, state_after}
use Rattle.pb_machine.proofs.NeverStuck.{events_have_names}
use Rattle.pb_machine.specs.Views.{machine_view}
use Rattle.pb_machine.specs.declared.machine.Machine.{Machine}
use Rattle.pb_verifier.specs.Verified.{VerifiedCode, IsVerified}

pub marks_more : (integers : Integers) (code : Code) (labels : List ProcessLabels) (picks : List Pick) (i : ℕ) (pick : Pick)
    (what : Option Happening) (source : Option ℕ) (old new : List Mark) → old ≡ marks_before integers code labels picks i
    → slice_get picks i ≡ Some pick → what ≡ happening_at integers code picks i → source ≡ line_before code labels picks i
    → new ≡ old ++ mark_list what (Some pick) source i → new ≡ marks_before integers code labels picks (i + 1)
marks_more integers code labels picks i pick what source old new before there same known is =
    let earlier = marks_before integers code labels picks i in
    let here = happening_at integers code picks i in
    is
    ∙ (ap (λ (ms : List Mark). ms ++ mark_list what (Some pick) source i) before
    ∙ (ap (λ (w : Option Happening). earlier ++ mark_list w (Some pick) source i) same
    ∙ (ap (λ (l : Option ℕ). earlier ++ mark_list here (Some pick) l i) known
    ∙ (ap (λ (p : Option Pick). earlier ++ mark_list here p (line_before code labels picks i) i) (sym there)
    ∙ ap (marks_before integers code labels picks) (let e : suc i ≡ i + 1 = omega arith in e)))))

-- what a pick shows, by its event, by what its arm does, and by machines before it and after it
pub happening_here : (lending : Lending) (v : VerifiedCode) (picks : List Pick) (integers : Integers) (i : ℕ) (pick : Pick) (event : Option Event)
    (access : Option Access) (m m' : Machine) (shown seen : Option Happening) → IsAfterBy lending v picks i m → IsAfterBy lending v picks (i + 1) m'
    → slice_get picks i ≡ Some pick → event ≡ event_at v.code picks i → access ≡ access_before v.code picks i
    → shown ≡ read_by integers (λ x. value_in (slice_get (machine_view m).processes pick.process) x) access
    → seen ≡ assigned_by integers (λ x. value_in (slice_get (machine_view m').processes pick.process) x) access
    → happening_of event (or_else shown seen) ≡ happening_at integers v.code picks i
happening_here lending v picks integers i pick event access m m' shown seen at behind there same does is_read is_assigned =
    let reads : shown ≡ read_by integers (value_before v.code picks i) (access_before v.code picks i) =
    is_read
    ∙ (ap (λ (s : State CodeProcess). read_by integers (λ x. value_in (slice_get s.processes pick.process) x) access) at.state
    ∙ (ap (λ (p : Option Pick). read_by integers (λ x. option_and_then (λ q. value_at v.code picks i q.process x) p) access) (sym there)
    ∙ ap (read_by integers (value_before v.code picks i)) does)) in
    let assigns : seen ≡ assigned_by integers (value_behind v.code picks i) (access_before v.code picks i) =
    is_assigned
    ∙ (ap (λ (s : State CodeProcess). assigned_by integers (λ x. value_in (slice_get s.processes pick.process) x) access) behind.state
    ∙ (ap (λ (p : Option Pick). assigned_by integers (λ x. option_and_then (λ q. value_at v.code picks (i + 1) q.process x) p) access) (sym there)
    ∙ ap (assigned_by integers (value_behind v.code picks i)) does)) in
    ap (λ (e : Option Event). happening_of e (or_else shown seen)) same
    ∙ (ap (λ (r : Option Happening). happening_of (event_at v.code picks i) (or_else r seen)) reads
    ∙ ap (λ (a : Option Happening). happening_of (event_at v.code picks i)
    (or_else (read_by integers (value_before v.code picks i) (access_before v.code picks i)) a)) assigns)

-- the line of the arm of a pick in a machine is that at its position
pub line_here : (lending : Lending) (v : VerifiedCode) (labels : List ProcessLabels) (picks : List Pick) (i : ℕ) (pick : Pick) (m : Machine)
    → IsAfterBy lending v picks i m → slice_get picks i ≡ Some pick
    → line_in (slice_get labels pick.process) (slice_get (machine_view m).processes pick.process) pick.arm
    ≡ line_before v.code labels picks i
line_here lending v labels picks i pick m at there =
    ap (λ (s : State CodeProcess). line_in (slice_get labels pick.process) (slice_get s.processes pick.process) pick.arm) at.state
    ∙ ap (λ (o : Option Pick). option_and_then (λ q. arm_line_at v.code labels picks i q.process q.arm) o) (sym there)

-- ---- all that a mark speaks of has a name

-- a read is no event
no_read : (x : ℕ) (drawn : Bool) (value : Option ℤ) (event : Event) → cond drawn (read x value) None ≡ Some (happening.Did event) → ⊥
no_read x false value event e = cc
no_read x true None event e = cc
no_read x true (Some value) event e = cc

reads_only : (integers : Integers) (values : ℕ → Option ℤ) (access : Option Access) (event : Event)
    → read_by integers values access ≡ Some (happening.Did event) → ⊥
reads_only integers values None event e = cc
reads_only integers values (Some (Reads x)) event e = no_read x integers.reads (values x) event e
reads_only integers values (Some (Assigns x)) event e = cc

-- nor is an assignment
no_assignment : (x : ℕ) (drawn : Bool) (value : Option ℤ) (event : Event) → cond drawn (assigned x value) None ≡ Some (happening.Did event) → ⊥
no_assignment x false value event e = cc
no_assignment x true None event e = cc
no_assignment x true (Some value) event e = cc

assigns_only : (integers : Integers) (values : ℕ → Option ℤ) (access : Option Access) (event : Event)
    → assigned_by integers values access ≡ Some (happening.Did event) → ⊥
assigns_only integers values None event e = cc
assigns_only integers values (Some (Reads x)) event e = cc
assigns_only integers values (Some (Assigns x)) event e = no_assignment x integers.assignments (values x) event e

either_only : (one other : Option Happening) (event : Event) → (one ≡ Some (happening.Did event) → ⊥)
    → (other ≡ Some (happening.Did event) → ⊥) → or_else one other ≡ Some (happening.Did event) → ⊥
either_only None other event first second e = second e
either_only (Some what) other event first second e = first e

-- what a mark has as an event is the event of its pick
is_event : (shown : Option Event) (event : Event) (other : Option Happening) → happening_of shown other ≡ Some (happening.Did event)
    → ((e : Event) → other ≡ Some (happening.Did e) → ⊥) → shown ≡ Some event
is_event None event other e not = absurd (not event e)
is_event (Some shown) event other e not = cc

module _ (lending : Lending) (v : VerifiedCode) (picks : List Pick) (verified : IsVerified v)
    (all : AreEnabledBy lending v.code picks) where
  shown_named : (i : ℕ) (pick : Pick) (event : Event) → slice_get picks i ≡ Some pick → event_at v.code picks i ≡ Some event
      → HasNames v.code.names event
  shown_named i pick event there shows =
      let stepper = code_step v.code.processes in
      let s = state_after v.code picks i in
      let e = enabled_at (bank_by lending v.code) stepper (code_opening v.code) all.end picks all.events i pick all.makes there in
      let here : event_at v.code picks i ≡ event_of pick e.move.effect =
      ap (λ (o : Option Pick). option_and_then (shown_in stepper s) o) there
      ∙ ap (λ (o : Option (Move CodeProcess)). option_and_then (λ move. event_of pick move.effect) o) e.moves in
      events_have_names lending v verified s (position_reached v.code picks i all) pick event e.move.next
      (e.move.effect, e.moves, e.granted, sym here ∙ shows)

  named_list : (integers : Integers) (what : Option Happening) (pick : Option Pick) (source : Option ℕ) (i : ℕ)
      → happening_at integers v.code picks i ≡ what → slice_get picks i ≡ pick
      → All (λ m. IsNamed v.code.names m.what) (mark_list what pick source i)
  named_list integers None pick source i shows there = All-nil (λ (m : Mark). IsNamed v.code.names m.what)
  named_list integers (Some what) None source i shows there = All-nil (λ (m : Mark). IsNamed v.code.names m.what)
  named_list integers (Some (happening.Read x value)) (Some pick) source i shows there =
      All-cons (λ (m : Mark). IsNamed v.code.names m.what) _ [] tt (All-nil (λ (m : Mark). IsNamed v.code.names m.what))
  named_list integers (Some (happening.Assigned x value)) (Some pick) source i shows there =
      All-cons (λ (m : Mark). IsNamed v.code.names m.what) _ [] tt (All-nil (λ (m : Mark). IsNamed v.code.names m.what))
  named_list integers (Some (happening.Did event)) (Some pick) source i shows there =
      All-cons (λ (m : Mark). IsNamed v.code.names m.what) _ []
      (shown_named i pick event there (is_event (event_at v.code picks i) event _ shows (λ e.
      either_only _ _ e (reads_only integers (value_before v.code picks i) (access_before v.code picks i) e)
      (assigns_only integers (value_behind v.code picks i) (access_before v.code picks i) e))))
      (All-nil (λ (m : Mark). IsNamed v.code.names m.what))

  pub marks_named : (integers : Integers) (labels : List ProcessLabels) (n : ℕ)
      → All (λ m. IsNamed v.code.names m.what) (marks_before integers v.code labels picks n)
  marks_named integers labels zero = All-nil (λ (m : Mark). IsNamed v.code.names m.what)
  marks_named integers labels (suc n) =
      All-append (λ (m : Mark). IsNamed v.code.names m.what) (marks_before integers v.code labels picks n)
      (marks_at integers v.code labels picks n) (marks_named integers labels n)
      (named_list integers (happening_at integers v.code picks n) (slice_get picks n) (line_before v.code labels picks n) n refl refl)
