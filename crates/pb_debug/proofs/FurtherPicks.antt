-- Picks after the last.
use Rattle.std.proofs.Common.{Vec, Global, ◌≡◌, ℕ, ◌+◌, ◌*◌, ◌%◌, ◌<◌, ◌≤◌, ◌++◌, List, [], ◌∷◌, length, Option, Some}
use Rattle.std.proofs.Common.{option_to_list, sym, ap, ◌∙◌, subst, length-append, arith}
use Rattle.std.specs.Prelude.{slice_get}
use Rattle.std.proofs.lemmas.List.{map-append, take_all, take-append-le}
use Rattle.std.proofs.lemmas.Nat.{mod_below}
use Rattle.pb_base.specs.declared.lending.Lending.{Lending}
use Rattle.pb_base.specs.declared.event.Event.{Event}
use Rattle.pb_base.specs.declared.pick.Pick.{Pick}
use Rattle.pb_base.specs.Steppers.{Makes, State, event_of}
use Rattle.pb_code.specs.Code.{CodeProcess, code_step}
use Rattle.pb_code.specs.Reached.{CodeMovesBy}
use Rattle.pb_code.specs.Whole.{bank_by, code_opening}
use Rattle.pb_generator.proofs.Parts.{get_back}
use Rattle.pb_history.specs.Entries.{Entry, picks_of}
use Rattle.pb_history.specs.Positions.{AreEnabledBy, after, state_after, IsAfterBy}
use Rattle.pb_history.specs.Traces.{Trail}
use Rattle.pb_history.proofs.Positions.{makes_after, moved_more}
use Rattle.pb_machine.proofs.OneMorePick.{makes_more}
use Rattle.pb_machine.specs.Views.{IsMachineBy, machine_view}
use Rattle.pb_machine.specs.declared.machine.Machine.{Machine}
use Rattle.pb_verifier.specs.Verified.{VerifiedCode}
use Rattle.pb_debug.specs.Appends.{with_pick}
use Rattle.pb_debug.specs.Checkpoints.{IsSound, view_of}
use Rattle.pb_debug.specs.Value.{Debugging, state_of}
use Rattle.pb_debug_positions.specs.Walks.{AreCheckpoints, IsCheckpoint, WalksBy}
use Rattle.pb_debug.specs.declared.debugger.Debugger.TheInside.{Inside}
use Rattle.pb_debug_positions.proofs.Walks.{checkpoints_before, interval_some}

-- the picks of a trace with one entry more
pub picks_more : (old new : List Entry) (pick : Pick) (event : Option Event) → new ≡ old ++ record { pick = pick; event = event } ∷ []
    → picks_of new ≡ picks_of old ++ pick ∷ []
picks_more old new pick event same =
    ap picks_of same ∙ map-append (λ (e : Entry). e.pick) old (record { pick = pick; event = event } ∷ [])

module _ (lending : Lending) (v : VerifiedCode) (picks : List Pick) (pick : Pick) (event : Option Event) (m : Machine)
    (moves : CodeMovesBy lending v.code (state_after v.code picks (length picks)) pick event (machine_view m)) where
  abbrev longer : List Pick
  longer = picks ++ pick ∷ []

  there : slice_get longer (length picks) ≡ Some pick
  there =
      ap (slice_get longer) (let e : length picks ≡ length picks + 0 = omega arith in e)
      ∙ get_back picks (pick ∷ []) 0

  before : state_after v.code longer (length picks) ≡ state_after v.code picks (length picks)
  before =
      ap (after (code_step v.code.processes) (code_opening v.code))
      (take-append-le (length picks) picks (pick ∷ []) (omega arith))

  -- a machine that has made the pick is at the position after it
  pub stands_behind : IsMachineBy lending v m → IsAfterBy lending v longer (length picks + 1) m
  stands_behind of = record {
    machine = of;
    state = moved_more v.code longer lending (length picks) pick event (machine_view m) there
        (subst (λ (s : State CodeProcess). CodeMovesBy lending v.code s pick event (machine_view m)) (sym before) moves);
  }

  pub checkpoint_behind : IsMachineBy lending v m → IsCheckpoint lending v longer (length picks + 1) m
  checkpoint_behind of =
      let many = length-append picks (pick ∷ []) in
      record { stands = stands_behind of; within = omega (arith, many) }

  -- with an enabled pick after them all are enabled
  pub enabled_behind : AreEnabledBy lending v.code picks → AreEnabledBy lending v.code longer
  enabled_behind all =
      let step = code_step v.code.processes in
      let opening = code_opening v.code in
      let whole = take_all (length picks) picks (omega arith) in
      let end : state_after v.code picks (length picks) ≡ all.end =
      ap (after step opening) whole ∙ makes_after (bank_by lending v.code) step opening all.end picks all.events all.makes in
      let made = subst (λ (s : State CodeProcess). Makes (bank_by lending v.code) step opening picks all.events s) (sym end) all.makes in
      record {
        events = all.events ++ option_to_list (event_of pick moves.0);
        end = machine_view m;
        makes = makes_more (bank_by lending v.code) step opening (state_after v.code picks (length picks)) picks all.events pick
            (record { next = machine_view m; effect = moves.0 }) made moves.1 moves.2;
      }

-- ---- a debugger

-- with more room for picks and checkpoints
pub still_sound : (i : Inside) (trace : Trail) (checkpoints : Vec Machine Global) → trace.entries ≡ i.trace.entries
    → checkpoints.items ≡ i.checkpoints.items → IsSound i → IsSound (record i { trace = trace; checkpoints = checkpoints })
still_sound i trace checkpoints entries items h =
    let v = i.verified.now in
    let same : picks_of trace.entries ≡ picks_of i.trace.entries = ap picks_of entries in
    let many = ap (λ (ps : List Pick). length ps) same in
    let machines = ap (λ (ms : List Machine). length ms * i.interval) items in
    let few = h.few in
    let within = h.within in
    let first = h.spaced.1 in
    let enough = h.enough in
    let fewest = h.fewest in
    record {
      verified = h.verified;
      enabled = subst (AreEnabledBy i.lending v.code) (sym same) h.enabled;
      few = omega (arith, many, few);
      within = omega (arith, many, within);
      cheap = h.cheap;
      fit = h.fit;
      spaced = (h.spaced.0, omega (arith, many, first), h.spaced.2);
      walks = subst (λ (ps : List Pick). WalksBy i.lending v ps i.walker) (sym same) h.walks;
      checkpoints = subst (λ (ps : List Pick). AreCheckpoints i.lending v ps i.interval checkpoints.items) (sym same)
          (subst (AreCheckpoints i.lending v (picks_of i.trace.entries) i.interval) (sym items) h.checkpoints);
      enough = omega (arith, many, machines, enough);
      fewest = omega (arith, many, machines, fewest);
    }

-- with one pick more, at the position after it
module _ (i : Inside) (h : IsSound i) (pick : Pick) (event : Option Event) (m : Machine) (trace : Trail) (checkpoints : Vec Machine Global)
    (end : ℕ) (entries : trace.entries ≡ i.trace.entries ++ record { pick = pick; event = event } ∷ [])
    (last : i.walker.at ≡ length (picks_of i.trace.entries)) (few : length (picks_of i.trace.entries) < 10000000)
    (of : IsMachineBy i.lending i.verified.now m)
    (moves : CodeMovesBy i.lending i.verified.now.code (state_of (view_of i)) pick event (machine_view m))
    (at : end ≡ length (picks_of i.trace.entries) + 1) where
  abbrev v : VerifiedCode
  v = i.verified.now

  abbrev picks : List Pick
  picks = picks_of i.trace.entries

  same : picks_of trace.entries ≡ picks ++ pick ∷ []
  same = picks_more i.trace.entries trace.entries pick event entries

  moves_here : CodeMovesBy i.lending v.code (state_after v.code picks (length picks)) pick event (machine_view m)
  moves_here =
      subst (λ (s : State CodeProcess). CodeMovesBy i.lending v.code s pick event (machine_view m)) (ap (state_after v.code picks) last) moves

  stands : IsAfterBy i.lending v (picks_of trace.entries) end m
  stands =
      subst (λ (ps : List Pick). IsAfterBy i.lending v ps end m) (sym same)
      (subst (λ (n : ℕ). IsAfterBy i.lending v (picks ++ pick ∷ []) n m) (sym at) (stands_behind i.lending v picks pick event m moves_here of))

  here : IsCheckpoint i.lending v (picks_of trace.entries) end m
  here =
      subst (λ (ps : List Pick). IsCheckpoint i.lending v ps end m) (sym same)
      (subst (λ (n : ℕ). IsCheckpoint i.lending v (picks ++ pick ∷ []) n m) (sym at) (checkpoint_behind i.lending v picks pick event m moves_here of))

  abbrev next : Inside
  next = record i {
    trace = trace;
    checkpoints = checkpoints;
    walker = record { machine = m; at = end };
    last_cost = end % i.interval;
  }

  pub added_state : state_of (view_of next) ≡ machine_view m
  added_state = sym stands.state

  pub added_is : view_of next ≡ with_pick (view_of i) pick
  added_is =
      let d : Debugging = view_of i in
      ap (λ (ps : List Pick). record d { picks = ps; position = end; last_cost = end % i.interval }) same
      ∙ ap (λ (n : ℕ). record d { picks = picks ++ pick ∷ []; position = n; last_cost = n % i.interval }) at

  pub added_sound : ((lending : Lending) (v : VerifiedCode) (picks : List Pick) → AreCheckpoints lending v picks i.interval i.checkpoints.items
      → IsCheckpoint lending v picks end m → AreCheckpoints lending v picks i.interval checkpoints.items)
      → end < length checkpoints.items * i.interval → length checkpoints.items * i.interval ≤ end + i.interval → IsSound next
  added_sound kept enough fewest =
      let many = ap (λ (ps : List Pick). length ps) same in
      let one = length-append picks (pick ∷ []) in
      let first = h.spaced.1 in
      record {
        verified = h.verified;
        enabled = subst (AreEnabledBy i.lending v.code) (sym same) (enabled_behind i.lending v picks pick event m moves_here h.enabled);
        few = omega (arith, many, one, few);
        within = omega (arith, many, one, at);
        cheap = mod_below end i.interval (interval_some (length picks) i.interval h.spaced);
        fit = h.fit;
        spaced = (h.spaced.0, omega (arith, many, one, first), h.spaced.2);
        walks = record {
          enabled = subst (AreEnabledBy i.lending v.code) (sym same) (enabled_behind i.lending v picks pick event m moves_here h.enabled);
          stands = stands;
        };
        checkpoints = kept i.lending v (picks_of trace.entries)
            (checkpoints_before v picks (pick ∷ []) (picks_of trace.entries) i.interval i.checkpoints.items same h.checkpoints) here;
        enough = omega (arith, many, one, at, enough);
        fewest = omega (arith, many, one, at, fewest);
      }
