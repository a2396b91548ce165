use Rattle.std.proofs.Common.{◌≡◌, ◌+◌, ◌++◌, ◌∷◌, [], List, length, refl, sym, ap, ◌∙◌, subst, arith}
use Rattle.std.proofs.lemmas.List.{length-map}
use Rattle.pb_code.specs.Reached.{CodeMovesBy}
use Rattle.pb_history.specs.Entries.{Entry, picks_of}
use Rattle.pb_machine.specs.Views.{IsMachineBy, machine_view}
use Rattle.pb_debug.specs.Appends.{CanAppend, with_pick}
use Rattle.pb_debug.specs.Checkpoints.{view_of}
use Rattle.pb_debug.specs.Value.{Debugging, state_of}
use Rattle.pb_debug.proofs.FurtherPicks.{added_is, added_sound, added_state, still_sound}
use Rattle.pb_debug_positions.proofs.Walks.{interval_small, interval_some}
use Rattle.pb_debug.proofs.debugger.Debugger.add.Goals as goal

pub invariant_of-self : goal.invariant_of-self
invariant_of-self c =
    let i = c.self.inside in
    still_sound i c.reserve.new.self i.checkpoints c.in_err-reserve.ensures.same refl c.self.invariant

pub invariant_of-self-in_err-keep : goal.invariant_of-self-in_err-keep
invariant_of-self-in_err-keep c =
    let i = c.self.inside in
    still_sound i c.reserve.new.self c.keep.new.checkpoints c.in_ok-reserve.ensures.same c.in_err-keep.ensures.unchanged c.self.invariant

pub keep-requires-clause-some : goal.keep-requires-clause-some
keep-requires-clause-some c = interval_some (length (picks_of c.self.inside.trace.entries)) c.self.inside.interval c.self.invariant.spaced

pub keep-requires-clause-small : goal.keep-requires-clause-small
keep-requires-clause-small c =
    interval_small (length (picks_of c.self.inside.trace.entries)) c.self.inside.interval c.self.invariant.few c.self.invariant.spaced

pub invariant_of-self-2 : goal.invariant_of-self-2
invariant_of-self-2 c =
    let i = c.self.inside in
    let m = c.args.machine in
    let pick = c.args.pick in
    let end = c.len-end.result + 1 in
    let can : CanAppend (view_of i) = subst CanAppend (sym c.self.view_is) c.requires.end in
    let of : IsMachineBy i.lending i.verified.now m = subst (λ (d : Debugging). IsMachineBy d.lending d.verified m) (sym c.self.view_is) c.requires.machine in
    let moves : CodeMovesBy i.lending i.verified.now.code (state_of (view_of i)) pick c.args.event (machine_view m) =
    subst (λ (d : Debugging). CodeMovesBy d.lending d.verified.code (state_of d) pick c.args.event (machine_view m)) (sym c.self.view_is) c.requires.moves in
    let len = c.len-end.ensures in
    let many = length-map i.trace.entries (λ (e : Entry). e.pick) in
    let at : end ≡ length (picks_of i.trace.entries) + 1 = omega (arith, len, many) in
    let one : List Entry = record { pick = pick; event = c.args.event } ∷ [] in
    let entries = c.push.ensures ∙ ap (λ (es : List Entry). es ++ one) c.in_ok-reserve.ensures.same in
    added_sound i c.self.invariant pick c.args.event m c.push.new.trace c.keep.new.checkpoints end entries can.0 can.1 of moves at
    c.in_ok-keep.ensures.checkpoints c.in_ok-keep.ensures.enough c.in_ok-keep.ensures.fewest

pub returns-clause-state : goal.returns-clause-state
returns-clause-state c =
    let i = c.self.inside in
    let m = c.args.machine in
    let pick = c.args.pick in
    let end = c.len-end.result + 1 in
    let can : CanAppend (view_of i) = subst CanAppend (sym c.self.view_is) c.requires.end in
    let of : IsMachineBy i.lending i.verified.now m = subst (λ (d : Debugging). IsMachineBy d.lending d.verified m) (sym c.self.view_is) c.requires.machine in
    let moves : CodeMovesBy i.lending i.verified.now.code (state_of (view_of i)) pick c.args.event (machine_view m) =
    subst (λ (d : Debugging). CodeMovesBy d.lending d.verified.code (state_of d) pick c.args.event (machine_view m)) (sym c.self.view_is) c.requires.moves in
    let len = c.len-end.ensures in
    let many = length-map i.trace.entries (λ (e : Entry). e.pick) in
    let at : end ≡ length (picks_of i.trace.entries) + 1 = omega (arith, len, many) in
    let one : List Entry = record { pick = pick; event = c.args.event } ∷ [] in
    let entries = c.push.ensures ∙ ap (λ (es : List Entry). es ++ one) c.in_ok-reserve.ensures.same in
    added_state i c.self.invariant pick c.args.event m c.push.new.trace c.keep.new.checkpoints end entries can.0 can.1 of moves at

pub returns-clause-appended : goal.returns-clause-appended
returns-clause-appended c =
    let i = c.self.inside in
    let m = c.args.machine in
    let pick = c.args.pick in
    let end = c.len-end.result + 1 in
    let can : CanAppend (view_of i) = subst CanAppend (sym c.self.view_is) c.requires.end in
    let of : IsMachineBy i.lending i.verified.now m = subst (λ (d : Debugging). IsMachineBy d.lending d.verified m) (sym c.self.view_is) c.requires.machine in
    let moves : CodeMovesBy i.lending i.verified.now.code (state_of (view_of i)) pick c.args.event (machine_view m) =
    subst (λ (d : Debugging). CodeMovesBy d.lending d.verified.code (state_of d) pick c.args.event (machine_view m)) (sym c.self.view_is) c.requires.moves in
    let len = c.len-end.ensures in
    let many = length-map i.trace.entries (λ (e : Entry). e.pick) in
    let at : end ≡ length (picks_of i.trace.entries) + 1 = omega (arith, len, many) in
    let one : List Entry = record { pick = pick; event = c.args.event } ∷ [] in
    let entries = c.push.ensures ∙ ap (λ (es : List Entry). es ++ one) c.in_ok-reserve.ensures.same in
    added_is i c.self.invariant pick c.args.event m c.push.new.trace c.keep.new.checkpoints end entries can.0 can.1 of moves at
    ∙ ap (λ (d : Debugging). with_pick d pick) c.self.view_is
