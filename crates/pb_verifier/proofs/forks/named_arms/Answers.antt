use Rattle.std.proofs.Common.{◌≡◌, ℕ, ◌+◌, List, Bool, true, false, length, refl, sym, ◌∙◌, subst, arith}
use Rattle.pb_code.specs.Code.{Fork}
use Rattle.pb_code.specs.View.{process_view}
use Rattle.pb_verifier.specs.Arms.{IsMarked}
use Rattle.pb_verifier.specs.Given.{instrs_of, plain}
use Rattle.pb_code.proofs.ListElements.{same_read}
use Rattle.pb_verifier.proofs.ForkTables.{fork_given, marked_none, marked_skip, marked_more, unmarked_of}
use Rattle.pb_verifier.proofs.ReachSearch.{none_marked}
use Rattle.pb_verifier.proofs.forks.named_arms.Goals as goal
use Rattle.pb_verifier.proofs.forks.named_arms.Goals.{in-Fork+else-not-mark, in_default}

pub loop-place-init : goal.loop-place-init
loop-place-init c = marked_none (process_view c.args.code.now) _ refl (λ b. none_marked 64 b)

pub mark-requires-clause-inside : goal.mark-requires-clause-inside
mark-requires-clause-inside c =
    let there = c.requires.there c.loop-place.place c.in-Fork.first c.in-Fork.count c.in-Fork.ensures in
    let few = c.requires.few in
    let sized = c.loop-place.invariant.sized in
    omega arith

pub returns-then-not-mark-clause-twice : goal.returns-then-not-mark-clause-twice
returns-then-not-mark-clause-twice c =
    let there = c.requires.there c.loop-place.place c.in-Fork.first c.in-Fork.count c.in-Fork.ensures in
    let few = c.requires.few in
    λ named. let no : false ≡ true = c.if-not-mark.ensures.free.1 (unmarked_of (process_view c.args.code.now) named
    c.loop-place.place c.in-Fork.first c.in-Fork.count c.loop-place.marks c.loop-place.invariant c.in-Fork.ensures
    (omega arith)) in cc

pub loop-place-preserved : goal.loop-place-preserved
loop-place-preserved c =
    elim c.match-instr_at.branch [
      | in-Fork+else-not-mark w ↦
          let there = c.requires.there c.loop-place.place w.in-Fork.first w.in-Fork.count w.in-Fork.ensures in
          let few = c.requires.few in
          let h = w.if-not-mark.ensures in
          let sized : length w.mark.new.marks ≡ 64 = w.mark.auto.marks ∙ c.loop-place.invariant.sized in
          subst (λ (m : List Bool). IsMarked (process_view c.args.code.now) (c.loop-place.place + 1) m) (sym w.marks-is)
          (marked_more (process_view c.args.code.now) c.loop-place.place w.in-Fork.first w.in-Fork.count
          c.loop-place.marks w.mark.new.marks c.loop-place.invariant w.in-Fork.ensures (omega arith) sized
          (h.free.0 refl) (h.marked refl))
      | in_default w ↦
          subst (λ (m : List Bool). IsMarked (process_view c.args.code.now) (c.loop-place.place + 1) m) (sym w.marks-is)
          (marked_skip (process_view c.args.code.now) c.loop-place.place c.loop-place.marks c.loop-place.invariant
          (λ first count read.
          let same = same_read (instrs_of c.args.code.now) c.loop-place.place (plain c.args.code.now
          c.instr_at.result) (Fork first count) c.instr_at.ensures read in
          w.in_default.not-Fork first count (fork_given c.args.code.now.bundles.items c.instr_at.result first count same)))
    ]

pub returns-clause-named : goal.returns-clause-named
returns-clause-named c =
    let n = c.places-place-end.ensures in
    let e : c.loop-place.place ≡ length (instrs_of c.args.code.now) = omega arith in
    subst (λ (k : ℕ). IsMarked (process_view c.args.code.now) k c.loop-place.marks) e c.loop-place.invariant
