use Rattle.std.proofs.Common.{◌≡◌, ◌+◌, ℕ, List, Some, sym, ap, ◌∙◌, subst, inl, inr, arith}
use Rattle.std.specs.Prelude.{slice_get}
use Rattle.pb_base.specs.declared.pick.Pick.{Pick}
use Rattle.pb_machine.specs.Views.{machine_view, proc_view}
use Rattle.pb_record.specs.Choices.{AreCandidatesBefore}
use Rattle.pb_record.proofs.ChoiceLemmas.{one_candidate, one_stays, process_is_over}
use Rattle.pb_record.proofs.choice.push_candidates.Goals as goal
use Rattle.pb_record.proofs.choice.push_candidates.Goals.{in-Stays, in-Silent+in_ok-push-in-Silent}
use Rattle.pb_machine.proofs.Counts.{few_arms}

pub overflow_cast-pick : goal.overflow_cast-pick
overflow_cast-pick c =
    let few = few_arms c.args.verified.now c.requires.verified c.args.machine.now c.requires.machine.1 c.from.result _ c.proc.ensures.state in
    omega (arith, few)

pub loop-arm-preserved : goal.loop-arm-preserved
loop-arm-preserved c =
    let code = c.args.verified.now.code in
    let s = machine_view c.args.machine.now in
    let pick : Pick = record { process = c.args.process; arm = c.loop-arm.arm } in
    let now : List Pick → Type 0 = λ picks. AreCandidatesBefore code s c.args.process (c.loop-arm.arm + 1) picks in
    elim c.match-look.branch [
      | in-Stays w ↦
          subst now (ap (λ v. v.items) (sym w.picks-is))
          (one_stays code s pick c.loop-arm.picks.items c.loop-arm.invariant (sym c.look.ensures ∙ w.in-Stays.is))
      | in-Silent+in_ok-push-in-Silent w ↦
          subst now (sym (ap (λ v. v.items) w.picks-is ∙ w.in_ok-push-in-Silent.ensures.items))
          (one_candidate code s pick c.loop-arm.picks.items c.loop-arm.invariant
          (λ stays. elim w.in-Silent.is [
            | inl silent ↦ let both = sym silent ∙ (c.look.ensures ∙ stays) in cc
            | inr visible ↦ let both = sym visible ∙ (c.look.ensures ∙ stays) in cc
          ]))
    ]

pub returns : goal.returns
returns c =
    let s = machine_view c.args.machine.now in
    let test = c.loop-arm-test.false in
    let count = c.arms-arm-end.ensures in
    let there : slice_get s.processes c.args.process ≡ Some (proc_view c.proc.result.now) =
    subst (λ (k : ℕ). slice_get s.processes k ≡ Some (proc_view c.proc.result.now)) c.from.ensures c.proc.ensures.state in
    process_is_over c.args.verified.now.code s c.args.process c.loop-arm.arm (proc_view c.proc.result.now) c.loop-arm.picks.items
    c.loop-arm.invariant there (omega (arith, test, count))
