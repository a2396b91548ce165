use Rattle.std.proofs.Common.{◌≡◌, ℕ, List, ap, length, map, subst, sym, arith}
use Rattle.std.specs.Borrow.{Bor}
use Rattle.std.specs.Prelude.{nat_lt}
use Rattle.std.proofs.lemmas.List.{length-map}
use Rattle.pb_capitals.specs.Changes.{changes_in}
use Rattle.pb_command_io.specs.Parts.{AreParts}
use Rattle.pb_joint.specs.View.{full_name}
use Rattle.pb_names.specs.View.{resolved_view}
use Rattle.pb_plan_engine.proofs.PlanLemmas.{no_device, says_plan, says_refused}
use Rattle.pb_plan_engine.proofs.plan.plan_of_texts.Goals as goal

pub returns-in-Ok-clause-said : goal.returns-in-Ok-clause-said
returns-in-Ok-clause-said c =
    let read = c.in-Ok.ensures.read in
    let cut = subst (λ (ts : List (Bor (List ℕ))). AreParts c.args.bytes.now (map (λ t. t.now) ts)) (sym c.deref.ensures.value)
    c.in_ok-texts.ensures in
    says_plan c.changed_plan.result c.args.lending (changes_in c.args.changes.now) c.args.bytes.now (map (λ (t : Bor (List ℕ)). t.now) c.deref.result.now)
    read.0 (map full_name c.in-Ok.joint.names.items) (resolved_view c.in-Ok.joint.program) c.in-Ok.joint.claims cut read.1
    read.2 c.changed_plan.ensures.said

pub returns-clause-said : goal.returns-clause-said
returns-clause-said c =
    let texts = map (λ (t : Bor (List ℕ)). t.now) c.deref.result.now in
    let cut = subst (λ (ts : List (Bor (List ℕ))). AreParts c.args.bytes.now (map (λ t. t.now) ts)) (sym c.deref.ensures.value)
    c.in_ok-texts.ensures in
    let long = c.in_ok-texts.texts.ok.0 in
    let len = c.len.ensures in
    let all = ap (λ (ts : List (Bor (List ℕ))). length ts) c.deref.ensures.value in
    let seen = length-map c.deref.result.now (λ (t : Bor (List ℕ)). t.now) in
    let many : c.len.result ≡ length texts = omega (arith, long, len, all, seen) in
    says_refused c.refusal_of.result c.args.lending (changes_in c.args.changes.now) c.args.bytes.now texts c.in-Err.fault
    (nat_lt 1 c.len.result) cut c.in-Err.ensures.refused (ap (λ (n : ℕ). nat_lt 1 n) many) c.refusal_of.ensures.fault c.refusal_of.ensures.said
    c.refusal_of.ensures.status

pub returns-clause-no_fault : goal.returns-clause-no_fault
returns-clause-no_fault c = no_device c.refusal_of.result c.refusal_of.ensures.status
