use Rattle.std.proofs.Common.{◌≡◌, ◌+◌, ℕ, List, [], ◌∷◌, ◌++◌, Option, map, length, true, false, refl, sym, ap, ◌∙◌, rules}
use Rattle.std.proofs.Common.{subst, arith}
use Rattle.std.proofs.lemmas.Grind.{common_steps}
use Rattle.std.proofs.lemmas.List.{length-map, map-append}
use Rattle.pb_code.specs.View.{code_view, process_view}
use Rattle.pb_verifier.specs.declared.fault.VerifyFault.{VerifyFault}
use Rattle.pb_verifier.specs.declared.fault.VerifyFault.TheVariants.{NoMemory}
use Rattle.pb_verifier.proofs.ProcessFaults.{IsFoundBefore, annotated_all, depths_all, found_fault, found_sound}
use Rattle.pb_verifier.proofs.ProcessFaults.{refused_first}
use Rattle.pb_verifier.proofs.LimitTests.{read_mapped}
use Rattle.pb_verifier.proofs.checking.check.Goals.{in-Ok+in-Ok-push, in-Err+else-is_memory}
use Rattle.pb_verifier.proofs.checking.check.Goals as goal

pub check_process-requires-clause-small : goal.check_process-requires-clause-small
check_process-requires-clause-small c =
    let n = c.len-p-end.ensures in
    let limits = c.if-not-keeps_limits.ensures.limits.0 refl in
    limits.each c.loop-p.p (process_view c.index.result.now) (read_mapped process_view c.args.code.now.processes.items
    c.loop-p.p c.index.result.now (omega arith) c.index.ensures)

pub loop-p-preserved : goal.loop-p-preserved
loop-p-preserved c =
    let n = c.len-p-end.ensures in
    let read = read_mapped process_view c.args.code.now.processes.items c.loop-p.p c.index.result.now (omega arith) c.index.ensures in
    elim c.match-check_process.branch [
      | in-Ok+in-Ok-push w ↦
          let rows : map (λ row. row.items) c.match-check_process.depths.items ≡ map (λ row. row.items) c.loop-p.depths.items ++ w.in-Ok.row.items ∷ [] =
          ap (λ v. map (λ row. row.items) v.items) w.depths-is ∙ ap (map (λ row. row.items))
          w.in-Ok-push.ensures.items ∙ map-append (λ row. row.items) c.loop-p.depths.items (w.in-Ok.row ∷ [])
          in
          subst (λ (xs : List (List ℕ)). IsFoundBefore (code_view c.args.code.now) (c.loop-p.p + 1) c.match-check_process.found xs) (sym rows)
          (subst (λ (f : Option VerifyFault). IsFoundBefore (code_view c.args.code.now) (c.loop-p.p + 1) f (map (λ
          row. row.items) c.loop-p.depths.items ++ w.in-Ok.row.items ∷ [])) (sym w.found-is)
          (found_sound (code_view c.args.code.now) c.loop-p.p c.loop-p.found (map (λ row. row.items)
          c.loop-p.depths.items) (process_view c.index.result.now) w.in-Ok.row.items read c.loop-p.invariant
          w.in-Ok.ensures.sound))
      | in-Err+else-is_memory w ↦
          let some : w.in-Err.fault ≡ NoMemory → ⊥ = λ memory. let wrong : false ≡ true = w.if-is_memory.ensures.1 memory in cc in
          subst (λ (f : Option VerifyFault). IsFoundBefore (code_view c.args.code.now) (c.loop-p.p + 1) f (map (λ row.
          row.items) c.match-check_process.depths.items)) (sym w.found-is)
          (found_fault (code_view c.args.code.now) c.loop-p.p c.loop-p.found (map (λ row. row.items)
          c.loop-p.depths.items) (map (λ row. row.items) c.match-check_process.depths.items) (process_view
          c.index.result.now) w.in-Err.fault w.earlier.result read
          c.loop-p.invariant (w.in-Err.ensures.refused some) w.earlier.ensures)
    ]

pub returns-in-Some-clause-refused : goal.returns-in-Some-clause-refused
returns-in-Some-clause-refused c =
    let n = c.len-p-end.ensures in
    let l : length (map process_view c.args.code.now.processes.items) ≡ length c.args.code.now.processes.items =
    length-map c.args.code.now.processes.items process_view in
    let first = subst (λ (f : Option VerifyFault). IsFoundBefore (code_view c.args.code.now) c.loop-p.p f (map (λ row.
    row.items) c.loop-p.depths.items)) c.in-Some.is c.loop-p.invariant in
    refused_first (code_view c.args.code.now) (c.if-not-keeps_limits.ensures.limits.0 refl)
    (c.if-not-fit_capital.ensures.0 refl) c.loop-p.p c.in-Some.fault (omega arith) first

pub returns-in-None-clause-faultless : goal.returns-in-None-clause-faultless
returns-in-None-clause-faultless c =
    let n = c.len-p-end.ensures in
    let l : length (map process_view c.args.code.now.processes.items) ≡ length c.args.code.now.processes.items =
    length-map c.args.code.now.processes.items process_view in
    let sound = subst (λ (f : Option VerifyFault). IsFoundBefore (code_view c.args.code.now) c.loop-p.p f (map (λ row.
    row.items) c.loop-p.depths.items)) c.in-None.is c.loop-p.invariant in
    annotated_all (code_view c.args.code.now) (c.if-not-keeps_limits.ensures.limits.0 refl)
    (c.if-not-fit_capital.ensures.0 refl) c.loop-p.p (map (λ row. row.items) c.loop-p.depths.items) (omega arith)
    sound

pub returns-in-None-clause-depths : goal.returns-in-None-clause-depths
returns-in-None-clause-depths c =
    let n = c.len-p-end.ensures in
    let l : length (map process_view c.args.code.now.processes.items) ≡ length c.args.code.now.processes.items =
    length-map c.args.code.now.processes.items process_view in
    let sound = subst (λ (f : Option VerifyFault). IsFoundBefore (code_view c.args.code.now) c.loop-p.p f (map (λ row.
    row.items) c.loop-p.depths.items)) c.in-None.is c.loop-p.invariant in
    depths_all (code_view c.args.code.now) (c.if-not-keeps_limits.ensures.limits.0 refl)
    (c.if-not-fit_capital.ensures.0 refl) c.loop-p.p (map (λ row. row.items) c.loop-p.depths.items) (omega arith)
    sound

pub check_process-requires-clause-process : goal.check_process-requires-clause-process
check_process-requires-clause-process c = grind (arith, common_steps)

pub check_process-requires-clause-claims : goal.check_process-requires-clause-claims
check_process-requires-clause-claims c = grind (arith, common_steps)

pub returns-then-not-fit_capital-clause-refused : goal.returns-then-not-fit_capital-clause-refused
returns-then-not-fit_capital-clause-refused c = grind (arith, common_steps)

pub loop-p-smaller : goal.loop-p-smaller
loop-p-smaller c = search rules
