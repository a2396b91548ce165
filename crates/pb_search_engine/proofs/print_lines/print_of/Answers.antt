use Rattle.std.proofs.Common.{◌≡◌, ◌++◌, ℕ, ℤ, List, inl, inr, arith, sym, ap, subst, ◌∙◌, length, map, w64}
use Rattle.std.proofs.lemmas.Int.{to_z-of_z}
use Rattle.std.proofs.lemmas.List.{length-map}
use Rattle.std.proofs.lemmas.Bool.{cases_lt}
use Rattle.std.proofs.lemmas.Option.{slice_get_within}
use Rattle.pb_base.specs.Lines.{name_of}
use Rattle.pb_code.specs.View.{code_view, process_view}
use Rattle.pb_code.proofs.ListElements.{read_mapped}
use Rattle.pb_picks.proofs.PickParts.{as_many, mapped_at, same_arms}
use Rattle.pb_search_engine.specs.OutcomeLines.{arm_print_text}
use Rattle.pb_search_engine.specs.PrintLines.{SpellsPrint}
use Rattle.pb_search_engine.proofs.PrintLemmas.{signed_fits}
use Rattle.pb_search_engine.proofs.print_lines.print_of.Goals as goal

pub print_of_process-requires : goal.print_of_process-requires
print_of_process-requires c =
    let x = c.index.result.now in
    let there = read_mapped process_view c.args.code.now.processes.items c.loop-p.p x (omega arith) c.index.ensures in
    let small = c.requires.each c.loop-p.p (process_view x) there in
    let most = small.some_arms.1 in
    omega (arith, most)

pub loop-p-preserved : goal.loop-p-preserved
loop-p-preserved c = λ d below says.
    elim (cases_lt d.pick.process c.loop-p.p) [
      | inl lt ↦ c.loop-p.invariant d lt says
      | inr le ↦
          (let same : d.pick.process ≡ c.loop-p.p = omega arith in
          let x = c.index.result.now in
          let code = code_view c.args.code.now in
          let there = read_mapped process_view c.args.code.now.processes.items c.loop-p.p x (omega arith) c.index.ensures in
          let arms = same_arms code.processes c.loop-p.p d.pick.process (process_view x) says.process same says.there there in
          let many = as_many (λ n. n.items) process_view c.args.code.now.names.processes.items c.args.code.now.processes.items c.requires.process_names.all in
          let name = mapped_at (λ n. n.items) c.args.code.now.names.processes.items c.loop-p.p
          c.index-in-loop-p.result.now (omega (arith, many)) c.index-in-loop-p.ensures in
          let arm = says.arm in
          let words = arm_print_text d.pick.arm d.value in
          c.in-None.ensures d.pick.arm d.value (omega (arith, arms, arm)) says.value
          (says.spelled ∙ (ap (λ (k : ℕ). name_of code.names.processes k ++ words) same
          ∙ ap (λ (t : List ℕ). t ++ words) (name ∙ sym c.deref.ensures.value))))
    ]

pub returns-in-Some : goal.returns-in-Some
returns-in-Some c =
    let x = c.index.result.now in
    let there = read_mapped process_view c.args.code.now.processes.items c.loop-p.p x (omega arith) c.index.ensures in
    let many = as_many (λ n. n.items) process_view c.args.code.now.names.processes.items c.args.code.now.processes.items c.requires.process_names.all in
    let name = mapped_at (λ n. n.items) c.args.code.now.names.processes.items c.loop-p.p c.index-in-loop-p.result.now
    (omega (arith, many)) c.index-in-loop-p.ensures in
    let value = c.in-Some.value in
    let words = arm_print_text c.in-Some.arm value in
    let within = c.in-Some.ensures.0 in
    subst (λ (z : ℤ). SpellsPrint (code_view c.args.code.now) c.args.line.now (record { pick = record { process = c.loop-p.p; arm = c.in-Some.arm }; value = z }))
    (sym (to_z-of_z w64 value (signed_fits value c.in-Some.ensures.1)))
    (record {
      process = process_view x;
      there = there;
      arm = omega (arith, within);
      value = c.in-Some.ensures.1;
      spelled = c.in-Some.ensures.2 ∙ ap (λ (t : List ℕ). t ++ words) (c.deref.ensures.value ∙ sym name);
    })

pub returns : goal.returns
returns c = λ d says.
    let lt = slice_get_within (code_view c.args.code.now).processes d.pick.process says.process says.there in
    let many : length (map process_view c.args.code.now.processes.items) ≡ length c.args.code.now.processes.items =
    length-map c.args.code.now.processes.items process_view in
    c.loop-p.invariant d (omega (arith, lt, many)) says
