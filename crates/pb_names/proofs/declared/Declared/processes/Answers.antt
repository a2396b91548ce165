use Rattle.std.proofs.Common.{map, arith, ap, sym, ◌∙◌}
use Rattle.std.proofs.lemmas.List.{take_all}
use Rattle.std.proofs.lemmas.Result.{IfOk-weaker}
use Rattle.pb_tree.specs.Syntax.{ProcessSyntax}
use Rattle.pb_tree.specs.View.{process_view}
use Rattle.pb_names.proofs.NameNumbers.{declared_texts, texts_more}
use Rattle.pb_names.proofs.declared.Declared.processes.Goals as goal

pub loop-process-init : goal.loop-process-init
loop-process-init g c = ap (map (λ text. text.now)) c.in_ok-texts.ensures.items

pub loop-process-preserved : goal.loop-process-preserved
loop-process-preserved g c =
    texts_more (λ text. text.now) (λ x. x.name.text.items) _ _ c.as_slice.result _ _ c.process-item.result c.in_ok-push.ensures.items
    c.as_slice.ensures.value (omega arith) c.process-item.is c.loop-process.invariant

pub returns : goal.returns
returns g c =
    IfOk-weaker c.index.result _ _
    (λ names same. same
    ∙ c.loop-process.invariant
    ∙ ap (map (λ x. x.name.text.items)) (take_all _ c.deref-process-items.result.now (omega arith) ∙ c.deref-process-items.ensures.value)
    ∙ sym (declared_texts (λ (p : ProcessSyntax). p.name) process_view c.args.processes.now.items))
    c.index.ensures
