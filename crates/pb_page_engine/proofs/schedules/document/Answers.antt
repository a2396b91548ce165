use Rattle.std.proofs.Common.{List, ℕ, subst}
use Rattle.std.proofs.lemmas.Result.{MatchResult-weaker}
use Rattle.pb_code.specs.View.{labels_view}
use Rattle.pb_code.specs.Whole.{ProcessLabels}
use Rattle.pb_object.specs.Answers.{SpellsCode}
use Rattle.pb_code.specs.declared.format.Format.TheVariants.{Two}
use Rattle.pb_page_engine.specs.Schedules.{AreSchedules}
use Rattle.pb_verifier.specs.Verified.{VerifiedCode}
use Rattle.pb_page_engine.proofs.schedules.document.Goals as goal

pub returns : goal.returns
returns c =
    let lending = c.args.lending in
    let states = c.args.states in
    let source = c.args.source.now in
    let code = c.args.compiled.now.verified.code in
    let object = c.in_ok-object.object.items in
    MatchResult-weaker c.schedules.result c.schedules.ensures
    (λ r are. record {
      object = object;
      spelled = subst (λ (labels : List ProcessLabels). SpellsCode Two code labels object) c.labels.ensures.labels
          (subst (λ (v : VerifiedCode). SpellsCode Two v.code (labels_view c.labels.result.now) object) c.verified-verified.ensures
          c.in_ok-object.ensures);
      are = subst (λ (o : List ℕ). AreSchedules lending states source o code c.args.compiled.now.labels r.text.items r.status) c.deref.ensures.value
          (subst (λ (v : VerifiedCode). AreSchedules lending states source c.deref.result.now v.code c.args.compiled.now.labels r.text.items r.status)
          c.verified-verified.ensures
          (subst (λ (labels : List ProcessLabels). AreSchedules lending states source c.deref.result.now c.verified-verified.result.now.code labels
          r.text.items r.status) c.labels-2.ensures.labels are));
    })
    (λ e h. h)
