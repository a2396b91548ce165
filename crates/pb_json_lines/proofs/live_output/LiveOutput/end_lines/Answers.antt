use Rattle.std.proofs.Common.{◌≡◌, refl, sym, ap, ◌∙◌, drop, subst, Option, Some, None, List, ℕ}
use Rattle.pb_base.specs.Device.{appended, AddsPrefix}
use Rattle.pb_json_lines.specs.Live.{EndsSo, IsEnded, LiveSink, TellsLive, told_alone}
use Rattle.pb_json_lines.specs.declared.form.Dialect.{Dialect}
use Rattle.pb_json_lines.proofs.LiveLemmas.{live_ends}
use Rattle.pb_json_lines.proofs.live_output.LiveOutput.end_lines.Goals as goal

pub returns : goal.returns
returns g c =
    let inside = c.self.inside in
    let heard = inside.heard.items in
    let before : LiveSink = record {
      written = g.O.Output.written inside.inner;
      writes = inside.writes;
      dialect = inside.dialect;
      heard = heard;
      telling = inside.telling;
      refused = inside.refused;
    } in
    let after : LiveSink = record {
      written = g.O.Output.written c.end-ended.new.output;
      writes = c.end-ended.result.writes;
      dialect = None;
      heard = heard;
      telling = inside.telling;
      refused = inside.refused;
    } in
    let same : inside.dialect ≡ Some c.in-Some.dialect = c.in-Some.is in
    let shown : c.deref.result.now ≡ heard = c.deref.ensures.value in
    let rest = λ (h : List ℕ). told_alone c.in-Some.dialect (drop inside.told h) in
    let told : TellsLive c.in-Some.dialect heard c.args.given after.written after.writes c.end-ended.result.status =
    live_ends c.in-Some.dialect inside.dialect heard inside.told inside.telling c.flush-flushed.result.telling
    (g.O.Output.written inside.inner) (g.O.Output.written c.flush-flushed.new.output) (g.O.Output.written c.end-ended.new.output)
    inside.writes c.flush-flushed.result.writes c.end-ended.result.writes c.args.given c.end-ended.result.status c.self.invariant same
    (λ e. let kept = c.flush-flushed.ensures.kept e in (ap (λ o. g.O.Output.written o) kept.0, (kept.1, kept.2)))
    (λ e f. c.flush-flushed.ensures.told e f ∙ ap (λ (h : List ℕ). appended (g.O.Output.written inside.inner) (rest h)) shown)
    (λ e f. subst (λ (h : List ℕ). AddsPrefix (g.O.Output.written inside.inner) (g.O.Output.written c.flush-flushed.new.output) (rest h)) shown
    (c.flush-flushed.ensures.broken e f))
    c.flush-flushed.ensures.failed c.flush-flushed.ensures.counted
    (λ e. let ends = c.end-ended.ensures.whole e in (ap (λ o. g.O.Output.written o) ends.0, (ends.1, ends.2)))
    (λ e. let ends = c.end-ended.ensures.failed e in (ap (λ o. g.O.Output.written o) ends.0, (ends.1, ends.2)))
    c.end-ended.ensures.no_memory in
    subst (λ (s : LiveSink). IsEnded s c.args.given after c.end-ended.result.status) c.self.view_is
    (subst (λ (d : Option Dialect). EndsSo d before c.args.given after c.end-ended.result.status) (sym same) (told, refl))
