use Rattle.std.proofs.Common.{length, min, sym, ap, ◌∙◌}
use Rattle.std.proofs.lemmas.Option.{IfSome_then}
use Rattle.serde_json.specs.View.{view}
use Rattle.pb_diagnostics.specs.Diagnostics.{diagnostic_data}
use Rattle.pb_diagnostics.proofs.diagnostic.diagnostic.Goals as goal

pub returns-clause-told : goal.returns-clause-told
returns-clause-told c = record {
  fault = c.args.fault.now;
  refused = c.requires;
  cause = c.in-Some.cause;
  of = sym c.text_cause.ensures ∙ c.in-Some.is;
  at = c.min-at.result;
  there = IfSome_then c.in-Some.cause.at c.offset_of.ensures (λ told is. c.min-at.ensures ∙ ap (λ n. min n (length c.args.text.now)) is);
  range = view c.in_ok-range.range;
  from = c.in_ok-range.ensures.range;
  message = c.deref.result.now;
  related = view c.in_ok-related.related;
  is = c.in_ok-made.ensures ∙ ap (λ code. diagnostic_data code c.deref.result.now (view c.in_ok-range.range) (view c.in_ok-related.related)) c.name.ensures;
}
