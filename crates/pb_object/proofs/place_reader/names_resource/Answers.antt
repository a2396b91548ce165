use Rattle.std.proofs.Common.{arith, map, sym, ◌∙◌}
use Rattle.std.proofs.lemmas.List.{length-map}
use Rattle.pb_object.proofs.Pairs.{front_two, after_two, names_none, names_on, names_here}
use Rattle.pb_object.proofs.place_reader.names_resource.Goals as goal

pub returns-then-same : goal.returns-then-same
returns-then-same c =
    sym (c.loop.invariant.same ∙ names_here _ _ c.args.resource.now (map (λ w. w.now) c.loop.rest.now) _ (front_two (λ
    w. w.now) c.loop.rest.now _ c.in-len2-up.len_at_least) (sym c.same.ensures ∙ c.if-same.true))

pub returns-in_default : goal.returns-in_default
returns-in_default c =
    sym (c.loop.invariant.same ∙ names_none (map (λ w. w.now) c.loop.rest.now) c.args.resource.now (simp length-map c.in_default.len_below))

pub returns : goal.returns
returns c =
    sym (c.loop.invariant.same ∙ names_none (map (λ w. w.now) c.loop.rest.now) c.args.resource.now (simp length-map (omega arith)))

pub loop-preserved : goal.loop-preserved
loop-preserved c = record {
  same = c.loop.invariant.same ∙ names_on _ _ c.args.resource.now (map (λ w. w.now) c.loop.rest.now) _ (front_two (λ
      w. w.now) c.loop.rest.now _ c.in-len2-up.len_at_least) (sym c.same.ensures ∙ c.if-same.false);
  left = (let a = after_two c.loop.rest.now c.in-len2-up.len_at_least in let l = c.loop.invariant.left in omega (arith, a, l));
}
