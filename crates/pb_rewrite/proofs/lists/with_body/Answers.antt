use Rattle.std.proofs.Common.{◌≡◌, [], ◌∷◌, ◌++◌, arith, refl, ◌∙◌}
use Rattle.pb_rewrite.specs.declared.item.Item.TheVariants.{Left}
use Rattle.pb_rewrite.proofs.ReversedLists.{one_moved, fewer_left}
use Rattle.pb_rewrite.proofs.lists.with_body.Goals as goal

pub loop-stmt-preserved : goal.loop-stmt-preserved
loop-stmt-preserved g c =
    let taken : c.loop-stmt.body.items ≡ c.pop.new.self.items ++ c.in-Some.stmt ∷ [] = c.in-Some.ensures.items in
    let pushed : c.push_reserved.new.self.items ≡ c.loop-stmt.items.items ++ Left c.in-Some.stmt ∷ [] = c.push_reserved.ensures.items in
    record {
      room = omega (arith, c.in-Some.ensures.len, c.push_reserved.ensures.len, c.push_reserved.ensures.capacity);
      order = one_moved c.loop-stmt.items.items c.push_reserved.new.self.items c.loop-stmt.body.items c.pop.new.self.items
          c.in-Some.stmt taken pushed ∙ c.loop-stmt.invariant.order;
    }

pub loop-stmt-init : goal.loop-stmt-init
loop-stmt-init g c = record {
  room = c.requires;
  order = refl;
}

pub push_reserved-requires : goal.push_reserved-requires
push_reserved-requires g c = omega (arith, c.in-Some.ensures.len)

pub loop-stmt-smaller : goal.loop-stmt-smaller
loop-stmt-smaller g c = fewer_left _ _ _ c.in-Some.ensures.items
