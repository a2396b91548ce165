use Rattle.std.proofs.Common.{◌≡◌, ◌≢◌, ◌+◌, ◌++◌, ◌∷◌, List, [], length, replicate, sym, ap, subst, ◌∙◌, arith}
use Rattle.pb_base.specs.declared.pick.Pick.{Pick}
use Rattle.pb_history.specs.Entries.{are_same}
use Rattle.pb_history.specs.Replays.{spread}
use Rattle.pb_history.specs.declared.counted.CountedPick.{CountedPick}
use Rattle.pb_history.proofs.SpansOfEntries.{same_itself, same_pick}
use Rattle.pb_picks.specs.Counted.{AreApart}
use Rattle.pb_picks.proofs.Counts.{apart_grown, apart_more, spread_grown, spread_one}
use Rattle.pb_picks.proofs.PickParts.{one_count_more}
use Rattle.pb_picks.proofs.count.count_pick.Goals as goal

pub overflow_add-last : goal.overflow_add-last
overflow_add-last c =
    let before = ap (λ (cs : List CountedPick). length (spread cs)) c.in-Some.ensures.items in
    let one = one_count_more c.pop.new.self.items c.in-Some.last in
    let fits = c.requires.fits in
    omega (arith, before, one, fits)

pub returns-in_ok-push-in-Some-clause-picks : goal.returns-in_ok-push-in-Some-clause-picks
returns-in_ok-push-in-Some-clause-picks c =
    let same : c.in-Some.last.pick ≡ c.args.pick = same_pick c.in-Some.last.pick c.args.pick (sym c.eq.ensures ∙ c.if-eq.true) in
    ap spread c.in_ok-push-in-Some.ensures.items
    ∙ (spread_grown c.pop.new.self.items c.in-Some.last c.args.pick c.args.count same
    ∙ ap (λ (cs : List CountedPick). spread cs ++ replicate c.args.count c.args.pick) (sym c.in-Some.ensures.items))

pub returns-in_ok-push-in-Some-clause-apart : goal.returns-in_ok-push-in-Some-clause-apart
returns-in_ok-push-in-Some-clause-apart c =
    let same : c.in-Some.last.pick ≡ c.args.pick = same_pick c.in-Some.last.pick c.args.pick (sym c.eq.ensures ∙ c.if-eq.true) in
    let some = c.requires.some in
    subst AreApart (sym c.in_ok-push-in-Some.ensures.items)
    (apart_grown c.pop.new.self.items c.in-Some.last (record {
      pick = c.args.pick;
      count = c.in-Some.last.count +
          c.args.count;
    }) (sym same) (omega (arith, some))
    (subst AreApart c.in-Some.ensures.items c.requires.apart))

pub returns-in_ok-push-in-Some-2-2-clause-picks : goal.returns-in_ok-push-in-Some-2-2-clause-picks
returns-in_ok-push-in-Some-2-2-clause-picks c =
    let whole : c.args.counted.now.items ≡ c.pop.new.self.items ++ c.in-Some.last ∷ [] = c.in-Some.ensures.items in
    let pushed : c.push-in-Some-2.new.self.items ≡ c.pop.new.self.items ++ c.in-Some.last ∷ [] = c.in_ok-push-in-Some-2.ensures.items in
    let before = pushed ∙ sym whole in
    ap spread c.in_ok-push-in-Some-2-2.ensures.items
    ∙ (spread_one c.push-in-Some-2.new.self.items (record { pick = c.args.pick; count = c.args.count })
    ∙ ap (λ (cs : List CountedPick). spread cs ++ replicate c.args.count c.args.pick) before)

pub returns-in_ok-push-in-Some-2-2-clause-apart : goal.returns-in_ok-push-in-Some-2-2-clause-apart
returns-in_ok-push-in-Some-2-2-clause-apart c =
    let other : c.in-Some.last.pick ≢ c.args.pick = λ e. let t = c.eq.ensures ∙ (ap (λ (p : Pick). are_same p
    c.args.pick) e ∙ same_itself c.args.pick) in cc (t, c.if-eq.false) in
    let before = c.in_ok-push-in-Some-2.ensures.items in
    let behind : c.push-in-Some-2-2.new.self.items ≡ (c.pop.new.self.items ++ c.in-Some.last ∷ []) ++ record { pick = c.args.pick; count = c.args.count } ∷ [] =
    c.in_ok-push-in-Some-2-2.ensures.items ∙ ap (λ (cs : List CountedPick). cs ++ record { pick = c.args.pick; count = c.args.count } ∷ []) before in
    subst AreApart (sym behind)
    (apart_more c.pop.new.self.items c.in-Some.last (record { pick = c.args.pick; count = c.args.count }) other c.requires.some
    (subst AreApart c.in-Some.ensures.items c.requires.apart))
