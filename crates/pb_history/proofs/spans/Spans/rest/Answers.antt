use Rattle.std.proofs.Common.{◌≡◌, ◌+◌, ◌-◌, ◌/◌, ◌<◌, ⊎_elim, Some, length, slice_get, take, refl, sym, ap, ◌∙◌}
use Rattle.std.proofs.Common.{arith}
use Rattle.std.proofs.lemmas.Bool.{cases_lt}
use Rattle.pb_history.specs.Entries.{all_picks, size}
use Rattle.pb_history.specs.Ends.{span_row, spans_from}
use Rattle.pb_history.proofs.SpanEnds.{all_before, begins_by, end_is, ends_rise, item_there, pick_at, size_from}
use Rattle.pb_history.proofs.SpanEnds.{span_at, span_to, starts_before}
use Rattle.pb_history.proofs.spans.Spans.rest.Goals as goal

pub loop-low-preserved-then-span-i : goal.loop-low-preserved-then-span-i
loop-low-preserved-then-span-i c =
    let t = c.self.inside in
    let ends = t.ends.items in
    let low = c.loop-low.low in
    let high = c.loop-low.high in
    let mid = low + (high - low) / 2 in
    let within = c.loop-low.invariant.within in
    let test = c.loop-low-test.true in
    let lt : mid < length ends = omega (arith, within, test) in
    let s = c.index-span.result.now in
    let end = end_is ends mid s (item_there ends mid s lt ∙ ap Some (sym c.index-span.ensures)) in
    let here = c.if-span-i.true in record {
      order = omega (arith, test);
      within = within;
      before = λ k u. let r = ends_rise 0 t.len ends k mid c.self.invariant (omega (arith, u)) lt in omega (arith, r, end, here);
      after = c.loop-low.invariant.after;
    }

pub loop-low-preserved : goal.loop-low-preserved
loop-low-preserved c =
    let t = c.self.inside in
    let ends = t.ends.items in
    let low = c.loop-low.low in
    let high = c.loop-low.high in
    let mid = low + (high - low) / 2 in
    let within = c.loop-low.invariant.within in
    let test = c.loop-low-test.true in
    let lt : mid < length ends = omega (arith, within, test) in
    let s = c.index-span.result.now in
    let end = end_is ends mid s (item_there ends mid s lt ∙ ap Some (sym c.index-span.ensures)) in
    let here = c.if-span-i.false in record {
      order = omega arith;
      within = omega (arith, within, test);
      before = c.loop-low.invariant.before;
      after = λ k u v. let r = ends_rise 0 t.len ends mid k c.self.invariant u v in omega (arith, r, end, here);
    }

pub index-requires : goal.index-requires
index-requires c =
    let t = c.self.inside in
    let ends = t.ends.items in
    let i = c.args.i in
    let low = c.loop-low.low in
    let within : i < size (span_row t).spans = rw (← c.self.view_is) at c.requires in
    let len = size_from 0 t.len ends c.self.invariant in
    let lt : low < length ends = ⊎_elim (λ l. l)
    (λ l.
    let past = all_before 0 t.len i ends c.self.invariant (omega arith) (λ k u. c.loop-low.invariant.before k (omega (arith, u, l))) in
    absurd (omega (arith, past, within, len)))
    (cases_lt low (length ends)) in
    omega (arith, lt, t.ends.ok.0)

pub overflow_sub-count : goal.overflow_sub-count
overflow_sub-count c =
    let t = c.self.inside in
    let ends = t.ends.items in
    let i = c.args.i in
    let low = c.loop-low.low in
    let within : i < size (span_row t).spans = rw (← c.self.view_is) at c.requires in
    let len = size_from 0 t.len ends c.self.invariant in
    let lt : low < length ends = ⊎_elim (λ l. l)
    (λ l.
    let past = all_before 0 t.len i ends c.self.invariant (omega arith) (λ k u. c.loop-low.invariant.before k (omega (arith, u, l))) in
    absurd (omega (arith, past, within, len)))
    (cases_lt low (length ends)) in
    let s = c.index.result.now in
    let there : slice_get ends low ≡ Some s = item_there ends low s lt ∙ ap Some (sym c.index.ensures) in
    let end = end_is ends low s there in
    let test = c.loop-low-test.false in
    let below = c.loop-low.invariant.after low (omega (arith, test)) lt in
    omega (arith, below, end)

pub returns-clause-some : goal.returns-clause-some
returns-clause-some c =
    let t = c.self.inside in
    let ends = t.ends.items in
    let i = c.args.i in
    let low = c.loop-low.low in
    let within : i < size (span_row t).spans = rw (← c.self.view_is) at c.requires in
    let len = size_from 0 t.len ends c.self.invariant in
    let lt : low < length ends = ⊎_elim (λ l. l)
    (λ l.
    let past = all_before 0 t.len i ends c.self.invariant (omega arith) (λ k u. c.loop-low.invariant.before k (omega (arith, u, l))) in
    absurd (omega (arith, past, within, len)))
    (cases_lt low (length ends)) in
    let s = c.index.result.now in
    let there : slice_get ends low ≡ Some s = item_there ends low s lt ∙ ap Some (sym c.index.ensures) in
    let end = end_is ends low s there in
    let test = c.loop-low-test.false in
    let below = c.loop-low.invariant.after low (omega (arith, test)) lt in
    omega (arith, below, end)

pub returns-clause-picks : goal.returns-clause-picks
returns-clause-picks c =
    let t = c.self.inside in
    let ends = t.ends.items in
    let i = c.args.i in
    let low = c.loop-low.low in
    let within : i < size (span_row t).spans = rw (← c.self.view_is) at c.requires in
    let len = size_from 0 t.len ends c.self.invariant in
    let lt : low < length ends = ⊎_elim (λ l. l)
    (λ l.
    let past = all_before 0 t.len i ends c.self.invariant (omega arith) (λ k u. c.loop-low.invariant.before k (omega (arith, u, l))) in
    absurd (omega (arith, past, within, len)))
    (cases_lt low (length ends)) in
    let s = c.index.result.now in
    let there : slice_get ends low ≡ Some s = item_there ends low s lt ∙ ap Some (sym c.index.ensures) in
    let end = end_is ends low s there in
    let test = c.loop-low-test.false in
    let below = c.loop-low.invariant.after low (omega (arith, test)) lt in
    rw (← c.self.view_is) (λ k few.
    let none : i + k - 0 ≡ i + k = omega arith in
    ap (slice_get (all_picks (spans_from 0 ends))) (sym none)
    ∙ pick_at 0 t.len (i + k) ends low s c.self.invariant (omega arith) there
    (λ j u. let b = c.loop-low.invariant.before j u in omega (arith, b)) (omega (arith, few, below, end)))

pub returns-clause-span : goal.returns-clause-span
returns-clause-span c =
    let t = c.self.inside in
    let ends = t.ends.items in
    let i = c.args.i in
    let low = c.loop-low.low in
    let within : i < size (span_row t).spans = rw (← c.self.view_is) at c.requires in
    let len = size_from 0 t.len ends c.self.invariant in
    let lt : low < length ends = ⊎_elim (λ l. l)
    (λ l.
    let past = all_before 0 t.len i ends c.self.invariant (omega arith) (λ k u. c.loop-low.invariant.before k (omega (arith, u, l))) in
    absurd (omega (arith, past, within, len)))
    (cases_lt low (length ends)) in
    let s = c.index.result.now in
    let there : slice_get ends low ≡ Some s = item_there ends low s lt ∙ ap Some (sym c.index.ensures) in
    let end = end_is ends low s there in
    let test = c.loop-low-test.false in
    let below = c.loop-low.invariant.after low (omega (arith, test)) lt in
    let begins = begins_by 0 t.len i ends low c.self.invariant lt (omega arith) c.loop-low.invariant.before in
    let ends_later = starts_before 0 t.len ends low s c.self.invariant there in
    rw (← c.self.view_is) (record {
      k = low;
      span = span_to (0 + size (take low (spans_from 0 ends))) s;
      there = span_at 0 t.len ends low s c.self.invariant there;
      pick = refl;
      before = omega (arith, begins);
      left = omega (arith, below, end, ends_later);
    })
