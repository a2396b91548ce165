use Rattle.std.proofs.Common.{◌≡◌, ◌+◌, ◌-◌, ◌≤◌, ◌∷◌, ◌++◌, [], ℕ, List, length, take, sym, ap, ◌∙◌, subst}
use Rattle.std.proofs.Common.{vec_capacity, arith}
use Rattle.pb_history.specs.Entries.{size}
use Rattle.pb_history.specs.Ends.{Rise, goes_on, span_row, spans_from}
use Rattle.pb_history.specs.declared.spans.SpanEnd.{SpanEnd}
use Rattle.pb_history.specs.declared.spans.Spans.TheInside.{Inside}
use Rattle.pb_history.proofs.SpanEnds.{appended, end_for, length_from, replaced, rise_more, size_from, spans_more}
use Rattle.pb_history.proofs.SpanEnds.{with_end}
use Rattle.pb_history.proofs.spans.Spans.add.Goals as goal
use Rattle.pb_history.proofs.spans.Spans.add.Goals.{then-continues, else-continues}

pub overflow_add-self : goal.overflow_add-self
overflow_add-self c =
    let t = c.self.inside in
    let fits : size (span_row t).spans + c.args.span.count ≤ 10000000 = rw (← c.self.view_is) at c.requires.fits in
    let all = size_from 0 t.len t.ends.items c.self.invariant in
    let len : c.if-continues.self-inside.len ≡ t.len = elim c.if-continues.branch [
      | then-continues w ↦ cc
      | else-continues w ↦ cc
    ] in
    omega (arith, fits, all, len)

-- the ends that are left, with the new one after them
moved : (c : goal.After-push_reserved) → c.if-continues.self-inside.ends.items ++ end_for c.self.inside.len c.args.span ∷ []
    ≡ with_end c.self.inside.ends.items (end_for c.self.inside.len c.args.span)
moved c =
    let t = c.self.inside in
    let ends = t.ends.items in
    let e = end_for t.len c.args.span in
    let test : c.continues.result ≡ goes_on ends c.args.span.pick = c.continues.ensures ∙ ap (λ (es : List SpanEnd).
    goes_on es c.args.span.pick) c.deref.ensures.value in
    elim c.if-continues.branch [
      | then-continues w ↦
          let left : c.if-continues.self-inside.ends.items ≡ take (length ends - 1) ends =
          ap (λ (i : Inside). i.ends.items) w.self-inside-is ∙ (w.pop.ensures.rest ∙ ap (λ (n : ℕ). take (n - 1) ends) t.ends.ok.0) in
          ap (λ (es : List SpanEnd). es ++ e ∷ []) left ∙ replaced ends e (sym test ∙ w.if-continues.true)
      | else-continues w ↦
          ap (λ (i : Inside). i.ends.items ++ e ∷ []) w.self-inside-is ∙ appended ends e (sym test ∙ w.if-continues.false)
    ]

same_len : (c : goal.After-push_reserved) → c.if-continues.self-inside.len ≡ c.self.inside.len
same_len c = elim c.if-continues.branch [
  | then-continues w ↦ ap (λ (i : Inside). i.len) w.self-inside-is
  | else-continues w ↦ ap (λ (i : Inside). i.len) w.self-inside-is
]

same_capacity : (c : goal.After-push_reserved) → vec_capacity c.if-continues.self-inside.ends ≡ vec_capacity c.self.inside.ends
same_capacity c = elim c.if-continues.branch [
  | then-continues w ↦ ap (λ (i : Inside). vec_capacity i.ends) w.self-inside-is ∙ w.pop.ensures.capacity
  | else-continues w ↦ ap (λ (i : Inside). vec_capacity i.ends) w.self-inside-is
]

-- the ends are those with one more
ends_now : (c : goal.After-push_reserved) → c.push_reserved.new.self.items ≡ with_end c.self.inside.ends.items (end_for c.self.inside.len c.args.span)
ends_now c =
    let e : ℕ → SpanEnd = λ n. record { pick = c.args.span.pick; shows = c.args.span.shows; end = n + c.args.span.count } in
    c.push_reserved.ensures.items
    ∙ (ap (λ (n : ℕ). c.if-continues.self-inside.ends.items ++ e n ∷ []) (same_len c) ∙ moved c)

pub invariant_of-self : goal.invariant_of-self
invariant_of-self c =
    let t = c.self.inside in
    let e = end_for t.len c.args.span in
    let some = c.requires.some in
    let rise : Rise 0 (with_end t.ends.items e) e.end = rise_more 0 t.len t.ends.items e c.self.invariant (omega (arith, some)) in
    subst (λ (n : ℕ). Rise 0 c.push_reserved.new.self.items (n + c.args.span.count)) (sym (same_len c))
    (subst (λ (es : List SpanEnd). Rise 0 es e.end) (sym (ends_now c)) rise)

pub returns-clause-spans : goal.returns-clause-spans
returns-clause-spans c =
    let t = c.self.inside in
    rw (← c.self.view_is) (ap (spans_from 0) (ends_now c) ∙ spans_more 0 t.len t.ends.items c.args.span c.self.invariant)

pub returns-clause-room : goal.returns-clause-room
returns-clause-room c =
    let t = c.self.inside in
    let capacity = same_capacity c in
    let before = length_from 0 t.ends.items in
    let after = length_from 0 c.push_reserved.new.self.items in
    rw (← c.self.view_is) (omega (arith, capacity, before, after, c.push_reserved.ensures.capacity, t.ends.ok, c.push_reserved.new.self.ok))
