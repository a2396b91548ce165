use Rattle.std.proofs.Common.{◌≡◌, ◌++◌, ◌-◌, ℕ, List, [], ◌∷◌, length, take, get_or, false, true, rules, refl, sym}
use Rattle.std.proofs.Common.{ap, ◌∙◌, subst, arith, append-nil, length-append}
use Rattle.pb_base.proofs.DeviceLemmas.{prepended}
use Rattle.pb_debug_engine.specs.Live.{EndsInMark, IsUnmarked}
use Rattle.pb_command_io.specs.Parts.{AreTwoParts}
use Rattle.pb_debug_engine.proofs.PartLemmas.{at_end, ended, ended_by_mark, is_long, known, none_dropped, read_one, takes_text, unmarked_more}
use Rattle.pb_debug_engine.proofs.part.read_part.Goals as goal

pub returns-in_default-clause-early : goal.returns-in_default-clause-early
returns-in_default-clause-early g c _ =
    let text = c.loop-count.part.items in
    known (g.I.Input.rest c.args.input.now) (g.I.Input.rest c.loop-count.input) text _ c.loop-count.invariant.read
    (λ after is. (text, (after, refl, c.in_default.ensures.fault.0 ∙ is), c.loop-count.invariant.unmarked))

pub returns-then-count-eq0-clause-part : goal.returns-then-count-eq0-clause-part
returns-then-count-eq0-clause-part g c =
    let text = c.loop-count.part.items in
    let room = c.loop-count.invariant.room in
    let kept = c.read.auto.buf in
    let part = c.truncate.new.self.items in
    let two = subst (λ (t : List ℕ). AreTwoParts t c.two_parts.result.0.now c.two_parts.result.1.now) c.as_slice.ensures.value c.two_parts.ensures in
    let whole = ended text c.two_parts.result.0.now c.two_parts.result.1.now part c.loop-count.invariant.unmarked two c.truncate.ensures.items in
    known (g.I.Input.rest c.args.input.now) (g.I.Input.rest c.loop-count.input) text _ c.loop-count.invariant.read
    (λ after is.
    let end = at_end (g.I.Input.rest c.loop-count.input) (g.I.Input.rest c.read.new.self) c.read.new.buf after c.in-Ok.count is c.in-Ok.ensures.taken
    c.if-count-eq0.true (omega (arith, room, kept)) (c.in-Ok.ensures.end c.if-count-eq0.true) in
    let bytes : text ++ after ≡ text = ap (λ (a : List ℕ). text ++ a) end.0 ∙ append-nil text in
    ([], end.1, subst (λ (t : List ℕ). AreTwoParts t part []) (sym bytes) whole))

pub returns-then-len-gt-MAX_INPUT-clause-long : goal.returns-then-len-gt-MAX_INPUT-clause-long
returns-then-len-gt-MAX_INPUT-clause-long g c same =
    let text = c.loop-count.part.items in
    let b = get_or c.read.new.buf 0 0 in
    let few = c.loop-count.invariant.few in
    let room = c.loop-count.invariant.room in
    let kept = c.read.auto.buf in
    let more = ap (λ (t : List ℕ). length t) c.in-Ok-push.ensures.items in
    let size = length-append text (b ∷ []) in
    let long = c.if-len-gt-MAX_INPUT.true in
    let counted = c.len.ensures in
    let full : length text ≡ 4194304 = omega (arith, few, more, size, long, counted) in
    let read = read_one (g.I.Input.rest c.args.input.now) (g.I.Input.rest c.loop-count.input) (g.I.Input.rest c.read.new.self) text c.read.new.buf
    c.in-Ok.count c.loop-count.invariant.read c.in-Ok.ensures.given c.in-Ok.ensures.taken (omega (arith, room, kept)) c.in-Ok.ensures.bound
    c.if-count-eq0.false in
    known (g.I.Input.rest c.args.input.now) (g.I.Input.rest c.read.new.self) (text ++ b ∷ []) _ read
    (λ after is. is_long text b after c.loop-count.invariant.unmarked full)

pub returns-then-ends_in_mark-clause-part : goal.returns-then-ends_in_mark-clause-part
returns-then-ends_in_mark-clause-part g c =
    let text = c.loop-count.part.items in
    let b = get_or c.read.new.buf 0 0 in
    let room = c.loop-count.invariant.room in
    let kept = c.read.auto.buf in
    let pushed : c.push.new.self.items ≡ text ++ b ∷ [] = c.in-Ok-push.ensures.items in
    let ends : EndsInMark (text ++ b ∷ []) =
    subst EndsInMark (c.as_slice-in-loop-count.ensures.value ∙ pushed) (c.if-ends_in_mark.ensures.0 refl) in
    let counted = c.len-then-ends_in_mark.ensures in
    let same : c.len-then-ends_in_mark.result - 3 ≡ length c.push.new.self.items - 3 = omega (arith, counted) in
    let part =
    c.truncate-then-ends_in_mark.ensures.items
    ∙ (ap (λ (n : ℕ). take n c.push.new.self.items) same
    ∙ ap (λ (t : List ℕ). take (length t - 3) t) pushed) in
    let read = read_one (g.I.Input.rest c.args.input.now) (g.I.Input.rest c.loop-count.input) (g.I.Input.rest c.read.new.self) text c.read.new.buf
    c.in-Ok.count c.loop-count.invariant.read c.in-Ok.ensures.given c.in-Ok.ensures.taken (omega (arith, room, kept)) c.in-Ok.ensures.bound
    c.if-count-eq0.false in
    known (g.I.Input.rest c.args.input.now) (g.I.Input.rest c.read.new.self) (text ++ b ∷ []) _ read
    (λ after is. (after, is, ended_by_mark text b _ after c.loop-count.invariant.unmarked ends part))

pub loop-count-preserved : goal.loop-count-preserved
loop-count-preserved g c =
    let text = c.loop-count.part.items in
    let b = get_or c.read.new.buf 0 0 in
    let room = c.loop-count.invariant.room in
    let kept = c.read.auto.buf in
    let pushed : c.push.new.self.items ≡ text ++ b ∷ [] = c.in-Ok-push.ensures.items in
    let read = read_one (g.I.Input.rest c.args.input.now) (g.I.Input.rest c.loop-count.input) (g.I.Input.rest c.read.new.self) text c.read.new.buf
    c.in-Ok.count c.loop-count.invariant.read c.in-Ok.ensures.given c.in-Ok.ensures.taken (omega (arith, room, kept)) c.in-Ok.ensures.bound
    c.if-count-eq0.false in
    record {
      few = search rules;
      room = omega (arith, room, kept);
      read = read ∙ ap (λ (t : List ℕ). prepended t (g.I.Input.rest c.read.new.self)) (sym pushed);
      counted = c.in-Ok.ensures.counted ∙ c.loop-count.invariant.counted;
      unmarked = subst IsUnmarked (sym pushed)
          (unmarked_more text b c.loop-count.invariant.unmarked
          (λ ends. let w : false ≡ true = c.if-ends_in_mark.ensures.1 (subst EndsInMark (sym (c.as_slice-in-loop-count.ensures.value ∙ pushed)) ends) in cc));
    }

pub returns-in_default-clause-taken : goal.returns-in_default-clause-taken
returns-in_default-clause-taken g c =
    let few = c.loop-count.invariant.few in
    takes_text (g.I.Input.rest c.args.input.now) (g.I.Input.rest c.loop-count.input) _ c.loop-count.part.items _
    c.loop-count.invariant.read c.in_default.ensures.fault.0 (omega (arith, few))

pub returns-then-count-eq0-clause-taken : goal.returns-then-count-eq0-clause-taken
returns-then-count-eq0-clause-taken g c =
    let few = c.loop-count.invariant.few in
    takes_text (g.I.Input.rest c.args.input.now) (g.I.Input.rest c.loop-count.input) _ c.loop-count.part.items _ c.loop-count.invariant.read
    (c.in-Ok.ensures.taken ∙ none_dropped (g.I.Input.rest c.loop-count.input) c.in-Ok.count c.if-count-eq0.true) (omega (arith, few))

pub returns-then-count-eq0-clause-within : goal.returns-then-count-eq0-clause-within
returns-then-count-eq0-clause-within g c =
    let few = c.loop-count.invariant.few in
    takes_text (g.I.Input.rest c.args.input.now) (g.I.Input.rest c.loop-count.input) _ c.loop-count.part.items _ c.loop-count.invariant.read
    (c.in-Ok.ensures.taken ∙ none_dropped (g.I.Input.rest c.loop-count.input) c.in-Ok.count c.if-count-eq0.true) (omega (arith, few))

pub returns-then-len-gt-MAX_INPUT-clause-taken : goal.returns-then-len-gt-MAX_INPUT-clause-taken
returns-then-len-gt-MAX_INPUT-clause-taken g c =
    let text = c.loop-count.part.items in
    let b = get_or c.read.new.buf 0 0 in
    let few = c.loop-count.invariant.few in
    let room = c.loop-count.invariant.room in
    let kept = c.read.auto.buf in
    let size = length-append text (b ∷ []) in
    let read = read_one (g.I.Input.rest c.args.input.now) (g.I.Input.rest c.loop-count.input) (g.I.Input.rest c.read.new.self) text c.read.new.buf
    c.in-Ok.count c.loop-count.invariant.read c.in-Ok.ensures.given c.in-Ok.ensures.taken (omega (arith, room, kept)) c.in-Ok.ensures.bound
    c.if-count-eq0.false in
    (text ++ b ∷ [], omega (arith, few, size), read)

pub returns-then-ends_in_mark-clause-taken : goal.returns-then-ends_in_mark-clause-taken
returns-then-ends_in_mark-clause-taken g c =
    let text = c.loop-count.part.items in
    let b = get_or c.read.new.buf 0 0 in
    let few = c.loop-count.invariant.few in
    let room = c.loop-count.invariant.room in
    let kept = c.read.auto.buf in
    let size = length-append text (b ∷ []) in
    let read = read_one (g.I.Input.rest c.args.input.now) (g.I.Input.rest c.loop-count.input) (g.I.Input.rest c.read.new.self) text c.read.new.buf
    c.in-Ok.count c.loop-count.invariant.read c.in-Ok.ensures.given c.in-Ok.ensures.taken (omega (arith, room, kept)) c.in-Ok.ensures.bound
    c.if-count-eq0.false in
    (text ++ b ∷ [], omega (arith, few, size), read)

pub returns-then-ends_in_mark-clause-within : goal.returns-then-ends_in_mark-clause-within
returns-then-ends_in_mark-clause-within g c =
    let text = c.loop-count.part.items in
    let b = get_or c.read.new.buf 0 0 in
    let room = c.loop-count.invariant.room in
    let kept = c.read.auto.buf in
    let more = ap (λ (t : List ℕ). length t) c.in-Ok-push.ensures.items in
    let short = c.if-len-gt-MAX_INPUT.false in
    let counted = c.len.ensures in
    let read = read_one (g.I.Input.rest c.args.input.now) (g.I.Input.rest c.loop-count.input) (g.I.Input.rest c.read.new.self) text c.read.new.buf
    c.in-Ok.count c.loop-count.invariant.read c.in-Ok.ensures.given c.in-Ok.ensures.taken (omega (arith, room, kept)) c.in-Ok.ensures.bound
    c.if-count-eq0.false in
    (text ++ b ∷ [], omega (arith, more, short, counted), read)

pub returns-in_default-push-clause-taken : goal.returns-in_default-push-clause-taken
returns-in_default-push-clause-taken g c =
    let text = c.loop-count.part.items in
    let b = get_or c.read.new.buf 0 0 in
    let few = c.loop-count.invariant.few in
    let room = c.loop-count.invariant.room in
    let kept = c.read.auto.buf in
    let size = length-append text (b ∷ []) in
    let read = read_one (g.I.Input.rest c.args.input.now) (g.I.Input.rest c.loop-count.input) (g.I.Input.rest c.read.new.self) text c.read.new.buf
    c.in-Ok.count c.loop-count.invariant.read c.in-Ok.ensures.given c.in-Ok.ensures.taken (omega (arith, room, kept)) c.in-Ok.ensures.bound
    c.if-count-eq0.false in
    (text ++ b ∷ [], omega (arith, few, size), read)
