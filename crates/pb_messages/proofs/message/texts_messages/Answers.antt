use Rattle.std.proofs.Common.{◌≡◌, ◌+◌, List, ℕ, arith, subst, sym}
use Rattle.pb_messages.proofs.SaidLemmas.{cut_shorter, none_told, said_all, some_told}
use Rattle.pb_messages.specs.Said.{AreSaid, IsLastLabel, SaysMore, first, more, none, text_label}
use Rattle.pb_messages.proofs.message.texts_messages.Goals as goal

pub loop-out-init : goal.loop-out-init
loop-out-init c = (
  subst (λ (told : List ℕ). AreSaid c.args.bytes.now 1 c.args.bytes.now told) (sym c.new-out.ensures.items) none,
  grind arith,
)

pub loop-out-preserved : goal.loop-out-preserved
loop-out-preserved c =
    let cut = rw c.in-Some.is at c.first_part-cut.ensures.marked in
    let label = c.in_ok-label.ensures.earlier (some_told c.is_none.result (rw c.in-Some.is at c.is_none.ensures)) in
    let named = subst (λ (l : List ℕ). l ≡ text_label c.loop-out.number) (sym c.as_str.ensures.value) label in
    let says = subst (λ (l : List ℕ). SaysMore l c.first_part-cut.result.part.now c.loop-out.out.items c.tell_text.new.out.items)
    named c.in_ok-tell_text.ensures in
    let shorter = cut_shorter c.loop-out.rest.now c.first_part-cut.result.part.now c.in-Some.more.now cut in
    let within = c.loop-out.invariant.1 in
    let size = c.requires in
    let counted = c.saturating_add-number.ensures in
    let next : c.saturating_add-number.result ≡ c.loop-out.number + 1 = omega (arith, counted, within, shorter, size) in (
      subst (λ (n : ℕ). AreSaid c.args.bytes.now n c.in-Some.more.now c.tell_text.new.out.items) (sym next)
          (more c.loop-out.number _ _ c.first_part-cut.result.part.now _ _ c.loop-out.invariant.0 cut says),
      omega (arith, next, within, shorter),
    )

pub returns-in_default : goal.returns-in_default
returns-in_default c =
    let whole = rw c.in_default.is at c.first_part-cut.ensures.whole in
    let last = c.in_ok-label.ensures.last (none_told c.is_none.result (rw c.in_default.is at c.is_none.ensures)) in
    let label = subst (λ (l : List ℕ). IsLastLabel c.loop-out.number l) (sym c.as_str.ensures.value) last in
    said_all _ c.loop-out.number c.as_str.result.now c.loop-out.rest.now c.first_part-cut.result.part.now _ _
    c.loop-out.invariant.0 whole.0 whole.1 label c.in_ok-tell_text.ensures

pub returns-then-len-gt-MANY_BYTES : goal.returns-then-len-gt-MANY_BYTES
returns-then-len-gt-MANY_BYTES c =
    let cut = rw c.in-Some.is at c.first_part-cut.ensures.marked in
    let label = c.in_ok-label.ensures.earlier (some_told c.is_none.result (rw c.in-Some.is at c.is_none.ensures)) in
    let named = subst (λ (l : List ℕ). l ≡ text_label c.loop-out.number) (sym c.as_str.ensures.value) label in
    let says = subst (λ (l : List ℕ). SaysMore l c.first_part-cut.result.part.now c.loop-out.out.items c.tell_text.new.out.items)
    named c.in_ok-tell_text.ensures in
    let said = more c.loop-out.number _ _ c.first_part-cut.result.part.now _ _ c.loop-out.invariant.0 cut says in
    let long = c.if-len-gt-MANY_BYTES.true in
    let counted = c.len.ensures in
    first (c.loop-out.number + 1) c.in-Some.more.now c.tell_text.new.out.items said (omega (arith, long, counted))
