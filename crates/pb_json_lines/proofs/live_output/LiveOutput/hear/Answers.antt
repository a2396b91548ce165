use Rattle.std.proofs.Common.{◌≡◌, ◌++◌, refl, rules, sym, ap, ◌∙◌, drop, Some, append-nil}
use Rattle.pb_base.proofs.Lists.{take_behind}
use Rattle.pb_json_lines.specs.declared.telling.Telling.TheVariants.{Whole}
use Rattle.pb_json_lines.specs.Live.{LiveSink}
use Rattle.pb_json_lines.proofs.LiveLemmas.{live_with_failure, live_with_lines, live_with_rest, live_without_memory}
use Rattle.pb_json_lines.proofs.live_output.LiveOutput.hear.Goals as goal

pub invariant_of-self-then-is_err : goal.invariant_of-self-then-is_err
invariant_of-self-then-is_err g c =
    let is : c.self.inside.dialect ≡ Some c.args.dialect = ap (λ (s : LiveSink). s.dialect) c.self.view_is ∙ c.requires in
    let whole : c.self.inside.telling ≡ Whole = search rules in
    let unheard : c.extend_from_slice.new.self.items ≡ c.self.inside.heard.items = search rules in
    live_without_memory c.args.dialect c.self.inside.dialect c.self.inside.heard.items _ c.extend_from_slice.new.self.items _ c.self.inside.told
    c.self.inside.telling (g.O.Output.written c.self.inside.inner) c.self.inside.writes c.self.invariant is whole
    (unheard ∙ sym (append-nil c.self.inside.heard.items)) refl

pub invariant_of-self-in-Whole : goal.invariant_of-self-in-Whole
invariant_of-self-in-Whole g c =
    let is : c.self.inside.dialect ≡ Some c.args.dialect = ap (λ (s : LiveSink). s.dialect) c.self.view_is ∙ c.requires in
    let whole : c.self.inside.telling ≡ Whole = search rules in
    let heard : c.extend_from_slice.new.self.items ≡ c.self.inside.heard.items ++ c.args.bytes.now = search rules in
    live_with_lines c.args.dialect c.self.inside.dialect c.self.inside.heard.items c.args.bytes.now c.extend_from_slice.new.self.items _ c.self.inside.told
    c.self.inside.telling (g.O.Output.written c.self.inside.inner) c.self.inside.writes c.self.invariant is whole heard
    (take_behind c.deref.result.now c.self.inside.told ∙ ap (drop c.self.inside.told) c.deref.ensures.value) c.tell_ended-told.result.telling _ c.tell_ended-told.result.count
    c.in-Whole.is (c.tell_ended-told.ensures.within c.in-Whole.is) (c.tell_ended-told.ensures.ended c.in-Whole.is) (c.tell_ended-told.ensures.told c.in-Whole.is)

pub invariant_of-self-in-Failed : goal.invariant_of-self-in-Failed
invariant_of-self-in-Failed g c =
    let is : c.self.inside.dialect ≡ Some c.args.dialect = ap (λ (s : LiveSink). s.dialect) c.self.view_is ∙ c.requires in
    let whole : c.self.inside.telling ≡ Whole = search rules in
    let heard : c.extend_from_slice.new.self.items ≡ c.self.inside.heard.items ++ c.args.bytes.now = search rules in
    live_with_failure c.args.dialect c.self.inside.dialect c.self.inside.heard.items c.args.bytes.now c.extend_from_slice.new.self.items _ c.self.inside.told
    c.self.inside.telling (g.O.Output.written c.self.inside.inner) c.self.inside.writes c.self.invariant is whole heard
    (take_behind c.deref.result.now c.self.inside.told ∙ ap (drop c.self.inside.told) c.deref.ensures.value) c.tell_ended-told.result.telling _ _ c.in-Failed.is
    (search rules) (c.tell_ended-told.ensures.broken (λ w. let e = sym c.in-Failed.is ∙ w in cc))

pub invariant_of-self-in-NoMemory : goal.invariant_of-self-in-NoMemory
invariant_of-self-in-NoMemory g c =
    let is : c.self.inside.dialect ≡ Some c.args.dialect = ap (λ (s : LiveSink). s.dialect) c.self.view_is ∙ c.requires in
    let whole : c.self.inside.telling ≡ Whole = search rules in
    let heard : c.extend_from_slice.new.self.items ≡ c.self.inside.heard.items ++ c.args.bytes.now = search rules in
    live_with_rest c.args.dialect c.self.inside.dialect c.self.inside.heard.items c.args.bytes.now c.extend_from_slice.new.self.items _ c.self.inside.told
    c.self.inside.telling (g.O.Output.written c.self.inside.inner) c.self.inside.writes c.self.invariant is whole heard
    (take_behind c.deref.result.now c.self.inside.told ∙ ap (drop c.self.inside.told) c.deref.ensures.value) c.tell_ended-told.result.telling _ c.in-NoMemory.is
    (c.tell_ended-told.ensures.broken (λ w. let e = sym c.in-NoMemory.is ∙ w in cc))
