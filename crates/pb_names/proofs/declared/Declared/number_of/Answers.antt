use Rattle.std.proofs.Common.{◌≡◌, ◌-◌, length, arith, ap, sym, ◌∙◌, refl, subst, Some}
use Rattle.std.specs.Cmp.Lexicographic.{same_text, other_text}
use Rattle.std.proofs.lemmas.List.{length-map}
use Rattle.pb_names.specs.Index.{IsLinked}
use Rattle.pb_names.specs.Search.{names_in}
use Rattle.pb_base.proofs.Lists.{view_read}
use Rattle.pb_names.proofs.NameIndexes.{reached_next, reached_end}
use Rattle.pb_names.proofs.declared.Declared.number_of.Goals as goal

pub returns-then-eq : goal.returns-then-eq
returns-then-eq g c =
    let xs = c.args.self.now.texts.items in
    let read =
    view_read (λ text. text.now) xs xs c.loop-i.i c.index.result.now refl (omega arith) c.index.ensures in
    let same = same_text _ _ (sym c.if-eq.true ∙ c.eq.ensures) in
    (read ∙ ap Some same, c.loop-i.invariant.none)

pub loop-i-smaller : goal.loop-i-smaller
loop-i-smaller g c =
    let names = c.args.self.now in
    let xs = names.texts.items in
    let read =
    view_read (λ text. text.now) xs xs c.loop-i.i c.index.result.now refl (omega arith) c.index.ensures in
    let greatest : length names.first_of.items - 1 ≡ c.len-greatest.result - 1 = omega arith in
    let linked =
    subst (λ n. IsLinked (names_in names) n 0 names.first_of.items names.next_of.items) greatest names.linked in
    let other = other_text _ _ (sym c.if-eq.false ∙ c.eq.ensures) in
    let next =
    reached_next (names_in names) c.args.name.now _ _ _ _ _ _ read other c.index-i-in-loop-i.ensures
    linked c.loop-i.invariant in
    omega (arith, next.0, length-map xs (λ text. text.now))

pub loop-i-preserved : goal.loop-i-preserved
loop-i-preserved g c =
    let names = c.args.self.now in
    let xs = names.texts.items in
    let read =
    view_read (λ text. text.now) xs xs c.loop-i.i c.index.result.now refl (omega arith) c.index.ensures in
    let greatest : length names.first_of.items - 1 ≡ c.len-greatest.result - 1 = omega arith in
    let linked =
    subst (λ n. IsLinked (names_in names) n 0 names.first_of.items names.next_of.items) greatest names.linked in
    let other = other_text _ _ (sym c.if-eq.false ∙ c.eq.ensures) in
    let next =
    reached_next (names_in names) c.args.name.now _ _ _ _ _ _ read other c.index-i-in-loop-i.ensures
    linked c.loop-i.invariant in
    next.1

pub returns : goal.returns
returns g c =
    let xs = c.args.self.now.texts.items in
    reached_end (names_in c.args.self.now) c.args.name.now _ c.loop-i.i
    (omega (arith, length-map xs (λ text. text.now))) c.loop-i.invariant
