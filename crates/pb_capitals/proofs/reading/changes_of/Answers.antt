use Rattle.std.proofs.Common.{◌≡◌, ◌∙◌, true, false, List, [], ◌∷◌, ◌++◌, Bor, arith, get_or, map, subst, sym, ap, take}
use Rattle.std.proofs.lemmas.List.{length-map, take-map}
use Rattle.std.proofs.lemmas.Slice.Zip.{AllZip-long}
use Rattle.pb_capitals.specs.Changes.{AreChanges, IsChange, Word, changes_in, names}
use Rattle.pb_capitals.specs.declared.change.Change.{Change as AnyChange}
use Rattle.pb_capitals.proofs.ReadingLemmas.{as_long, none_at, none_of, one_more, text_at, texts_more, twice_at}
use Rattle.pb_capitals.proofs.reading.changes_of.Goals as goal

pub returns-in_err-change-clause-none : goal.returns-in_err-change-clause-none
returns-in_err-change-clause-none c =
    let words = c.args.words.now in
    let long = length-map words (λ (word : Bor Word). word.now) in
    let within = c.loop-word-test.true in
    none_of c.from_residual.result c.from_residual.ensures
    (λ changes all. none_at (map (λ (word : Bor Word). word.now) words) c.loop-word.word-index _ changes
    (record { resource = record { bytes = []; spare = [] }; capital = 0; small = omega arith }) all
    (omega (arith, long, within)) (text_at words c.loop-word.word-index _ within) c.in_err-change.ensures.none)

pub returns-then-is_named-clause-none : goal.returns-then-is_named-clause-none
returns-then-is_named-clause-none c changes all =
    let words = c.args.words.now in
    let k = c.loop-word.word-index in
    let long = length-map words (λ (word : Bor Word). word.now) in
    let within = c.loop-word-test.true in
    let before = changes_in c.loop-word.changes in
    let named : names before c.in_ok-change.change.resource.bytes ≡ true =
    sym (c.is_named.ensures ∙ ap (λ (cs : List AnyChange). names cs c.as_str.result.now) c.as_slice.ensures
    ∙ ap (names before) c.as_str.ensures.value) ∙ c.if-is_named.true in
    twice_at (map (λ (word : Bor Word). word.now) words) k _ before c.in_ok-change.change changes
    (subst (λ (ws : List Word). AreChanges ws before) (sym (take-map (λ (word : Bor Word). word.now) k words)) c.loop-word.invariant)
    c.in_ok-change.ensures.some named (omega (arith, long, within)) (text_at words k _ within) all

pub push-requires : goal.push-requires
push-requires c =
    let few = c.if-words-gt-MAX_RESOURCES.false in
    let within = c.loop-word-test.true in
    let long = as_long c.args.words.now c.loop-word.word-index within in
    let both = AllZip-long IsChange _ (changes_in c.loop-word.changes) c.loop-word.invariant.each in
    omega (arith, few, within, long, both)

pub loop-word-preserved : goal.loop-word-preserved
loop-word-preserved c =
    let words = c.args.words.now in
    let k = c.loop-word.word-index in
    let before = changes_in c.loop-word.changes in
    let few = c.if-words-gt-MAX_RESOURCES.false in
    let within = c.loop-word-test.true in
    let long = as_long words k within in
    let new : names before c.in_ok-change.change.resource.bytes ≡ false =
    sym (c.is_named.ensures ∙ ap (λ (cs : List AnyChange). names cs c.as_str.result.now) c.as_slice.ensures
    ∙ ap (names before) c.as_str.ensures.value) ∙ c.if-is_named.false in
    let none : Bor Word = record { ref_ptr = (0, 0); now = [] } in
    let texts = map (λ (word : Bor Word). word.now) (take k words) in
    let text = (get_or words k none).now in
    subst (λ (ws : List Word). AreChanges ws (changes_in c.push.new.self)) (sym (texts_more words k none within))
    (subst (λ (cs : List AnyChange). AreChanges (texts ++ text ∷ []) cs) (sym c.push.ensures)
    (one_more texts text before c.in_ok-change.change
    c.loop-word.invariant (omega (arith, few, within, long)) c.in_ok-change.ensures.some new))
