use Rattle.std.proofs.Common.{◌∙◌, sym}
use Rattle.pb_code.specs.Names.{is_name}
use Rattle.pb_object.proofs.WordTurns.{from_here, from_end, not_all, all_on, all_none}
use Rattle.pb_object.proofs.line_reader.are_names.Goals as goal

pub returns-then-not-is_name : goal.returns-then-not-is_name
returns-then-not-is_name c =
    let here = from_here (λ w. w.now) c.args.words.now c.loop-word.word-index _ c.loop-word-test.true in
    sym (c.loop-word.invariant ∙ not_all is_name _ _ _ here (sym c.is_name.ensures.test ∙ c.if-not-is_name.true))

pub loop-word-preserved : goal.loop-word-preserved
loop-word-preserved c =
    let here = from_here (λ w. w.now) c.args.words.now c.loop-word.word-index _ c.loop-word-test.true in
    c.loop-word.invariant ∙ all_on is_name _ _ _ here (sym c.is_name.ensures.test ∙ c.if-not-is_name.false)

pub returns : goal.returns
returns c =
    sym (c.loop-word.invariant ∙ all_none is_name _ (from_end (λ w. w.now) c.args.words.now c.loop-word.word-index c.loop-word-test.false))
