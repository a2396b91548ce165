use Rattle.std.proofs.Common.{◌∙◌, sym}
use Rattle.pb_object.proofs.WordTurns.{from_here, from_end, bad_number, beyond_number, more_number, no_numbers, all_read}
use Rattle.pb_object.proofs.line_reader.amounts.Goals as goal
use Rattle.pb_object.proofs.line_reader.amounts.Goals.{in-Beyond, in-Read+in_ok-push-in-Read}

pub returns-in-Malformed : goal.returns-in-Malformed
returns-in-Malformed c =
    sym (bad_number c.loop-word.beyond c.loop-word.amounts.items _ 1000000 _ _ _
    (from_here (λ w. w.now) c.args.words.now c.loop-word.word-index _ c.loop-word-test.true) c.loop-word.invariant
    (sym c.number.ensures.number ∙ c.in-Malformed.is))

pub loop-word-preserved : goal.loop-word-preserved
loop-word-preserved c =
    elim c.match-number.branch [
      | in-Beyond w ↦
          rw (w.amounts-is, w.beyond-is) (beyond_number c.loop-word.beyond c.loop-word.amounts.items _ 1000000 _ _ _
          (from_here (λ w. w.now) c.args.words.now c.loop-word.word-index _ c.loop-word-test.true)
          c.loop-word.invariant (sym c.number.ensures.number ∙ w.in-Beyond.is))
      | in-Read+in_ok-push-in-Read w ↦
          rw (w.amounts-is, w.beyond-is, w.in_ok-push-in-Read.ensures.items) (more_number c.loop-word.beyond c.loop-word.amounts.items _ 1000000 _ _ _ _
          (from_here (λ w. w.now) c.args.words.now c.loop-word.word-index _ c.loop-word-test.true)
          c.loop-word.invariant (sym c.number.ensures.number ∙ w.in-Read.is))
    ]

pub returns-then-beyond : goal.returns-then-beyond
returns-then-beyond c =
    let at_end = no_numbers c.loop-word.beyond c.loop-word.amounts.items _ 1000000 _ (from_end (λ w. w.now)
    c.args.words.now c.loop-word.word-index c.loop-word-test.false) c.loop-word.invariant in
    sym (rw c.if-beyond.true at at_end)

pub returns : goal.returns
returns c =
    let at_end = no_numbers c.loop-word.beyond c.loop-word.amounts.items _ 1000000 _ (from_end (λ w. w.now)
    c.args.words.now c.loop-word.word-index c.loop-word-test.false) c.loop-word.invariant in
    sym (all_read c.loop-word.beyond c.loop-word.amounts.items _ at_end c.if-beyond.false)
