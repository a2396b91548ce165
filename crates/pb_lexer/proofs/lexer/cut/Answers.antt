use Rattle.std.proofs.Common.{refl, sym}
use Rattle.std.proofs.lemmas.Result.{err_from_is_err_and}
use Rattle.pb_lexer.proofs.LexLoop.{lexed_start, blank_feed, blank_other, comment_there, comment_over}
use Rattle.pb_lexer.proofs.LexLoop.{token_over, tokens_more, fault_here, fault_in_comment}
use Rattle.pb_lexer.proofs.lexer.cut.Goals as goal

pub loop-at-init : goal.loop-at-init
loop-at-init g c = rw c.in_ok-tokens.ensures.items (lexed_start _)

pub loop-at-preserved-then-byte-eq10 : goal.loop-at-preserved-then-byte-eq10
loop-at-preserved-then-byte-eq10 g c =
    blank_feed _ _ _ _ c.loop-at.invariant c.loop-at-test.true c.if-byte-eq10.true

pub loop-at-preserved-then-is_blank : goal.loop-at-preserved-then-is_blank
loop-at-preserved-then-is_blank g c =
    let l = c.loop-at in
    blank_other _ _ _ _ l.invariant c.loop-at-test.true (sym c.if-is_blank.ensures) c.if-byte-eq10.false

pub returns-in-Some-clause-fault : goal.returns-in-Some-clause-fault
returns-in-Some-clause-fault g c =
    let l = c.loop-at in
    let line = c.line_end-end.ensures in
    let begins = c.if-begins_comment.ensures.yes refl in
    let bad = c.in-Some.ensures in
    fault_in_comment _ l.at _ _ _ _ l.invariant c.if-text-gt-MAX_TEXT.false
    (comment_there _ _ _ begins line.within line.each line.stops) bad.0 bad.1 bad.2 bad.3

pub loop-at-preserved-then-begins_comment : goal.loop-at-preserved-then-begins_comment
loop-at-preserved-then-begins_comment g c =
    let l = c.loop-at in
    let line = c.line_end-end.ensures in
    let begins = c.if-begins_comment.ensures.yes refl in
    comment_over _ l.at _ _ _ l.invariant
    (comment_there _ _ _ begins line.within line.each line.stops) c.in_default.ensures

pub returns-in_err-token-clause-fault : goal.returns-in_err-token-clause-fault
returns-in_err-token-clause-fault g c =
    let l = c.loop-at in
    let p = err_from_is_err_and c.from_residual-in_err-token.result c.from_residual-in_err-token.ensures.1 in
    let cause = c.in_err-token.ensures _ l.invariant.cut in
    rw (p.1, p.2) (fault_here _ l.at _ _ _ l.invariant c.if-text-gt-MAX_TEXT.false cause)

pub loop-at-preserved : goal.loop-at-preserved
loop-at-preserved g c =
    let found = c.in_ok-token.ensures in
    rw (c.in_ok-push.ensures.items, tokens_more)
    (token_over _ _ _ _ _ _ c.loop-at.invariant found.0 found.1)

pub returns-then-text-gt-MAX_TEXT-clause-long : goal.returns-then-text-gt-MAX_TEXT-clause-long
returns-then-text-gt-MAX_TEXT-clause-long g c = search depth 0
