use Rattle.std.proofs.Common.{◌≡◌, ◌∷◌, ◌∙◌, ◌-◌, suc, length, ap, sym, subst, refl, arith}
use Rattle.std.proofs.lemmas.Result.{err_from_is_err_and}
use Rattle.pb_lexer.specs.declared.token.Mark.TheVariants as mark
use Rattle.pb_lexer.specs.Tokens.{token, tokens}
use Rattle.pb_tree.specs.Syntax.{no_stmt, no_arm}
use Rattle.pb_grammar.specs.Lists.{append, append_arms, single_arm}
use Rattle.pb_grammar.specs.StatementReader.{statement, statement_by, an_arm}
use Rattle.pb_grammar.specs.Making.{Adds}
use Rattle.pb_grammar.proofs.Chains.{fails_through, fails_through_plain, made}
use Rattle.pb_grammar.proofs.Loops.{loop_more, loop_fails, loop_leaves, adds_more, stmts_assoc, append_empty}
use Rattle.pb_grammar.proofs.Loops.{arm_refused, statement_shorter, statement_first, statement_none, statement_zero}
use Rattle.pb_grammar.proofs.Steps.{if_else_steps, if_else_open, while_do_steps, hold_steps, parbegin_steps, no_else}
use Rattle.pb_grammar.proofs.Steps.{list_enter, list_refused, arm_found, arms_enter, arms_refused}
use Rattle.pb_grammar.proofs.parser.Parser.+statement.Goals as goal

pub arms-returns-in_err-statement : goal.arms-returns-in_err-statement
arms-returns-in_err-statement g t c =
    let p = err_from_is_err_and c.from_residual-in_err-statement.result c.from_residual-in_err-statement.ensures.1 in
    rw (p.1, p.2) (fails_through g.B.Builder.wants _ c.in_err-statement.ensures (arms_refused _ _))

pub arms-loop-self-init : goal.arms-loop-self-init
arms-loop-self-init g t c =
    let f = c.in_ok-statement.ensures in
    arms_enter _ _ _ f.syntax f.found
    (c.in_ok-add_arm.ensures.made f.syntax (f.same no_stmt c.in_ok-body.ensures.made) no_arm c.in_ok-found.ensures.made)

pub arms-returns-in_err-statement-2 : goal.arms-returns-in_err-statement-2
arms-returns-in_err-statement-2 g t c =
    let p = err_from_is_err_and c.from_residual-in_err-statement-2.result c.from_residual-in_err-statement-2.ensures.1 in
    rw (p.1, p.2) (fails_through g.B.Builder.wants _ c.in_err-statement-2.ensures
    (λ none. loop_fails mark.Semicolon append_arms (an_arm (statement c.args.depth)) _ _ _ c.loop-self.invariant
    c.loop-self-test.ensures (arm_refused _ _ none)))

pub arms-loop-self-smaller : goal.arms-loop-self-smaller
arms-loop-self-smaller g t c =
    let taken = c.loop-self-test.ensures in
    let e = ap length taken.1 in
    let less = statement_shorter _ _ _ _ c.in_ok-statement-2.ensures.found in
    omega (arith, e, less)

pub arms-loop-self-preserved : goal.arms-loop-self-preserved
arms-loop-self-preserved g t c =
    let f = c.in_ok-statement-2.ensures in
    let body = f.same no_stmt c.in_ok-another.ensures.made in
    loop_more mark.Semicolon append_arms (an_arm (statement c.args.depth)) _ _ _ _ (single_arm f.syntax) c.loop-self.invariant c.loop-self-test.ensures
    (arm_found _ _ _ f.syntax f.found) (statement_shorter _ _ _ f.syntax f.found) (c.in_ok-add_arm-2.ensures.made f.syntax body)

pub arms-returns : goal.arms-returns
arms-returns g t c = loop_leaves mark.Semicolon append_arms (an_arm (statement c.args.depth)) _ _ _ c.loop-self.invariant c.loop-self-test.ensures

pub body-returns : goal.body-returns
body-returns g t c =
    let f = c.in_ok-list.ensures in
    record { syntax = f.syntax; found = f.found; same = f.same no_stmt c.in_ok-out.ensures.made }

pub if_else-returns-in_err-expect-2 : goal.if_else-returns-in_err-expect-2
if_else-returns-in_err-expect-2 g t c =
    let p = err_from_is_err_and c.from_residual-in_err-expect-2.result c.from_residual-in_err-expect-2.ensures.1 in
    rw (p.1, p.2) (fails_through_plain g.B.Builder.wants _ c.in_err-expect-2.ensures (if_else_open _ _ _ _ _ _ _ _ _ _ _
    c.in_ok-test.ensures.found c.in_ok-expect.ensures c.in_ok-on_true.ensures.found c.in_ok-on_false.ensures.found))

pub if_else-returns : goal.if_else-returns
if_else-returns g t c =
    let e = c.in_ok-test.ensures in
    let a = c.in_ok-on_true.ensures in
    let b = c.in_ok-on_false.ensures in
    made (λ _. Adds g.B.Builder.is_stmts append c.args.out.now c.if_else.new.out) g.B.Builder.wants _ _ _ _ _
    (if_else_steps _ _ _ _ _ _ _ _ _ e.syntax a.syntax b.syntax e.found c.in_ok-expect.ensures a.found b.found c.in_ok-expect-2.ensures)
    (c.if_else.ensures.made e.syntax a.syntax b.syntax e.same a.same b.same) c.if_else.ensures.fault c.built.ensures.made c.built.ensures.fault

pub while_do-returns : goal.while_do-returns
while_do-returns g t c =
    let e = c.in_ok-test.ensures in
    let a = c.in_ok-body.ensures in
    made (λ _. Adds g.B.Builder.is_stmts append c.args.out.now c.while_do.new.out) g.B.Builder.wants _ _ _ _ _
    (while_do_steps _ _ _ _ _ _ _ _ e.syntax a.syntax e.found c.in_ok-expect.ensures a.found c.in_ok-expect-2.ensures)
    (c.while_do.ensures.made e.syntax a.syntax e.same a.same) c.while_do.ensures.fault c.built.ensures.made c.built.ensures.fault

pub hold-returns : goal.hold-returns
hold-returns g t c =
    let ds = c.in_ok-demands.ensures in
    let a = c.in_ok-body.ensures in
    made (λ _. Adds g.B.Builder.is_stmts append c.args.out.now c.hold.new.out) g.B.Builder.wants _ _ _ _ _
    (hold_steps _ _ _ _ _ _ _ ds.syntax a.syntax ds.found c.in_ok-expect.ensures a.found c.in_ok-expect-2.ensures)
    (c.hold.ensures.made ds.syntax a.syntax ds.same a.same) c.hold.ensures.fault c.built.ensures.made c.built.ensures.fault

pub parbegin-returns : goal.parbegin-returns
parbegin-returns g t c =
    let a = c.in_ok-arms.ensures in
    made (λ _. Adds g.B.Builder.is_stmts append c.args.out.now c.parbegin.new.out) g.B.Builder.wants _ _ _ _ _
    (parbegin_steps _ _ _ _ _ a.syntax a.found c.in_ok-expect.ensures)
    (c.parbegin.ensures.made a.syntax a.same) c.parbegin.ensures.fault c.built.ensures.made c.built.ensures.fault

pub otherwise-returns-else-eat : goal.otherwise-returns-else-eat
otherwise-returns-else-eat g t c =
    made g.B.Builder.is_stmts g.B.Builder.wants _ _ _ _ _ (no_else _ _ _ _ c.if-eat.false c.eat.ensures)
    c.no_stmts.ensures.made c.no_stmts.ensures.fault c.built.ensures.made c.built.ensures.fault

pub list-returns-in_err-statement : goal.list-returns-in_err-statement
list-returns-in_err-statement g t c =
    let p = err_from_is_err_and c.from_residual.result c.from_residual.ensures.1 in
    rw (p.1, p.2) (fails_through g.B.Builder.wants _ c.in_err-statement.ensures (list_refused _ _))

pub list-loop-self-init : goal.list-loop-self-init
list-loop-self-init g t c = let f = c.in_ok-statement.ensures in list_enter _ _ _ f.syntax f.found f.same

pub list-loop-self-smaller : goal.list-loop-self-smaller
list-loop-self-smaller g t c =
    let taken = c.loop-self-test.ensures in
    let e = ap length taken.1 in
    let less = statement_shorter _ _ _ _ c.in_ok-statement-2.ensures.found in
    omega (arith, e, less)

pub list-loop-self-preserved : goal.list-loop-self-preserved
list-loop-self-preserved g t c =
    let f = c.in_ok-statement-2.ensures in
    loop_more mark.Semicolon append (statement c.args.depth) _ _ _ _ f.syntax c.loop-self.invariant c.loop-self-test.ensures f.found
    (statement_shorter _ _ _ f.syntax f.found) (λ a h. adds_more g.B.Builder.is_stmts append stmts_assoc _ _ _ a f.syntax h f.same)

pub list-returns-in_err-statement-2 : goal.list-returns-in_err-statement-2
list-returns-in_err-statement-2 g t c =
    let p = err_from_is_err_and c.from_residual-in_err-statement-2.result c.from_residual-in_err-statement-2.ensures.1 in
    rw (p.1, p.2) (fails_through g.B.Builder.wants _ c.in_err-statement-2.ensures
    (λ none. loop_fails mark.Semicolon append (statement c.args.depth) _ _ _ c.loop-self.invariant c.loop-self-test.ensures none))

pub list-returns : goal.list-returns
list-returns g t c = loop_leaves mark.Semicolon append (statement c.args.depth) _ _ _ c.loop-self.invariant c.loop-self-test.ensures

pub after_first-returns-in-Mark-Skip : goal.after_first-returns-in-Mark-Skip
after_first-returns-in-Mark-Skip g t c =
    let s = rw c.in-Mark-Skip.is at c.in-Mark-Skip.field-0-is in
    record { syntax = no_stmt; found = rw (c.in-Mark-Skip.is, s) refl; same = λ before h. subst (g.B.Builder.is_stmts _) (sym (append_empty before)) h }

pub statement-returns-then-depth-eq0 : goal.statement-returns-then-depth-eq0
statement-returns-then-depth-eq0 g t c = rw c.fault.ensures.1 (statement_zero c.args.depth _ c.if-depth-eq0.true)

pub statement-returns-in_default : goal.statement-returns-in_default
statement-returns-in_default g t c = rw c.fault-in_default.ensures.1 (statement_none c.args.depth _ c.in_default.ensures)

pub statement-returns : goal.statement-returns
statement-returns g t c =
    let first = c.in-Some.ensures in
    let moved = c.advance.ensures (token c.in-Some.next) first.0 first.1 in
    let deep : c.args.depth ≡ suc (c.args.depth - 1) = omega arith in
    let ahead = first.1 ∙ ap (λ r. token c.in-Some.next ∷ r) (sym moved) in
    let whole = ap (λ n. statement n (tokens c.args.self.now.rest.now)) deep
    ∙ statement_first (c.args.depth - 1) (token c.in-Some.next) (tokens c.args.self.now.rest.now) (tokens c.advance.new.self.rest.now) ahead
    ∙ ap (λ k. statement_by (c.args.depth - 1) (statement (c.args.depth - 1)) (token c.in-Some.next) k (tokens
    c.advance.new.self.rest.now)) (sym c.kind.ensures) in
    rw whole c.after_first.ensures
