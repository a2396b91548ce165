use Rattle.std.proofs.Common.{rules}
use Rattle.clap.specs.Words.{found_of, rows_of, subcommand_rows_of}
use Rattle.pb_words.proofs.ReadLemmas.{IfNone-of, no_check, no_debug, no_draw, no_emit, no_exec, no_explain, no_findings, no_outcomes, no_plan}
use Rattle.pb_words.proofs.ReadLemmas.{no_record, no_replay, no_run, no_states, nothing_read}
use Rattle.pb_words.proofs.read.read_matches.Goals as goal

pub returns-in_err-check_options-in-check-clause-none : goal.returns-in_err-check_options-in-check-clause-none
returns-in_err-check_options-in-check-clause-none c =
    IfNone-of c.from_residual-in_err-check_options-in-check.result
    (nothing_read (subcommand_rows_of c.args.matches.now) _ (rows_of (found_of c.in_ok-name.inner.now)) (search rules) c.in_ok-name.ensures.rows
    (no_check (rows_of (found_of c.in_ok-name.inner.now)) c.in_err-check_options-in-check.ensures.none))

pub returns-in_err-check_options-in-findings-clause-none : goal.returns-in_err-check_options-in-findings-clause-none
returns-in_err-check_options-in-findings-clause-none c =
    IfNone-of c.from_residual-in_err-check_options-in-findings.result
    (nothing_read (subcommand_rows_of c.args.matches.now) _ (rows_of (found_of c.in_ok-name.inner.now)) (search rules) c.in_ok-name.ensures.rows
    (no_findings (rows_of (found_of c.in_ok-name.inner.now)) c.in_err-check_options-in-findings.ensures.none))

pub returns-in_err-run_options-in-run-clause-none : goal.returns-in_err-run_options-in-run-clause-none
returns-in_err-run_options-in-run-clause-none c =
    IfNone-of c.from_residual-in_err-run_options-in-run.result
    (nothing_read (subcommand_rows_of c.args.matches.now) _ (rows_of (found_of c.in_ok-name.inner.now)) (search rules) c.in_ok-name.ensures.rows
    (no_run (rows_of (found_of c.in_ok-name.inner.now)) c.in_err-run_options-in-run.ensures.none))

pub returns-in_err-run_options-in-exec-clause-none : goal.returns-in_err-run_options-in-exec-clause-none
returns-in_err-run_options-in-exec-clause-none c =
    IfNone-of c.from_residual-in_err-run_options-in-exec.result
    (nothing_read (subcommand_rows_of c.args.matches.now) _ (rows_of (found_of c.in_ok-name.inner.now)) (search rules) c.in_ok-name.ensures.rows
    (no_exec (rows_of (found_of c.in_ok-name.inner.now)) c.in_err-run_options-in-exec.ensures.none))

pub returns-in_err-emit_options-in-emit-clause-none : goal.returns-in_err-emit_options-in-emit-clause-none
returns-in_err-emit_options-in-emit-clause-none c =
    IfNone-of c.from_residual-in_err-emit_options-in-emit.result
    (nothing_read (subcommand_rows_of c.args.matches.now) _ (rows_of (found_of c.in_ok-name.inner.now)) (search rules) c.in_ok-name.ensures.rows
    (no_emit (rows_of (found_of c.in_ok-name.inner.now)) c.in_err-emit_options-in-emit.ensures.none))

pub returns-in_err-record_options-in-record-clause-none : goal.returns-in_err-record_options-in-record-clause-none
returns-in_err-record_options-in-record-clause-none c =
    IfNone-of c.from_residual-in_err-record_options-in-record.result
    (nothing_read (subcommand_rows_of c.args.matches.now) _ (rows_of (found_of c.in_ok-name.inner.now)) (search rules) c.in_ok-name.ensures.rows
    (no_record (rows_of (found_of c.in_ok-name.inner.now)) c.in_err-record_options-in-record.ensures.none))

pub returns-in_err-code_given-in-explain-clause-none : goal.returns-in_err-code_given-in-explain-clause-none
returns-in_err-code_given-in-explain-clause-none c =
    IfNone-of c.from_residual-in_err-code_given-in-explain.result
    (nothing_read (subcommand_rows_of c.args.matches.now) _ (rows_of (found_of c.in_ok-name.inner.now)) (search rules) c.in_ok-name.ensures.rows
    (no_explain (rows_of (found_of c.in_ok-name.inner.now)) c.in_err-code_given-in-explain.ensures.none))

pub returns-in_err-outcomes_options-in-outcomes-clause-none : goal.returns-in_err-outcomes_options-in-outcomes-clause-none
returns-in_err-outcomes_options-in-outcomes-clause-none c =
    IfNone-of c.from_residual-in_err-outcomes_options-in-outcomes.result
    (nothing_read (subcommand_rows_of c.args.matches.now) _ (rows_of (found_of c.in_ok-name.inner.now)) (search rules) c.in_ok-name.ensures.rows
    (no_outcomes (rows_of (found_of c.in_ok-name.inner.now)) c.in_err-outcomes_options-in-outcomes.ensures.none))

pub returns-in_ok-run_options-in-run-clause-some : goal.returns-in_ok-run_options-in-run-clause-some
returns-in_ok-run_options-in-run-clause-some c = search rules

pub returns-in_err-states_options-in-states-clause-none : goal.returns-in_err-states_options-in-states-clause-none
returns-in_err-states_options-in-states-clause-none c =
    IfNone-of c.from_residual-in_err-states_options-in-states.result
    (nothing_read (subcommand_rows_of c.args.matches.now) _ (rows_of (found_of c.in_ok-name.inner.now)) (search rules) c.in_ok-name.ensures.rows
    (no_states (rows_of (found_of c.in_ok-name.inner.now)) c.in_err-states_options-in-states.ensures.none))

pub returns-in_err-replay_options-in-replay-clause-none : goal.returns-in_err-replay_options-in-replay-clause-none
returns-in_err-replay_options-in-replay-clause-none c =
    IfNone-of c.from_residual-in_err-replay_options-in-replay.result
    (nothing_read (subcommand_rows_of c.args.matches.now) _ (rows_of (found_of c.in_ok-name.inner.now)) (search rules) c.in_ok-name.ensures.rows
    (no_replay (rows_of (found_of c.in_ok-name.inner.now)) c.in_err-replay_options-in-replay.ensures.none))

pub returns-in_err-draw_options-in-draw-clause-none : goal.returns-in_err-draw_options-in-draw-clause-none
returns-in_err-draw_options-in-draw-clause-none c =
    IfNone-of c.from_residual-in_err-draw_options-in-draw.result
    (nothing_read (subcommand_rows_of c.args.matches.now) _ (rows_of (found_of c.in_ok-name.inner.now)) (search rules) c.in_ok-name.ensures.rows
    (no_draw (rows_of (found_of c.in_ok-name.inner.now)) c.in_err-draw_options-in-draw.ensures.none))

pub returns-in_err-debug_options-in-debug-clause-none : goal.returns-in_err-debug_options-in-debug-clause-none
returns-in_err-debug_options-in-debug-clause-none c =
    IfNone-of c.from_residual-in_err-debug_options-in-debug.result
    (nothing_read (subcommand_rows_of c.args.matches.now) _ (rows_of (found_of c.in_ok-name.inner.now)) (search rules) c.in_ok-name.ensures.rows
    (no_debug (rows_of (found_of c.in_ok-name.inner.now)) c.in_err-debug_options-in-debug.ensures.none))

pub returns-in_err-plan_options-in-plan-clause-none : goal.returns-in_err-plan_options-in-plan-clause-none
returns-in_err-plan_options-in-plan-clause-none c =
    IfNone-of c.from_residual-in_err-plan_options-in-plan.result
    (nothing_read (subcommand_rows_of c.args.matches.now) _ (rows_of (found_of c.in_ok-name.inner.now)) (search rules) c.in_ok-name.ensures.rows
    (no_plan (rows_of (found_of c.in_ok-name.inner.now)) (λ o changes lends given. c.in_err-plan_options-in-plan.ensures.none o lends)))

pub returns-in_err-changes_given-in-plan-clause-none : goal.returns-in_err-changes_given-in-plan-clause-none
returns-in_err-changes_given-in-plan-clause-none c =
    IfNone-of c.from_residual-in_err-changes_given-in-plan.result
    (nothing_read (subcommand_rows_of c.args.matches.now) _ (rows_of (found_of c.in_ok-name.inner.now)) (search rules) c.in_ok-name.ensures.rows
    (no_plan (rows_of (found_of c.in_ok-name.inner.now)) (λ o changes lends given. c.in_err-changes_given-in-plan.ensures.none changes given)))
