-- The command line, as clap's rules: the subcommands with their options, ranges and defaults.
use Rattle.std.specs.Prelude.{◌≡◌, ℕ, false, [], ◌∷◌, Some, codes, true}
use Rattle.clap.specs.Words.{App, Rule, Text, app_of, new_app, new_rule, with_rule, with_subcommand}
use Rattle.clap.specs.declared.builder.ArgAction.TheVariants.{Append, SetTrue}
use Rattle.clap.specs.declared.builder.command.Command.{Command}
use Rattle.clap.specs.declared.builder.command.Command.TheViews.{out-Command}
use Rattle.clap.specs.declared.builder.value_parser.ValueParser.TheVariants as vp

-- `--NAME NUMBER` with a number from least to most
abbrev pub number_rule : Text → ℕ → ℕ → Rule
number_rule name least most = record (new_rule name) {
  long = Some name;
  parser = Some (vp.Unsigned least most);
}

-- the same, and the number if the option is not given
abbrev pub number_rule_or : Text → ℕ → ℕ → Text → Rule
number_rule_or name least most default =
    record (number_rule name least most) { defaults = default ∷ [] }

-- `--NAME WORD`, and the word if the option is not given
abbrev pub word_rule_or : Text → Text → Rule
word_rule_or name default = record (new_rule name) { long = Some name; defaults = default ∷ [] }

-- `--NAME WORD`, which may be given several times
abbrev pub words_rule : Text → Rule
words_rule name = record (new_rule name) { long = Some name; action = Some Append }

-- `--NAME` alone
abbrev pub flag_rule : Text → Rule
flag_rule name = record (new_rule name) { long = Some name; action = Some SetTrue }

-- the options of a run by workers
unfoldable pub with_run_rules : App → App
with_run_rules a =
    with_rule
    (with_rule (with_rule a (number_rule_or (codes "workers") 1 16 (codes "1"))) (number_rule_or (codes "quantum") 1 4096 (codes "64")))
    (number_rule_or (codes "steps") 0 10000000 (codes "1000000"))

-- `check`: the size of the heap may be given, and whether warnings are told
unfoldable pub check_command : App
check_command =
    with_rule (with_rule (new_app (codes "check")) (number_rule (codes "heap") 1024 16777216)) (flag_rule (codes "warn"))

-- `claims`, which has no options
unfoldable pub claims_command : App
claims_command = new_app (codes "claims")

-- `debug`: whether commands are read as they come, and who lends
unfoldable pub debug_command : App
debug_command =
    with_rule (with_rule (new_app (codes "debug")) (flag_rule (codes "live"))) (word_rule_or (codes "lend") (codes "banker"))

-- `draw`: who lends, and the width and the scale of the picture
unfoldable pub draw_command : App
draw_command =
    with_rule
    (with_rule
    (with_rule (new_app (codes "draw")) (word_rule_or (codes "lend") (codes "banker")))
    (number_rule (codes "width") 200 20000))
    (number_rule_or (codes "scale") 50 400 (codes "100"))

-- `emit`: the format of the object
unfoldable pub emit_command : App
emit_command = with_rule (new_app (codes "emit")) (number_rule_or (codes "object") 1 2 (codes "2"))

-- `exec`, with the options of a run
unfoldable pub exec_command : App
exec_command = with_run_rules (new_app (codes "exec"))

-- a code by its place, which need not be given
unfoldable pub explain_command : App
explain_command = with_rule (new_app (codes "explain")) (new_rule (codes "CODE"))

-- `migrate`, which has no options
unfoldable pub migrate_command : App
migrate_command = new_app (codes "migrate")

-- `outcomes`: the most configurations, who lends, what is looked for, and what is written of it
unfoldable pub outcomes_command : App
outcomes_command =
    with_rule
    (with_rule
    (with_rule
    (with_rule
    (with_rule
    (with_rule
    (with_rule
    (with_rule
    (with_rule
    (with_rule
    (with_rule (new_app (codes "outcomes")) (number_rule_or (codes "states") 1 4000000 (codes "1000000")))
    (word_rule_or (codes "lend") (codes "banker")))
    (flag_rule (codes "first-deadlock")))
    (flag_rule (codes "prints")))
    (flag_rule (codes "fair")))
    (flag_rule (codes "expect")))
    (flag_rule (codes "any-order")))
    (flag_rule (codes "endless")))
    (flag_rule (codes "graph")))
    (number_rule (codes "run") 1 4000000))
    (number_rule (codes "deadlock") 1 4000000)

-- `plan`: who lends, and capitals that stand in place of those of the texts
unfoldable pub plan_command : App
plan_command =
    with_rule (with_rule (new_app (codes "plan")) (word_rule_or (codes "lend") (codes "banker"))) (words_rule (codes "capital"))

-- `record`, with the options of a run, a seed, and who lends
unfoldable pub record_command : App
record_command =
    with_rule
    (with_rule (with_run_rules (new_app (codes "record"))) (number_rule (codes "seed") 0 18446744073709551615))
    (word_rule_or (codes "lend") (codes "banker"))

-- `replay`: who lends
unfoldable pub replay_command : App
replay_command = with_rule (new_app (codes "replay")) (word_rule_or (codes "lend") (codes "banker"))

-- `run`, with the options of a run
unfoldable pub run_command : App
run_command = with_run_rules (new_app (codes "run"))

-- `states`: how many rows, from which position on, and who lends
unfoldable pub states_command : App
states_command =
    with_rule
    (with_rule
    (with_rule (new_app (codes "states")) (number_rule_or (codes "rows") 1 1000000 (codes "20000")))
    (number_rule_or (codes "from") 0 10000000 (codes "0")))
    (word_rule_or (codes "lend") (codes "banker"))

-- `bank`, which has no options
unfoldable pub bank_command : App
bank_command = new_app (codes "bank")

-- `dap`, which has no options
unfoldable pub dap_command : App
dap_command = new_app (codes "dap")

-- `lsp`, which has no options
unfoldable pub lsp_command : App
lsp_command = new_app (codes "lsp")

-- `findings`: as `check`
unfoldable pub findings_command : App
findings_command =
    with_rule (with_rule (new_app (codes "findings")) (number_rule (codes "heap") 1024 16777216)) (flag_rule (codes "warn"))

-- a command with one subcommand more
abbrev pub with_command : App → App → App
with_command a sub = with_subcommand a sub.top

-- a command that wants a subcommand, and has a version to tell
abbrev pub that_wants_command : App → App
that_wants_command a = record a { top = record a.top { subcommand_required = true; has_version = true } }

-- the commands that look at texts
unfoldable pub with_text_commands : App → App
with_text_commands a = with_command (with_command (with_command (with_command a check_command) claims_command) plan_command) findings_command

-- the commands that make code of a text
unfoldable pub with_code_commands : App → App
with_code_commands a = with_command (with_command a emit_command) run_command

-- the commands over objects
unfoldable pub with_object_commands : App → App
with_object_commands a = with_command (with_command a exec_command) migrate_command

-- the commands over the picks of a run
unfoldable pub with_pick_commands : App → App
with_pick_commands a = with_command (with_command (with_command a record_command) replay_command) debug_command

-- the command that draws a run, the one over all runs, and the one that says what a refusal means
unfoldable pub with_other_commands : App → App
with_other_commands a = with_command (with_command (with_command a draw_command) outcomes_command) explain_command

-- the commands that write the states of a run, are the banker by itself, and answer an editor by either protocol
unfoldable pub with_bank_commands : App → App
with_bank_commands a = with_command (with_command (with_command (with_command a states_command) bank_command) dap_command) lsp_command

-- the whole command line
unfoldable pub command_line : App
command_line =
    with_bank_commands (with_other_commands (with_pick_commands (with_object_commands (with_code_commands (with_text_commands
    (that_wants_command (new_app (codes "parbegin"))))))))

-- a command of this form, none of whose options a subcommand inherits
abbrev pub IsCommand : App → Command → Type 0
IsCommand a c = (app_of c ≡ a) × ((out-Command c).has_globals ≡ false)
