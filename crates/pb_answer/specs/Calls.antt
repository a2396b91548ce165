-- What a call writes, with its words and its input, whichever tool answers it.
use Rattle.std.specs.Prelude.{◌≡◌, ◌≢◌, ◌⊎◌, ℕ, List, IfSome, Option}
use Rattle.std.specs.Borrow.{Bor}
use Rattle.clap.specs.Words.{Text}
use Rattle.pb_accept.specs.Checks.{SaysOfChecks}
use Rattle.pb_accept.specs.Claims.{SaysOfAny, SaysOfClaims}
use Rattle.pb_accept.specs.Emissions.{SaysOfEmission}
use Rattle.pb_accept.specs.Migrations.{SaysOfMigration}
use Rattle.pb_accept.specs.Replays.{SaysOfReplay}
use Rattle.pb_accept.specs.Sayings.{line_of}
use Rattle.pb_adapter_engine.specs.Adapters.{SaysOfAdapter}
use Rattle.pb_bank_tool.specs.Bank as bank
use Rattle.pb_call.specs.Calls.{RefusesWords, bytes_for}
use Rattle.pb_capitals.specs.Changes.{changes_in}
use Rattle.pb_command_io.specs.Answers.{Says, Tells, memory_line}
use Rattle.pb_command_io.specs.Faults.{Devices, TellsAnyFault, TellsFaults}
use Rattle.pb_command_io.specs.declared.status.Status.{Status}
use Rattle.pb_command_io.specs.declared.status.Status.TheVariants.{Memory}
use Rattle.pb_debug_tool.specs.Debug as debug
use Rattle.pb_debug_tool.specs.Debug.{says_of_commands}
use Rattle.pb_draw_engine.specs.Draws.{SaysOfDraw, size_of}
use Rattle.pb_edit_tool.specs.Edit as edit
use Rattle.pb_engines.specs.Executions.{SaysOfExecution}
use Rattle.pb_engines.specs.Records.{SaysOfRecord}
use Rattle.pb_engines.specs.Runs.{SaysOfTextRun}
use Rattle.pb_explain.specs.Pages.{SaysOfExplain}
use Rattle.pb_findings.specs.Reports.{SaysOfReports}
use Rattle.pb_options.specs.Lends.{lending_for}
use Rattle.pb_page_engine.specs.States.{SaysOfStates}
use Rattle.pb_plan_engine.specs.Plans.{SaysOfPlans}
use Rattle.pb_plan_engine.specs.Sayings as plan_sayings
use Rattle.pb_search_engine.specs.SaysOfAll.{SaysOfSearches}
use Rattle.pb_search_tool.specs.Search.{shown_by}
use Rattle.pb_server_engine.specs.Servers.{SaysOfServer}
use Rattle.pb_voice.specs.Voices.{Written}
use Rattle.pb_voice.specs.declared.form.Form.TheVariants.{Lines}
use Rattle.pb_words.specs.Read.{WordsSay}
use Rattle.pb_words.specs.declared.words.Options.{Options}
use Rattle.pb_words.specs.declared.words.Options.TheVariants as option

-- what a command may say of an input
abbrev pub CommandSays : Options → List ℕ → List ℕ → Status → Type 0
CommandSays option.Bank = bank.says Lines option.Bank
CommandSays (option.Check numbers) = Written line_of (SaysOfAny (SaysOfChecks numbers.warn))
CommandSays option.Claims = Written line_of (SaysOfAny SaysOfClaims)
CommandSays option.Dap = SaysOfAdapter
CommandSays (option.Debug flags) = says_of_commands flags.live (lending_for flags.lend)
CommandSays (option.Draw options) = Written line_of (SaysOfAny (SaysOfDraw (lending_for options.lend) (size_of options)))
CommandSays (option.Emit numbers) = Written line_of (SaysOfAny (SaysOfEmission numbers.object))
CommandSays (option.Exec numbers) = Written line_of (SaysOfAny (SaysOfExecution numbers.steps))
CommandSays (option.Explain code) = λ bytes. SaysOfExplain Lines code
CommandSays (option.Findings numbers) = SaysOfReports numbers.warn
CommandSays option.Lsp = SaysOfServer
CommandSays option.Migrate = Written line_of (SaysOfAny SaysOfMigration)
CommandSays (option.Outcomes numbers) = SaysOfSearches Lines numbers
CommandSays (option.Plan options changes) =
    Written plan_sayings.line_of (SaysOfPlans (lending_for options.lend) (changes_in changes))
CommandSays (option.Record numbers) =
    Written line_of (SaysOfAny (SaysOfRecord (lending_for numbers.lend) numbers.run.steps numbers.seed))
CommandSays (option.Replay options) = Written line_of (SaysOfAny (SaysOfReplay (lending_for options.lend)))
CommandSays (option.Run numbers) = Written line_of (SaysOfAny (SaysOfTextRun numbers.steps))
CommandSays (option.States options) = Written line_of (SaysOfAny (SaysOfStates (lending_for options.lend) (shown_by options)))

-- the words say a command, which tells of these bytes what it may
abbrev pub CommandWrites : List (Bor Text) → (rest old new : Option (List ℕ)) → Status → Type 0
CommandWrites words rest old new status =
    (o : Options) × WordsSay words o × IfSome (bytes_for o rest) (λ bytes. Tells (CommandSays o bytes) old new status)

-- so they do; or they say nothing, and some text of theirs is written; or the call is out of memory before it knows
-- what they say
abbrev pub CallWrites : List (Bor Text) → (rest old new : Option (List ℕ)) → Status → Type 0
CallWrites words rest old new status =
    CommandWrites words rest old new status
    ⊎ (RefusesWords Lines words old new status ⊎ Says old new memory_line Memory status)

-- what is written when a read of a command fails: nothing, but by those that answer as they read on
abbrev pub CommandLeaves : Options → (rest left : Option (List ℕ)) → (old new : Option (List ℕ)) → Type 0
CommandLeaves option.Bank rest left old new = bank.leaves Lines option.Bank rest left old new
CommandLeaves option.Dap rest left old new = debug.leaves option.Dap rest left old new
CommandLeaves (option.Debug flags) rest left old new = debug.leaves (option.Debug flags) rest left old new
CommandLeaves option.Lsp rest left old new = edit.leaves option.Lsp rest left old new
CommandLeaves _ rest left old new = new ≡ old

-- a device that fails is told; and if it is a read, nothing is written, or what the command of the words leaves then
abbrev pub CallTellsFaults : List (Bor Text) → (rest left : Option (List ℕ)) → Devices → Devices → Status → Type 0
CallTellsFaults words rest left old new status =
    TellsFaults old new status
    ⊎ ((o : Options) × WordsSay words o × TellsAnyFault old new status
    × (new.reads ≢ old.reads → CommandLeaves o rest left old.written new.written))
