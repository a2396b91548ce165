-- The tools, and which of them answers a command.
use Rattle.std.specs.Prelude.{ℕ, List, codes}
use Rattle.pb_words.specs.declared.tool.Tool.{Tool}
use Rattle.pb_words.specs.declared.tool.Tool.TheVariants.{Bank, Debug, Edit, Run, Search}
use Rattle.pb_words.specs.declared.words.Options.{Options}
use Rattle.pb_words.specs.declared.words.Options.TheVariants as option

-- the name of a tool
abbrev pub tool_name : Tool → List ℕ
tool_name Bank = codes "parbegin-bank"
tool_name Debug = codes "parbegin-debug"
tool_name Edit = codes "parbegin-edit"
tool_name Run = codes "parbegin-run"
tool_name Search = codes "parbegin-search"

-- the one tool that answers a command
abbrev pub tool_for : Options → Tool
tool_for option.Bank = Bank
tool_for (option.Check o) = Run
tool_for option.Claims = Run
tool_for option.Dap = Debug
tool_for (option.Debug o) = Debug
tool_for (option.Draw o) = Debug
tool_for (option.Emit o) = Run
tool_for (option.Exec o) = Run
tool_for (option.Explain code) = Run
tool_for (option.Findings o) = Edit
tool_for option.Lsp = Edit
tool_for option.Migrate = Run
tool_for (option.Outcomes o) = Search
tool_for (option.Plan o changes) = Search
tool_for (option.Record o) = Run
tool_for (option.Replay o) = Run
tool_for (option.Run o) = Run
tool_for (option.States o) = Search
