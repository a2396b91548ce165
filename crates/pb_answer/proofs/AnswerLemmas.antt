-- From what a tool says to what a call says.
use Rattle.std.proofs.Common.{◌≡◌, List, ℕ, Option, inl, inr}
use Rattle.std.specs.Prelude.{IfSome}
use Rattle.std.specs.Borrow.{Bor}
use Rattle.pb_answer.specs.Calls.{CallWrites, CommandLeaves, CommandSays}
use Rattle.pb_bank_tool.specs.Bank as bank
use Rattle.pb_call.specs.Calls.{bytes_for, fault_status, words_fault_text}
use Rattle.pb_command_io.specs.Answers.{Says, Tells}
use Rattle.pb_command_io.specs.declared.status.Status.{Status}
use Rattle.pb_debug_tool.specs.Debug as debug
use Rattle.pb_edit_tool.specs.Edit as edit
use Rattle.pb_run_tool.specs.Run as run
use Rattle.pb_search_tool.specs.Search as search_tool
use Rattle.pb_voice.specs.declared.form.Form.TheVariants.{Lines}
use Rattle.pb_words.specs.Read.{BlamesWords, WordsSay}
use Rattle.pb_words.specs.Tools.{tool_for}
use Rattle.pb_words.specs.declared.tool.Tool.TheVariants as tool
use Rattle.pb_words.specs.declared.words.Options.{Options}
use Rattle.pb_words.specs.declared.words.Options.TheVariants as option
use Rattle.pb_words.specs.declared.words.WordsFault.{WordsFault}
use Rattle.pb_words.specs.declared.words.WordsFault.TheVariants as fault

-- what is written if the words were not read
pub CallWrites-refused : (words : List (Bor (List ℕ))) (rest old new : Option (List ℕ)) (status : Status) (e : WordsFault)
    → (BlamesWords e → (o : Options) → WordsSay words o → ⊥) → Says old new (words_fault_text Lines e) (fault_status e) status
    → CallWrites words rest old new status
CallWrites-refused words rest old new status (fault.Words text) none says = inr (inl (none tt, (text.bytes.items, says)))
CallWrites-refused words rest old new status fault.Memory none says = inr (inr says)

-- what the command of a tool tells
module _ (rest left old new : Option (List ℕ)) (status : Status) where
  pub bank_tells : (o : Options) → tool_for o ≡ tool.Bank
      → IfSome (bytes_for o rest) (λ bytes. Tells (bank.says Lines o bytes) old new status)
      → IfSome (bytes_for o rest) (λ bytes. Tells (CommandSays o bytes) old new status)
  bank_tells option.Bank is says = says
  bank_tells (option.Check x) is says = absurd cc
  bank_tells option.Claims is says = absurd cc
  bank_tells option.Dap is says = absurd cc
  bank_tells (option.Debug x) is says = absurd cc
  bank_tells (option.Draw x) is says = absurd cc
  bank_tells (option.Emit x) is says = absurd cc
  bank_tells (option.Exec x) is says = absurd cc
  bank_tells (option.Explain x) is says = absurd cc
  bank_tells (option.Findings x) is says = absurd cc
  bank_tells option.Lsp is says = absurd cc
  bank_tells option.Migrate is says = absurd cc
  bank_tells (option.Outcomes x) is says = absurd cc
  bank_tells (option.Plan x changes) is says = absurd cc
  bank_tells (option.Record x) is says = absurd cc
  bank_tells (option.Replay x) is says = absurd cc
  bank_tells (option.Run x) is says = absurd cc
  bank_tells (option.States x) is says = absurd cc

  pub bank_leaves : (o : Options) → tool_for o ≡ tool.Bank → bank.leaves Lines o rest left old new → CommandLeaves o rest left old new
  bank_leaves option.Bank is leaves = leaves
  bank_leaves (option.Check x) is leaves = absurd cc
  bank_leaves option.Claims is leaves = absurd cc
  bank_leaves option.Dap is leaves = absurd cc
  bank_leaves (option.Debug x) is leaves = absurd cc
  bank_leaves (option.Draw x) is leaves = absurd cc
  bank_leaves (option.Emit x) is leaves = absurd cc
  bank_leaves (option.Exec x) is leaves = absurd cc
  bank_leaves (option.Explain x) is leaves = absurd cc
  bank_leaves (option.Findings x) is leaves = absurd cc
  bank_leaves option.Lsp is leaves = absurd cc
  bank_leaves option.Migrate is leaves = absurd cc
  bank_leaves (option.Outcomes x) is leaves = absurd cc
  bank_leaves (option.Plan x changes) is leaves = absurd cc
  bank_leaves (option.Record x) is leaves = absurd cc
  bank_leaves (option.Replay x) is leaves = absurd cc
  bank_leaves (option.Run x) is leaves = absurd cc
  bank_leaves (option.States x) is leaves = absurd cc

  pub debug_tells : (o : Options) → tool_for o ≡ tool.Debug
      → IfSome (bytes_for o rest) (λ bytes. Tells (debug.says Lines o bytes) old new status)
      → IfSome (bytes_for o rest) (λ bytes. Tells (CommandSays o bytes) old new status)
  debug_tells option.Bank is says = absurd cc
  debug_tells (option.Check x) is says = absurd cc
  debug_tells option.Claims is says = absurd cc
  debug_tells option.Dap is says = says
  debug_tells (option.Debug x) is says = says
  debug_tells (option.Draw x) is says = says
  debug_tells (option.Emit x) is says = absurd cc
  debug_tells (option.Exec x) is says = absurd cc
  debug_tells (option.Explain x) is says = absurd cc
  debug_tells (option.Findings x) is says = absurd cc
  debug_tells option.Lsp is says = absurd cc
  debug_tells option.Migrate is says = absurd cc
  debug_tells (option.Outcomes x) is says = absurd cc
  debug_tells (option.Plan x changes) is says = absurd cc
  debug_tells (option.Record x) is says = absurd cc
  debug_tells (option.Replay x) is says = absurd cc
  debug_tells (option.Run x) is says = absurd cc
  debug_tells (option.States x) is says = absurd cc

  pub debug_leaves : (o : Options) → tool_for o ≡ tool.Debug → debug.leaves o rest left old new → CommandLeaves o rest left old new
  debug_leaves option.Bank is leaves = absurd cc
  debug_leaves (option.Check x) is leaves = absurd cc
  debug_leaves option.Claims is leaves = absurd cc
  debug_leaves option.Dap is leaves = leaves
  debug_leaves (option.Debug x) is leaves = leaves
  debug_leaves (option.Draw x) is leaves = leaves
  debug_leaves (option.Emit x) is leaves = absurd cc
  debug_leaves (option.Exec x) is leaves = absurd cc
  debug_leaves (option.Explain x) is leaves = absurd cc
  debug_leaves (option.Findings x) is leaves = absurd cc
  debug_leaves option.Lsp is leaves = absurd cc
  debug_leaves option.Migrate is leaves = absurd cc
  debug_leaves (option.Outcomes x) is leaves = absurd cc
  debug_leaves (option.Plan x changes) is leaves = absurd cc
  debug_leaves (option.Record x) is leaves = absurd cc
  debug_leaves (option.Replay x) is leaves = absurd cc
  debug_leaves (option.Run x) is leaves = absurd cc
  debug_leaves (option.States x) is leaves = absurd cc

  pub edit_tells : (o : Options) → tool_for o ≡ tool.Edit
      → IfSome (bytes_for o rest) (λ bytes. Tells (edit.says Lines o bytes) old new status)
      → IfSome (bytes_for o rest) (λ bytes. Tells (CommandSays o bytes) old new status)
  edit_tells option.Bank is says = absurd cc
  edit_tells (option.Check x) is says = absurd cc
  edit_tells option.Claims is says = absurd cc
  edit_tells option.Dap is says = absurd cc
  edit_tells (option.Debug x) is says = absurd cc
  edit_tells (option.Draw x) is says = absurd cc
  edit_tells (option.Emit x) is says = absurd cc
  edit_tells (option.Exec x) is says = absurd cc
  edit_tells (option.Explain x) is says = absurd cc
  edit_tells (option.Findings x) is says = says
  edit_tells option.Lsp is says = says
  edit_tells option.Migrate is says = absurd cc
  edit_tells (option.Outcomes x) is says = absurd cc
  edit_tells (option.Plan x changes) is says = absurd cc
  edit_tells (option.Record x) is says = absurd cc
  edit_tells (option.Replay x) is says = absurd cc
  edit_tells (option.Run x) is says = absurd cc
  edit_tells (option.States x) is says = absurd cc

  pub edit_leaves : (o : Options) → tool_for o ≡ tool.Edit → edit.leaves o rest left old new → CommandLeaves o rest left old new
  edit_leaves option.Bank is leaves = absurd cc
  edit_leaves (option.Check x) is leaves = absurd cc
  edit_leaves option.Claims is leaves = absurd cc
  edit_leaves option.Dap is leaves = absurd cc
  edit_leaves (option.Debug x) is leaves = absurd cc
  edit_leaves (option.Draw x) is leaves = absurd cc
  edit_leaves (option.Emit x) is leaves = absurd cc
  edit_leaves (option.Exec x) is leaves = absurd cc
  edit_leaves (option.Explain x) is leaves = absurd cc
  edit_leaves (option.Findings x) is leaves = leaves
  edit_leaves option.Lsp is leaves = leaves
  edit_leaves option.Migrate is leaves = absurd cc
  edit_leaves (option.Outcomes x) is leaves = absurd cc
  edit_leaves (option.Plan x changes) is leaves = absurd cc
  edit_leaves (option.Record x) is leaves = absurd cc
  edit_leaves (option.Replay x) is leaves = absurd cc
  edit_leaves (option.Run x) is leaves = absurd cc
  edit_leaves (option.States x) is leaves = absurd cc

  pub run_tells : (o : Options) → tool_for o ≡ tool.Run
      → IfSome (bytes_for o rest) (λ bytes. Tells (run.says Lines o bytes) old new status)
      → IfSome (bytes_for o rest) (λ bytes. Tells (CommandSays o bytes) old new status)
  run_tells option.Bank is says = absurd cc
  run_tells (option.Check x) is says = says
  run_tells option.Claims is says = says
  run_tells option.Dap is says = absurd cc
  run_tells (option.Debug x) is says = absurd cc
  run_tells (option.Draw x) is says = absurd cc
  run_tells (option.Emit x) is says = says
  run_tells (option.Exec x) is says = says
  run_tells (option.Explain x) is says = says
  run_tells (option.Findings x) is says = absurd cc
  run_tells option.Lsp is says = absurd cc
  run_tells option.Migrate is says = says
  run_tells (option.Outcomes x) is says = absurd cc
  run_tells (option.Plan x changes) is says = absurd cc
  run_tells (option.Record x) is says = says
  run_tells (option.Replay x) is says = says
  run_tells (option.Run x) is says = says
  run_tells (option.States x) is says = absurd cc

  pub run_leaves : (o : Options) → tool_for o ≡ tool.Run → run.leaves o rest left old new → CommandLeaves o rest left old new
  run_leaves option.Bank is leaves = absurd cc
  run_leaves (option.Check x) is leaves = leaves
  run_leaves option.Claims is leaves = leaves
  run_leaves option.Dap is leaves = absurd cc
  run_leaves (option.Debug x) is leaves = absurd cc
  run_leaves (option.Draw x) is leaves = absurd cc
  run_leaves (option.Emit x) is leaves = leaves
  run_leaves (option.Exec x) is leaves = leaves
  run_leaves (option.Explain x) is leaves = leaves
  run_leaves (option.Findings x) is leaves = absurd cc
  run_leaves option.Lsp is leaves = absurd cc
  run_leaves option.Migrate is leaves = leaves
  run_leaves (option.Outcomes x) is leaves = absurd cc
  run_leaves (option.Plan x changes) is leaves = absurd cc
  run_leaves (option.Record x) is leaves = leaves
  run_leaves (option.Replay x) is leaves = leaves
  run_leaves (option.Run x) is leaves = leaves
  run_leaves (option.States x) is leaves = absurd cc

  pub search_tells : (o : Options) → tool_for o ≡ tool.Search
      → IfSome (bytes_for o rest) (λ bytes. Tells (search_tool.says Lines o bytes) old new status)
      → IfSome (bytes_for o rest) (λ bytes. Tells (CommandSays o bytes) old new status)
  search_tells option.Bank is says = absurd cc
  search_tells (option.Check x) is says = absurd cc
  search_tells option.Claims is says = absurd cc
  search_tells option.Dap is says = absurd cc
  search_tells (option.Debug x) is says = absurd cc
  search_tells (option.Draw x) is says = absurd cc
  search_tells (option.Emit x) is says = absurd cc
  search_tells (option.Exec x) is says = absurd cc
  search_tells (option.Explain x) is says = absurd cc
  search_tells (option.Findings x) is says = absurd cc
  search_tells option.Lsp is says = absurd cc
  search_tells option.Migrate is says = absurd cc
  search_tells (option.Outcomes x) is says = says
  search_tells (option.Plan x changes) is says = says
  search_tells (option.Record x) is says = absurd cc
  search_tells (option.Replay x) is says = absurd cc
  search_tells (option.Run x) is says = absurd cc
  search_tells (option.States x) is says = says

  pub search_leaves : (o : Options) → tool_for o ≡ tool.Search → search_tool.leaves o rest left old new → CommandLeaves o rest left old new
  search_leaves option.Bank is leaves = absurd cc
  search_leaves (option.Check x) is leaves = absurd cc
  search_leaves option.Claims is leaves = absurd cc
  search_leaves option.Dap is leaves = absurd cc
  search_leaves (option.Debug x) is leaves = absurd cc
  search_leaves (option.Draw x) is leaves = absurd cc
  search_leaves (option.Emit x) is leaves = absurd cc
  search_leaves (option.Exec x) is leaves = absurd cc
  search_leaves (option.Explain x) is leaves = absurd cc
  search_leaves (option.Findings x) is leaves = absurd cc
  search_leaves option.Lsp is leaves = absurd cc
  search_leaves option.Migrate is leaves = absurd cc
  search_leaves (option.Outcomes x) is leaves = leaves
  search_leaves (option.Plan x changes) is leaves = leaves
  search_leaves (option.Record x) is leaves = absurd cc
  search_leaves (option.Replay x) is leaves = absurd cc
  search_leaves (option.Run x) is leaves = absurd cc
  search_leaves (option.States x) is leaves = leaves
