-- What the tool that answers `findings` and `lsp` says.
use Rattle.std.specs.Prelude.{◌≡◌, ℕ, List, IfSome, Option}
use Rattle.pb_command_io.specs.declared.status.Status.{Status}
use Rattle.pb_conversations.specs.Conversations.{SaysBefore}
use Rattle.pb_findings.specs.Reports.{SaysOfReports, files_message}
use Rattle.pb_server_engine.specs.Servers.{AnswersMessages, SaysOfServer}
use Rattle.pb_voice.specs.declared.form.Form.{Form}
use Rattle.pb_words.specs.declared.words.Options.{Options}
use Rattle.pb_words.specs.declared.words.Options.TheVariants as option

-- what its commands may say of an input, whatever the form
abbrev pub says : Form → Options → List ℕ → List ℕ → Status → Type 0
says form (option.Findings numbers) = SaysOfReports numbers.warn
says form option.Lsp = SaysOfServer
says form _ = λ bytes text status. ⊥

-- what is written when a read fails: nothing; or by the one that answers messages the answers to all before it, and nothing
-- else
abbrev pub leaves : Options → (rest left : Option (List ℕ)) → (old new : Option (List ℕ)) → Type 0
leaves (option.Findings numbers) rest left old new = new ≡ old
leaves o rest left old new = IfSome rest (λ bytes. SaysBefore AnswersMessages bytes left old new)

-- what a person is told of bytes that it refused, if it names no files
abbrev pub tells_refused : Options → (bytes told : List ℕ) → Type 0
tells_refused (option.Findings numbers) = λ bytes told. told ≡ files_message
tells_refused _ = λ bytes told. ⊥
