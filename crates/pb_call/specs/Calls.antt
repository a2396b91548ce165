-- What a call of a tool writes, with its words and its input.
use Rattle.std.specs.Prelude.{◌≡◌, ◌≢◌, ◌⊎◌, ◌++◌, ℕ, List, [], ◌∷◌, IfSome, Option, Some, codes}
use Rattle.std.specs.Borrow.{Bor}
use Rattle.std.specs.List.{concat}
use Rattle.clap.specs.Words.{Text}
use Rattle.pb_base.specs.Lines.{line}
use Rattle.pb_command_io.specs.Answers.{Says, Tells}
use Rattle.pb_command_io.specs.Faults.{Devices, TellsAnyFault, TellsFaults}
use Rattle.pb_command_io.specs.declared.status.Status.{Status}
use Rattle.pb_command_io.specs.declared.status.Status.TheVariants.{Words, Memory}
use Rattle.pb_voice.specs.Texts.{memory_in, text_as}
use Rattle.pb_voice.specs.declared.form.Form.{Form}
use Rattle.pb_voice.specs.declared.form.Form.TheVariants.{Lines, Objects}
use Rattle.pb_words.specs.Read.{WordsSay}
use Rattle.pb_words.specs.Tools.{tool_for, tool_name}
use Rattle.pb_words.specs.declared.tool.Tool.{Tool}
use Rattle.pb_words.specs.declared.words.Options.{Options}
use Rattle.pb_words.specs.declared.words.Options.TheVariants as option
use Rattle.pb_words.specs.declared.words.WordsFault.{WordsFault}
use Rattle.pb_words.specs.declared.words.WordsFault.TheVariants as fault

-- what a command may write in a form, with its status, of the bytes of its input
abbrev pub Saying : Type 1
Saying = Form → Options → List ℕ → List ℕ → Status → Type 0

-- what is written by a command of which a read fails, by the bytes that were to come before the command and after it
abbrev pub AfterRead : Type 1
AfterRead = Options → (rest left : Option (List ℕ)) → (old new : Option (List ℕ)) → Type 0

-- ---- words that are not read

-- the text and the status if words were not read
abbrev pub words_fault_text : Form → WordsFault → List ℕ
words_fault_text form (fault.Words text) = text_as form text.bytes.items
words_fault_text form fault.Memory = memory_in form

abbrev pub fault_status : WordsFault → Status
fault_status (fault.Words text) = Words
fault_status fault.Memory = Memory

-- the text if another tool answers the command
abbrev pub elsewhere : Form → Tool → List ℕ
elsewhere Lines tool = codes "error: this command is answered by " ++ line (tool_name tool)
elsewhere Objects tool =
    concat (codes "{\"kind\":\"line\",\"text\":\"error: this command is answered by " ∷ tool_name tool ∷ codes "\"}\n" ∷ [])

-- ---- what is written

-- the bytes that a command says something of, if they are known: those of its input, and none for `explain`
abbrev pub bytes_for : Options → Option (List ℕ) → Option (List ℕ)
bytes_for (option.Explain code) rest = Some []
bytes_for _ rest = rest

-- the words say a command of the tool, which tells of these bytes what it may
abbrev pub CommandWrites : Tool → Saying → Form → List (Bor Text) → (rest old new : Option (List ℕ)) → Status → Type 0
CommandWrites tool MaySay form words rest old new status =
    (o : Options) × WordsSay words o × (tool_for o ≡ tool) × IfSome (bytes_for o rest) (λ bytes. Tells (MaySay form o bytes) old new status)

-- the words say a command of another tool, which is named
abbrev pub NamesTool : Tool → Form → List (Bor Text) → (old new : Option (List ℕ)) → Status → Type 0
NamesTool tool form words old new status =
    (o : Options) × WordsSay words o × (tool_for o ≢ tool) × Says old new (elsewhere form (tool_for o)) Words status

-- the words say nothing, and some text of theirs is written
abbrev pub RefusesWords : Form → List (Bor Text) → (old new : Option (List ℕ)) → Status → Type 0
RefusesWords form words old new status =
    ((o : Options) → WordsSay words o → ⊥) × ((text : List ℕ) × Says old new (text_as form text) Words status)

-- one of these in a form, or the tool is out of memory before it knows what the words say
abbrev pub CallWrites : Tool → Saying → Form → List (Bor Text) → (rest old new : Option (List ℕ)) → Status → Type 0
CallWrites tool MaySay form words rest old new status =
    CommandWrites tool MaySay form words rest old new status
    ⊎ (NamesTool tool form words old new status
    ⊎ (RefusesWords form words old new status ⊎ Says old new (memory_in form) Memory status))

-- ---- devices that fail

-- a device that fails is told; and if it is a read, the output is as the command leaves it then
abbrev pub CommandTellsFaults : AfterRead → Options → (rest left : Option (List ℕ)) → Devices → Devices → Status → Type 0
CommandTellsFaults Leaves o rest left old new status =
    TellsAnyFault old new status × (new.reads ≢ old.reads → Leaves o rest left old.written new.written)

-- a device that fails is told; and if it is a read, nothing is written, or what the command of the words leaves then
abbrev pub CallTellsFaults : Tool → AfterRead → List (Bor Text) → (rest left : Option (List ℕ)) → Devices → Devices → Status → Type 0
CallTellsFaults tool Leaves words rest left old new status =
    TellsFaults old new status
    ⊎ ((o : Options) × WordsSay words o × (tool_for o ≡ tool) × CommandTellsFaults Leaves o rest left old new status)
