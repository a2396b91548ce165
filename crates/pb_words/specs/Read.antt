-- What the words of a call say: the command and the numbers that clap matches, if it takes the words.
use Rattle.std.specs.Prelude.{◌≡◌, ◌≤◌, ◌↔◌, IsTrue, ℕ, Bool, List, [], Option, Some, None, IfSome, ⊤, codes, map}
use Rattle.std.specs.Prelude.{option_map, unwrap_or}
use Rattle.std.specs.Str.Parse.{IsNumeral, digits_value, without_leading_plus}
use Rattle.clap.specs.Words.{Row, Text, all_of, fault_of, one_of, subcommand_of}
use Rattle.std.specs.Borrow.{Bor}
use Rattle.pb_base.specs.declared.limits.TheConstants.{MAX_STATES}
use Rattle.pb_capitals.specs.Changes.{AreChanges, changes_in}
use Rattle.pb_capitals.specs.declared.changes.Changes.{Changes}
use Rattle.pb_code.specs.declared.format.Format.{Format}
use Rattle.pb_code.specs.declared.format.Format.TheVariants.{One, Two}
use Rattle.pb_command_line.specs.CommandLine.{command_line}
use Rattle.pb_words.specs.declared.words.Options.{Options}
use Rattle.pb_words.specs.declared.words.Options.TheVariants as option
use Rattle.pb_options.specs.declared.options.DebugOptions.{DebugOptions}
use Rattle.pb_options.specs.declared.options.CheckOptions.{CheckOptions}
use Rattle.pb_options.specs.declared.options.DrawOptions.{DrawOptions}
use Rattle.pb_options.specs.declared.options.TheConstants.{MAX_SCALE, MAX_WIDTH, MIN_SCALE, MIN_WIDTH}
use Rattle.pb_options.specs.declared.options.EmitOptions.{EmitOptions}
use Rattle.pb_options.specs.Lends.{lend_word}
use Rattle.pb_options.specs.declared.options.Lend.{Lend}
use Rattle.pb_options.specs.declared.options.OutcomesOptions.{OutcomesOptions}
use Rattle.pb_options.specs.declared.options.PlanOptions.{PlanOptions}
use Rattle.pb_options.specs.declared.options.RecordOptions.{RecordOptions}
use Rattle.pb_options.specs.declared.options.ReplayOptions.{ReplayOptions}
use Rattle.pb_options.specs.declared.options.RunOptions.{RunOptions}
use Rattle.pb_options.specs.declared.options.StatesOptions.{StatesOptions}
use Rattle.pb_options.specs.Codes.{code_name}
use Rattle.pb_options.specs.declared.code.Code.{Code}
use Rattle.pb_words.specs.Together.{MeanSomething}
use Rattle.pb_words.specs.declared.words.WordsFault.{WordsFault}
use Rattle.pb_words.specs.declared.words.WordsFault.TheVariants as fault

-- the option was matched with a text that spells this number, given or by default
abbrev pub HasNumber : List Row → Text → ℕ → Type 0
HasNumber rows id n = (t : Text) × (one_of id rows ≡ Some t)
    × IsNumeral 10 (without_leading_plus t) × (n ≡ digits_value 10 (without_leading_plus t))

-- the same, in a range
abbrev pub HasNumberIn : List Row → Text → ℕ → ℕ → ℕ → Type 0
HasNumberIn rows id least most n = HasNumber rows id n × (least ≤ n) × (n ≤ most)

-- the numbers of a run
abbrev pub HasRunNumbers : List Row → RunOptions → Type 0
HasRunNumbers rows o = HasNumber rows (codes "workers") o.workers × HasNumber rows (codes "quantum") o.quantum
    × HasNumber rows (codes "steps") o.steps

-- the number of an option that need not be given
abbrev pub HasOptionalNumber : List Row → Text → Option ℕ → Type 0
HasOptionalNumber rows id (Some n) = HasNumber rows id n
HasOptionalNumber rows id None = one_of id rows ≡ None

-- the same, in a range
abbrev pub HasOptionalNumberIn : List Row → Text → (least most : ℕ) → Option ℕ → Type 0
HasOptionalNumberIn rows id least most (Some n) = HasNumberIn rows id least most n
HasOptionalNumberIn rows id least most None = one_of id rows ≡ None

-- the flag is set exactly if it was matched with the text that clap has for one that is given
abbrev pub HasFlag : List Row → Text → Bool → Type 0
HasFlag rows id set = IsTrue set ↔ (one_of id rows ≡ Some (codes "true"))

-- the number of `check` or `findings`, if it is given, and whether warnings are asked for
abbrev pub HasCheckOptions : List Row → CheckOptions → Type 0
HasCheckOptions rows o = HasOptionalNumber rows (codes "heap") o.heap × HasFlag rows (codes "warn") o.warn

-- the word was matched for who decides on a request
abbrev pub HasLend : List Row → Lend → Type 0
HasLend rows lend = one_of (codes "lend") rows ≡ Some (lend_word lend)

-- the numbers of a run, the seed if there is one, and who decides: without a seed no options say the cash
abbrev pub HasRecordNumbers : List Row → RecordOptions → Type 0
HasRecordNumbers rows o = HasRunNumbers rows o.run × HasOptionalNumber rows (codes "seed") o.seed
    × IfSome o.seed (λ n. n ≤ 18446744073709551615) × HasLend rows o.lend

-- the number of a format
abbrev pub format_number : Format → ℕ
format_number One = 1
format_number Two = 2

-- the format of `emit`, by its number
abbrev pub HasEmitNumber : List Row → EmitOptions → Type 0
HasEmitNumber rows o = HasNumber rows (codes "object") (format_number o.object)

-- the name of the code was matched, or nothing if there is no code
abbrev pub HasCode : List Row → Option Code → Type 0
HasCode rows code = one_of (codes "CODE") rows ≡ option_map code_name code

-- the options of `outcomes`, which go together
abbrev pub HasSearchOptions : List Row → OutcomesOptions → Type 0
HasSearchOptions rows o = HasNumber rows (codes "states") o.states × HasLend rows o.lend
    × HasFlag rows (codes "first-deadlock") o.first_deadlock × HasFlag rows (codes "prints") o.prints
    × HasFlag rows (codes "fair") o.fair
    × HasFlag rows (codes "expect") o.expect × HasFlag rows (codes "any-order") o.any_order
    × HasFlag rows (codes "endless") o.endless
    × HasFlag rows (codes "graph") o.graph
    × HasOptionalNumberIn rows (codes "run") 1 MAX_STATES o.run × HasOptionalNumberIn rows (codes "deadlock") 1 MAX_STATES o.deadlock
    × MeanSomething o

-- the options of `debug`
abbrev pub HasDebugOptions : List Row → DebugOptions → Type 0
HasDebugOptions rows o = HasFlag rows (codes "live") o.live × HasLend rows o.lend

-- the options of `draw`
abbrev pub HasDrawOptions : List Row → DrawOptions → Type 0
HasDrawOptions rows o = HasLend rows o.lend × HasOptionalNumberIn rows (codes "width") MIN_WIDTH MAX_WIDTH o.width
    × HasNumberIn rows (codes "scale") MIN_SCALE MAX_SCALE o.scale

-- who decides, for `plan`
abbrev pub HasPlanLend : List Row → PlanOptions → Type 0
HasPlanLend rows o = HasLend rows o.lend

-- the words with capitals, one after another; none if none is given
abbrev pub capital_words : List Row → List Text
capital_words rows = unwrap_or (all_of (codes "capital") rows) []

-- the capitals that stand in place of those of the texts, for `plan`
abbrev pub HasChanges : List Row → Changes → Type 0
HasChanges rows changes = AreChanges (capital_words rows) (changes_in changes)

-- who decides, for `replay`
abbrev pub HasReplayLend : List Row → ReplayOptions → Type 0
HasReplayLend rows o = HasLend rows o.lend

-- the options of `states`
abbrev pub HasStatesOptions : List Row → StatesOptions → Type 0
HasStatesOptions rows o = HasNumber rows (codes "rows") o.rows × HasNumber rows (codes "from") o.from × HasLend rows o.lend

-- the options are those of this subcommand with these matches
abbrev pub IsReadFrom : Text → List Row → Options → Type 0
IsReadFrom name rows option.Bank = name ≡ codes "bank"
IsReadFrom name rows (option.Check o) = (name ≡ codes "check") × HasCheckOptions rows o
IsReadFrom name rows option.Claims = name ≡ codes "claims"
IsReadFrom name rows option.Dap = name ≡ codes "dap"
IsReadFrom name rows (option.Debug o) = (name ≡ codes "debug") × HasDebugOptions rows o
IsReadFrom name rows (option.Draw o) = (name ≡ codes "draw") × HasDrawOptions rows o
IsReadFrom name rows (option.Emit o) = (name ≡ codes "emit") × HasEmitNumber rows o
IsReadFrom name rows (option.Exec o) = (name ≡ codes "exec") × HasRunNumbers rows o
IsReadFrom name rows (option.Explain code) = (name ≡ codes "explain") × HasCode rows code
IsReadFrom name rows (option.Findings o) = (name ≡ codes "findings") × HasCheckOptions rows o
IsReadFrom name rows option.Lsp = name ≡ codes "lsp"
IsReadFrom name rows option.Migrate = name ≡ codes "migrate"
IsReadFrom name rows (option.Outcomes o) = (name ≡ codes "outcomes") × HasSearchOptions rows o
IsReadFrom name rows (option.Plan o changes) = (name ≡ codes "plan") × HasPlanLend rows o × HasChanges rows changes
IsReadFrom name rows (option.Record o) = (name ≡ codes "record") × HasRecordNumbers rows o
IsReadFrom name rows (option.Replay o) = (name ≡ codes "replay") × HasReplayLend rows o
IsReadFrom name rows (option.Run o) = (name ≡ codes "run") × HasRunNumbers rows o
IsReadFrom name rows (option.States o) = (name ≡ codes "states") × HasStatesOptions rows o

-- the same, if the parse entered a subcommand
abbrev pub IsReadFromMatches : Option (Text × List Row) → Options → Type 0
IsReadFromMatches m o = (name : Text) × (rows : List Row) × (m ≡ Some (name, rows)) × IsReadFrom name rows o

-- clap takes the words, of which the first is the program's own name, and matches these options
abbrev pub WordsSay : List (Bor Text) → Options → Type 0
WordsSay words o = let texts : List Text = map (λ w. w.now) words in
    (fault_of command_line texts ≡ []) × IsReadFromMatches (subcommand_of command_line texts) o

-- the words are at fault, and not memory
abbrev pub BlamesWords : WordsFault → Type 0
BlamesWords (fault.Words text) = ⊤
BlamesWords fault.Memory = ⊥
