-- What clap's results say of the rows that it matched, and of this command line.
use Rattle.std.proofs.Common.{◌≡◌, ◌↔◌, ◌<◌, ◌≤◌, ◌^◌, ℕ, List, [], Option, Some, None, Result, Ok, Err, refl, sym}
use Rattle.std.proofs.Common.{ap, subst, ◌∙◌, true, false, Bool, MatchBool, option_map, inl, inr, IfNone, IfSome}
use Rattle.std.proofs.Common.{Bor, codes, get_or, map, unwrap_or, arith}
use Rattle.std.specs.Str.Parse.{IsNumeral, digits_value, false_text, true_text, without_leading_plus}
use Rattle.clap.specs.Words.{HasKind, IsAmong, Kinds, ReadsOne, Row, Text, TriesOne, is_simple, is_simple_and_free}
use Rattle.clap.specs.Words.{kind_of, matched_of, one_of, one_text, raw_values, rows_of}
use Rattle.clap.specs.declared.error.Error.{Error}
use Rattle.clap.specs.declared.error.kind.ErrorKind.TheVariants.{OutOfMemory}
use Rattle.clap.proofs.OnLiterals.{clap_on_literals}
use Rattle.pb_command_line.specs.CommandLine.{command_line, with_text_commands, with_code_commands, with_object_commands}
use Rattle.pb_command_line.specs.CommandLine.{with_other_commands, with_pick_commands, check_command, claims_command}
use Rattle.pb_command_line.specs.CommandLine.{debug_command, draw_command, emit_command, exec_command, explain_command, findings_command}
use Rattle.pb_command_line.specs.CommandLine.{migrate_command, outcomes_command, plan_command, record_command, replay_command, run_command}
use Rattle.pb_command_line.specs.CommandLine.{bank_command, dap_command, lsp_command, states_command, with_bank_commands, with_run_rules}
use Rattle.clap.specs.declared.parser.matches.Found.{Found}
use Rattle.clap.proofs.WalkLemmas.{one_text-rows, raw_values-rows}
use Rattle.pb_capitals.specs.Changes.{AreChanges, changes_in}
use Rattle.pb_capitals.specs.declared.change.Change.{Change}
use Rattle.pb_capitals.specs.declared.changes.Changes.{Changes}
use Rattle.pb_words.specs.Read.{BlamesWords, HasChanges, HasCheckOptions, HasCode, HasEmitNumber, HasFlag, HasNumber, HasNumberIn}
use Rattle.pb_words.specs.Read.{HasDebugOptions, HasDrawOptions, HasLend, HasOptionalNumber, HasOptionalNumberIn, HasPlanLend, HasReplayLend}
use Rattle.pb_words.specs.Read.{HasSearchOptions, HasStatesOptions}
use Rattle.pb_words.specs.Read.{HasRecordNumbers, HasRunNumbers}
use Rattle.pb_words.specs.Read.{IsReadFrom, IsReadFromMatches, capital_words}
use Rattle.pb_words.specs.declared.words.Options.{Options}
use Rattle.pb_words.specs.declared.words.Options.TheVariants.{Bank, Check, Claims, Dap, Debug, Draw, Emit, Exec, Explain, Findings}
use Rattle.pb_words.specs.declared.words.Options.TheVariants.{Lsp, Migrate, Outcomes, Plan, Record, Replay, Run, States}
use Rattle.pb_options.specs.declared.options.CheckOptions.{CheckOptions}
use Rattle.pb_options.specs.declared.options.DebugOptions.{DebugOptions}
use Rattle.pb_options.specs.declared.options.DrawOptions.{DrawOptions}
use Rattle.pb_options.specs.declared.options.EmitOptions.{EmitOptions}
use Rattle.pb_options.specs.Lends.{IsLendOf, lend_word}
use Rattle.pb_options.specs.declared.options.Lend.{Lend}
use Rattle.pb_options.specs.declared.options.OutcomesOptions.{OutcomesOptions}
use Rattle.pb_options.specs.declared.options.PlanOptions.{PlanOptions}
use Rattle.pb_options.specs.declared.options.RecordOptions.{RecordOptions}
use Rattle.pb_options.specs.declared.options.ReplayOptions.{ReplayOptions}
use Rattle.pb_options.specs.declared.options.RunOptions.{RunOptions}
use Rattle.pb_options.specs.declared.options.StatesOptions.{StatesOptions}
use Rattle.pb_options.specs.Codes.{IsCodeOf, code_name}
use Rattle.pb_options.specs.declared.code.Code.{Code}
use Rattle.pb_words.specs.Together.{AtMostOne, MeanSomething, NoneGiven, has_value, in_place, in_place_of_list, of_no_end}
use Rattle.pb_base.specs.declared.limits.TheConstants.{MAX_STATES}
use Rattle.pb_words.specs.declared.words.WordsFault.{WordsFault}
use Rattle.pb_words.specs.declared.words.WordsFault.TheVariants.{Words, Memory}

pub number_read : {E : Type 0} (gives : Text → Result ℕ E → Type 0) (f : Found) (id : Text) (n : ℕ)
    → ((t : Text) → gives t (Ok n) → IsNumeral 10 (without_leading_plus t) × (n ≡ digits_value 10 (without_leading_plus t)))
    → (one_text f id ≡ None → Some n ≡ None)
    → ((t : Text) → one_text f id ≡ Some t → ReadsOne gives t (Some n))
    → HasNumber (rows_of f) id n
number_read gives f id n reads none value = go (one_text f id) refl where
  go : (o : Option Text) → one_text f id ≡ o → HasNumber (rows_of f) id n
  go None is = absurd (cc (none is))
  go (Some t) is = let read = reads t (value t is) in (t, sym (one_text-rows f id) ∙ is, read.0, read.1)

-- if clap reads no number, the rows have none that fits
pub no_number : {E : Type 0} (gives : Text → Result ℕ E → Type 0) (f : Found) (id : Text) (n : ℕ)
    → ((t : Text) (e : E) → gives t (Err e) → IsNumeral 10 (without_leading_plus t) × (digits_value 10 (without_leading_plus t) < 2 ^ 64) → ⊥)
    → ((t : Text) → one_text f id ≡ Some t → ReadsOne gives t None)
    → HasNumber (rows_of f) id n → n < 2 ^ 64 → ⊥
no_number gives f id n refused value (t, is, numeral, value_is) fits =
    let read = value t (one_text-rows f id ∙ is) in
    refused t read.0 read.1 (numeral, subst (λ m. m < 2 ^ 64) value_is fits)

-- the rows have one number for an option
pub one_number : (rows : List Row) (id : Text) (m n : ℕ) → HasNumber rows id m → HasNumber rows id n → m ≡ n
one_number rows id m n (t, is_t, numeral_t, m_is) (u, is_u, numeral_u, n_is) =
    let same : t ≡ u = cc (is_t, is_u) in
    m_is ∙ ap (λ text. digits_value 10 (without_leading_plus text)) same ∙ sym n_is

-- a flag that is read is set exactly if its text is that of one that is given
pub flag_read : (f : Found) (id : Text) (set : Bool) → (one_text f id ≡ None → Some set ≡ None)
    → ((t : Text) → one_text f id ≡ Some t → MatchBool set (t ≡ true_text) (t ≡ false_text)) → HasFlag (rows_of f) id set
flag_read f id set none value = go (one_text f id) refl
  where
    text_is : (set : Bool) (t : Text) → MatchBool set (t ≡ true_text) (t ≡ false_text) → (set ≡ true) ↔ (Some t ≡ Some (codes "true"))
    text_is true t is = (λ yes. ap Some is, λ given. refl)
    text_is false t is = (
      λ yes. let w : false ≡ true = yes in cc,
      λ given.
          let letter : 102 ≡ 116 = ap (λ (o : Option Text). get_or (unwrap_or o []) 0 0) (ap Some (sym is) ∙ given) in
          absurd (omega (arith, letter)),
    )

    go : (o : Option Text) → one_text f id ≡ o → HasFlag (rows_of f) id set
    go None is = absurd (cc (none is))
    go (Some t) is =
        let here : one_of id (rows_of f) ≡ Some t = sym (one_text-rows f id) ∙ is in
        let says = text_is set t (value t is) in
        (λ yes. here ∙ says.0 yes, λ given. says.1 (sym here ∙ given))

-- if none is read, no flag is given
pub flag_unread : {E : Type 0} (gives : Text → Result Bool E → Type 0) (f : Found) (id : Text)
    → ((t : Text) (e : E) → gives t (Err e) → t ≡ codes "true" → ⊥)
    → ((t : Text) → one_text f id ≡ Some t → ReadsOne gives t None) → HasFlag (rows_of f) id false
flag_unread gives f id refused value = (
  λ yes. let w : false ≡ true = yes in cc,
  λ given. let read = value (codes "true") (one_text-rows f id ∙ given) in absurd (refused (codes "true") read.0 read.1 refl),
)

-- if nothing is read from the name and the rows of the subcommand that was entered, nothing is read from the
-- matches
pub nothing_read : (m : Option (Text × List Row)) (name : Text) (rows : List Row) → Some name ≡ option_map (λ p. p.0) m
    → Some rows ≡ option_map (λ p. p.1) m → ((o : Options) → IsReadFrom name rows o → ⊥) → (o : Options) → IsReadFromMatches m o → ⊥
nothing_read m name rows named is none o (other, found, entered, says) =
    let same_name : other ≡ name = cc (named ∙ ap (option_map (λ p. p.0)) entered) in
    let same : found ≡ rows = cc (is ∙ ap (option_map (λ p. p.1)) entered) in
    none o (subst (λ (n : Text). IsReadFrom n rows o) same_name (subst (λ (r : List Row). IsReadFrom other r o) same says))

-- if its options cannot be read, the rows of `check` say nothing
pub no_check : (rows : List Row) → ((o : CheckOptions) → HasCheckOptions rows o → ⊥) → (o : Options)
    → IsReadFrom (codes "check") rows o → ⊥
no_check rows none Bank says =
    let m : 99 ≡ 98 = ap (λ (l : Text). get_or l 0 0) says in omega (arith, m)
no_check rows none (Check o) says = none o says.1
no_check rows none Claims says =
    let m : 104 ≡ 108 = ap (λ (l : Text). get_or l 1 0) says in omega (arith, m)
no_check rows none (Debug o) says =
    let m : 99 ≡ 100 = ap (λ (l : Text). get_or l 0 0) says.0 in omega (arith, m)
no_check rows none Dap says =
    let m : 99 ≡ 100 = ap (λ (l : Text). get_or l 0 0) says in omega (arith, m)
no_check rows none (Draw o) says =
    let m : 99 ≡ 100 = ap (λ (l : Text). get_or l 0 0) says.0 in omega (arith, m)
no_check rows none (Emit o) says =
    let m : 99 ≡ 101 = ap (λ (l : Text). get_or l 0 0) says.0 in omega (arith, m)
no_check rows none (Exec o) says =
    let m : 99 ≡ 101 = ap (λ (l : Text). get_or l 0 0) says.0 in omega (arith, m)
no_check rows none (Explain o) says =
    let m : 99 ≡ 101 = ap (λ (l : Text). get_or l 0 0) says.0 in omega (arith, m)
no_check rows none (Findings o) says =
    let m : 99 ≡ 102 = ap (λ (l : Text). get_or l 0 0) says.0 in omega (arith, m)
no_check rows none Lsp says =
    let m : 99 ≡ 108 = ap (λ (l : Text). get_or l 0 0) says in omega (arith, m)
no_check rows none Migrate says =
    let m : 99 ≡ 109 = ap (λ (l : Text). get_or l 0 0) says in omega (arith, m)
no_check rows none (Outcomes o) says =
    let m : 99 ≡ 111 = ap (λ (l : Text). get_or l 0 0) says.0 in omega (arith, m)
no_check rows none (Plan o changes) says =
    let m : 99 ≡ 112 = ap (λ (l : Text). get_or l 0 0) says.0 in omega (arith, m)
no_check rows none (Record o) says =
    let m : 99 ≡ 114 = ap (λ (l : Text). get_or l 0 0) says.0 in omega (arith, m)
no_check rows none (Replay o) says =
    let m : 99 ≡ 114 = ap (λ (l : Text). get_or l 0 0) says.0 in omega (arith, m)
no_check rows none (Run o) says =
    let m : 99 ≡ 114 = ap (λ (l : Text). get_or l 0 0) says.0 in omega (arith, m)
no_check rows none (States o) says =
    let m : 99 ≡ 115 = ap (λ (l : Text). get_or l 0 0) says.0 in omega (arith, m)

-- if its options cannot be read, the rows of `findings` say nothing
pub no_findings : (rows : List Row) → ((o : CheckOptions) → HasCheckOptions rows o → ⊥) → (o : Options)
    → IsReadFrom (codes "findings") rows o → ⊥
no_findings rows none Bank says =
    let m : 102 ≡ 98 = ap (λ (l : Text). get_or l 0 0) says in omega (arith, m)
no_findings rows none (Check o) says =
    let m : 102 ≡ 99 = ap (λ (l : Text). get_or l 0 0) says.0 in omega (arith, m)
no_findings rows none Claims says =
    let m : 102 ≡ 99 = ap (λ (l : Text). get_or l 0 0) says in omega (arith, m)
no_findings rows none (Debug o) says =
    let m : 102 ≡ 100 = ap (λ (l : Text). get_or l 0 0) says.0 in omega (arith, m)
no_findings rows none Dap says =
    let m : 102 ≡ 100 = ap (λ (l : Text). get_or l 0 0) says in omega (arith, m)
no_findings rows none (Draw o) says =
    let m : 102 ≡ 100 = ap (λ (l : Text). get_or l 0 0) says.0 in omega (arith, m)
no_findings rows none (Emit o) says =
    let m : 102 ≡ 101 = ap (λ (l : Text). get_or l 0 0) says.0 in omega (arith, m)
no_findings rows none (Exec o) says =
    let m : 102 ≡ 101 = ap (λ (l : Text). get_or l 0 0) says.0 in omega (arith, m)
no_findings rows none (Explain o) says =
    let m : 102 ≡ 101 = ap (λ (l : Text). get_or l 0 0) says.0 in omega (arith, m)
no_findings rows none (Findings o) says = none o says.1
no_findings rows none Lsp says =
    let m : 102 ≡ 108 = ap (λ (l : Text). get_or l 0 0) says in omega (arith, m)
no_findings rows none Migrate says =
    let m : 102 ≡ 109 = ap (λ (l : Text). get_or l 0 0) says in omega (arith, m)
no_findings rows none (Outcomes o) says =
    let m : 102 ≡ 111 = ap (λ (l : Text). get_or l 0 0) says.0 in omega (arith, m)
no_findings rows none (Plan o changes) says =
    let m : 102 ≡ 112 = ap (λ (l : Text). get_or l 0 0) says.0 in omega (arith, m)
no_findings rows none (Record o) says =
    let m : 102 ≡ 114 = ap (λ (l : Text). get_or l 0 0) says.0 in omega (arith, m)
no_findings rows none (Replay o) says =
    let m : 102 ≡ 114 = ap (λ (l : Text). get_or l 0 0) says.0 in omega (arith, m)
no_findings rows none (Run o) says =
    let m : 102 ≡ 114 = ap (λ (l : Text). get_or l 0 0) says.0 in omega (arith, m)
no_findings rows none (States o) says =
    let m : 102 ≡ 115 = ap (λ (l : Text). get_or l 0 0) says.0 in omega (arith, m)

-- if its options cannot be read, the rows of `debug` say nothing
pub no_debug : (rows : List Row) → ((o : DebugOptions) → HasDebugOptions rows o → ⊥) → (o : Options)
    → IsReadFrom (codes "debug") rows o → ⊥
no_debug rows none Bank says =
    let m : 100 ≡ 98 = ap (λ (l : Text). get_or l 0 0) says in omega (arith, m)
no_debug rows none (Check o) says =
    let m : 100 ≡ 99 = ap (λ (l : Text). get_or l 0 0) says.0 in omega (arith, m)
no_debug rows none Claims says =
    let m : 100 ≡ 99 = ap (λ (l : Text). get_or l 0 0) says in omega (arith, m)
no_debug rows none Dap says =
    let m : 101 ≡ 97 = ap (λ (l : Text). get_or l 1 0) says in omega (arith, m)
no_debug rows none (Debug o) says = none o says.1
no_debug rows none (Draw o) says =
    let m : 101 ≡ 114 = ap (λ (l : Text). get_or l 1 0) says.0 in omega (arith, m)
no_debug rows none (Emit o) says =
    let m : 100 ≡ 101 = ap (λ (l : Text). get_or l 0 0) says.0 in omega (arith, m)
no_debug rows none (Exec o) says =
    let m : 100 ≡ 101 = ap (λ (l : Text). get_or l 0 0) says.0 in omega (arith, m)
no_debug rows none (Explain o) says =
    let m : 100 ≡ 101 = ap (λ (l : Text). get_or l 0 0) says.0 in omega (arith, m)
no_debug rows none (Findings o) says =
    let m : 100 ≡ 102 = ap (λ (l : Text). get_or l 0 0) says.0 in omega (arith, m)
no_debug rows none Lsp says =
    let m : 100 ≡ 108 = ap (λ (l : Text). get_or l 0 0) says in omega (arith, m)
no_debug rows none Migrate says =
    let m : 100 ≡ 109 = ap (λ (l : Text). get_or l 0 0) says in omega (arith, m)
no_debug rows none (Outcomes o) says =
    let m : 100 ≡ 111 = ap (λ (l : Text). get_or l 0 0) says.0 in omega (arith, m)
no_debug rows none (Plan o changes) says =
    let m : 100 ≡ 112 = ap (λ (l : Text). get_or l 0 0) says.0 in omega (arith, m)
no_debug rows none (Record o) says =
    let m : 100 ≡ 114 = ap (λ (l : Text). get_or l 0 0) says.0 in omega (arith, m)
no_debug rows none (Replay o) says =
    let m : 100 ≡ 114 = ap (λ (l : Text). get_or l 0 0) says.0 in omega (arith, m)
no_debug rows none (Run o) says =
    let m : 100 ≡ 114 = ap (λ (l : Text). get_or l 0 0) says.0 in omega (arith, m)
no_debug rows none (States o) says =
    let m : 100 ≡ 115 = ap (λ (l : Text). get_or l 0 0) says.0 in omega (arith, m)

-- if its options cannot be read, the rows of `emit` say nothing
pub no_emit : (rows : List Row) → ((o : EmitOptions) → HasEmitNumber rows o → ⊥) → (o : Options)
    → IsReadFrom (codes "emit") rows o → ⊥
no_emit rows none Bank says =
    let m : 101 ≡ 98 = ap (λ (l : Text). get_or l 0 0) says in omega (arith, m)
no_emit rows none (Check o) says =
    let m : 101 ≡ 99 = ap (λ (l : Text). get_or l 0 0) says.0 in omega (arith, m)
no_emit rows none Claims says =
    let m : 101 ≡ 99 = ap (λ (l : Text). get_or l 0 0) says in omega (arith, m)
no_emit rows none (Debug o) says =
    let m : 101 ≡ 100 = ap (λ (l : Text). get_or l 0 0) says.0 in omega (arith, m)
no_emit rows none Dap says =
    let m : 101 ≡ 100 = ap (λ (l : Text). get_or l 0 0) says in omega (arith, m)
no_emit rows none (Draw o) says =
    let m : 101 ≡ 100 = ap (λ (l : Text). get_or l 0 0) says.0 in omega (arith, m)
no_emit rows none (Emit o) says = none o says.1
no_emit rows none (Exec o) says =
    let m : 109 ≡ 120 = ap (λ (l : Text). get_or l 1 0) says.0 in omega (arith, m)
no_emit rows none (Explain o) says =
    let m : 109 ≡ 120 = ap (λ (l : Text). get_or l 1 0) says.0 in omega (arith, m)
no_emit rows none (Findings o) says =
    let m : 101 ≡ 102 = ap (λ (l : Text). get_or l 0 0) says.0 in omega (arith, m)
no_emit rows none Lsp says =
    let m : 101 ≡ 108 = ap (λ (l : Text). get_or l 0 0) says in omega (arith, m)
no_emit rows none Migrate says =
    let m : 101 ≡ 109 = ap (λ (l : Text). get_or l 0 0) says in omega (arith, m)
no_emit rows none (Outcomes o) says =
    let m : 101 ≡ 111 = ap (λ (l : Text). get_or l 0 0) says.0 in omega (arith, m)
no_emit rows none (Plan o changes) says =
    let m : 101 ≡ 112 = ap (λ (l : Text). get_or l 0 0) says.0 in omega (arith, m)
no_emit rows none (Record o) says =
    let m : 101 ≡ 114 = ap (λ (l : Text). get_or l 0 0) says.0 in omega (arith, m)
no_emit rows none (Replay o) says =
    let m : 101 ≡ 114 = ap (λ (l : Text). get_or l 0 0) says.0 in omega (arith, m)
no_emit rows none (Run o) says =
    let m : 101 ≡ 114 = ap (λ (l : Text). get_or l 0 0) says.0 in omega (arith, m)
no_emit rows none (States o) says =
    let m : 101 ≡ 115 = ap (λ (l : Text). get_or l 0 0) says.0 in omega (arith, m)

-- if its options cannot be read, the rows of `run` say nothing
pub no_run : (rows : List Row) → ((o : RunOptions) → HasRunNumbers rows o → ⊥) → (o : Options)
    → IsReadFrom (codes "run") rows o → ⊥
no_run rows none Bank says =
    let m : 114 ≡ 98 = ap (λ (l : Text). get_or l 0 0) says in omega (arith, m)
no_run rows none (Check o) says =
    let m : 114 ≡ 99 = ap (λ (l : Text). get_or l 0 0) says.0 in omega (arith, m)
no_run rows none Claims says =
    let m : 114 ≡ 99 = ap (λ (l : Text). get_or l 0 0) says in omega (arith, m)
no_run rows none (Debug o) says =
    let m : 114 ≡ 100 = ap (λ (l : Text). get_or l 0 0) says.0 in omega (arith, m)
no_run rows none Dap says =
    let m : 114 ≡ 100 = ap (λ (l : Text). get_or l 0 0) says in omega (arith, m)
no_run rows none (Draw o) says =
    let m : 114 ≡ 100 = ap (λ (l : Text). get_or l 0 0) says.0 in omega (arith, m)
no_run rows none (Emit o) says =
    let m : 114 ≡ 101 = ap (λ (l : Text). get_or l 0 0) says.0 in omega (arith, m)
no_run rows none (Exec o) says =
    let m : 114 ≡ 101 = ap (λ (l : Text). get_or l 0 0) says.0 in omega (arith, m)
no_run rows none (Explain o) says =
    let m : 114 ≡ 101 = ap (λ (l : Text). get_or l 0 0) says.0 in omega (arith, m)
no_run rows none (Findings o) says =
    let m : 114 ≡ 102 = ap (λ (l : Text). get_or l 0 0) says.0 in omega (arith, m)
no_run rows none Lsp says =
    let m : 114 ≡ 108 = ap (λ (l : Text). get_or l 0 0) says in omega (arith, m)
no_run rows none Migrate says =
    let m : 114 ≡ 109 = ap (λ (l : Text). get_or l 0 0) says in omega (arith, m)
no_run rows none (Outcomes o) says =
    let m : 114 ≡ 111 = ap (λ (l : Text). get_or l 0 0) says.0 in omega (arith, m)
no_run rows none (Plan o changes) says =
    let m : 114 ≡ 112 = ap (λ (l : Text). get_or l 0 0) says.0 in omega (arith, m)
no_run rows none (Record o) says =
    let m : 117 ≡ 101 = ap (λ (l : Text). get_or l 1 0) says.0 in omega (arith, m)
no_run rows none (Replay o) says =
    let m : 117 ≡ 101 = ap (λ (l : Text). get_or l 1 0) says.0 in omega (arith, m)
no_run rows none (Run o) says = none o says.1
no_run rows none (States o) says =
    let m : 114 ≡ 115 = ap (λ (l : Text). get_or l 0 0) says.0 in omega (arith, m)

-- if its options cannot be read, the rows of `record` say nothing
pub no_record : (rows : List Row) → ((o : RecordOptions) → HasRecordNumbers rows o → ⊥) → (o : Options)
    → IsReadFrom (codes "record") rows o → ⊥
no_record rows none Bank says =
    let m : 114 ≡ 98 = ap (λ (l : Text). get_or l 0 0) says in omega (arith, m)
no_record rows none (Check o) says =
    let m : 114 ≡ 99 = ap (λ (l : Text). get_or l 0 0) says.0 in omega (arith, m)
no_record rows none Claims says =
    let m : 114 ≡ 99 = ap (λ (l : Text). get_or l 0 0) says in omega (arith, m)
no_record rows none (Debug o) says =
    let m : 114 ≡ 100 = ap (λ (l : Text). get_or l 0 0) says.0 in omega (arith, m)
no_record rows none Dap says =
    let m : 114 ≡ 100 = ap (λ (l : Text). get_or l 0 0) says in omega (arith, m)
no_record rows none (Draw o) says =
    let m : 114 ≡ 100 = ap (λ (l : Text). get_or l 0 0) says.0 in omega (arith, m)
no_record rows none (Emit o) says =
    let m : 114 ≡ 101 = ap (λ (l : Text). get_or l 0 0) says.0 in omega (arith, m)
no_record rows none (Exec o) says =
    let m : 114 ≡ 101 = ap (λ (l : Text). get_or l 0 0) says.0 in omega (arith, m)
no_record rows none (Explain o) says =
    let m : 114 ≡ 101 = ap (λ (l : Text). get_or l 0 0) says.0 in omega (arith, m)
no_record rows none (Findings o) says =
    let m : 114 ≡ 102 = ap (λ (l : Text). get_or l 0 0) says.0 in omega (arith, m)
no_record rows none Lsp says =
    let m : 114 ≡ 108 = ap (λ (l : Text). get_or l 0 0) says in omega (arith, m)
no_record rows none Migrate says =
    let m : 114 ≡ 109 = ap (λ (l : Text). get_or l 0 0) says in omega (arith, m)
no_record rows none (Outcomes o) says =
    let m : 114 ≡ 111 = ap (λ (l : Text). get_or l 0 0) says.0 in omega (arith, m)
no_record rows none (Plan o changes) says =
    let m : 114 ≡ 112 = ap (λ (l : Text). get_or l 0 0) says.0 in omega (arith, m)
no_record rows none (Record o) says = none o says.1
no_record rows none (Replay o) says =
    let m : 99 ≡ 112 = ap (λ (l : Text). get_or l 2 0) says.0 in omega (arith, m)
no_record rows none (Run o) says =
    let m : 101 ≡ 117 = ap (λ (l : Text). get_or l 1 0) says.0 in omega (arith, m)
no_record rows none (States o) says =
    let m : 114 ≡ 115 = ap (λ (l : Text). get_or l 0 0) says.0 in omega (arith, m)

-- if its options cannot be read, the rows of `exec` say nothing
pub no_exec : (rows : List Row) → ((o : RunOptions) → HasRunNumbers rows o → ⊥) → (o : Options)
    → IsReadFrom (codes "exec") rows o → ⊥
no_exec rows none Bank says =
    let m : 101 ≡ 98 = ap (λ (l : Text). get_or l 0 0) says in omega (arith, m)
no_exec rows none (Check o) says =
    let m : 101 ≡ 99 = ap (λ (l : Text). get_or l 0 0) says.0 in omega (arith, m)
no_exec rows none Claims says =
    let m : 101 ≡ 99 = ap (λ (l : Text). get_or l 0 0) says in omega (arith, m)
no_exec rows none (Debug o) says =
    let m : 101 ≡ 100 = ap (λ (l : Text). get_or l 0 0) says.0 in omega (arith, m)
no_exec rows none Dap says =
    let m : 101 ≡ 100 = ap (λ (l : Text). get_or l 0 0) says in omega (arith, m)
no_exec rows none (Draw o) says =
    let m : 101 ≡ 100 = ap (λ (l : Text). get_or l 0 0) says.0 in omega (arith, m)
no_exec rows none (Emit o) says =
    let m : 120 ≡ 109 = ap (λ (l : Text). get_or l 1 0) says.0 in omega (arith, m)
no_exec rows none (Exec o) says = none o says.1
no_exec rows none (Explain o) says =
    let m : 101 ≡ 112 = ap (λ (l : Text). get_or l 2 0) says.0 in omega (arith, m)
no_exec rows none (Findings o) says =
    let m : 101 ≡ 102 = ap (λ (l : Text). get_or l 0 0) says.0 in omega (arith, m)
no_exec rows none Lsp says =
    let m : 101 ≡ 108 = ap (λ (l : Text). get_or l 0 0) says in omega (arith, m)
no_exec rows none Migrate says =
    let m : 101 ≡ 109 = ap (λ (l : Text). get_or l 0 0) says in omega (arith, m)
no_exec rows none (Outcomes o) says =
    let m : 101 ≡ 111 = ap (λ (l : Text). get_or l 0 0) says.0 in omega (arith, m)
no_exec rows none (Plan o changes) says =
    let m : 101 ≡ 112 = ap (λ (l : Text). get_or l 0 0) says.0 in omega (arith, m)
no_exec rows none (Record o) says =
    let m : 101 ≡ 114 = ap (λ (l : Text). get_or l 0 0) says.0 in omega (arith, m)
no_exec rows none (Replay o) says =
    let m : 101 ≡ 114 = ap (λ (l : Text). get_or l 0 0) says.0 in omega (arith, m)
no_exec rows none (Run o) says =
    let m : 101 ≡ 114 = ap (λ (l : Text). get_or l 0 0) says.0 in omega (arith, m)
no_exec rows none (States o) says =
    let m : 101 ≡ 115 = ap (λ (l : Text). get_or l 0 0) says.0 in omega (arith, m)

-- if its options cannot be read, the rows of `explain` say nothing
pub no_explain : (rows : List Row) → ((c : Option Code) → HasCode rows c → ⊥) → (o : Options)
    → IsReadFrom (codes "explain") rows o → ⊥
no_explain rows none Bank says =
    let m : 101 ≡ 98 = ap (λ (l : Text). get_or l 0 0) says in omega (arith, m)
no_explain rows none (Check o) says =
    let m : 101 ≡ 99 = ap (λ (l : Text). get_or l 0 0) says.0 in omega (arith, m)
no_explain rows none Claims says =
    let m : 101 ≡ 99 = ap (λ (l : Text). get_or l 0 0) says in omega (arith, m)
no_explain rows none (Debug o) says =
    let m : 101 ≡ 100 = ap (λ (l : Text). get_or l 0 0) says.0 in omega (arith, m)
no_explain rows none Dap says =
    let m : 101 ≡ 100 = ap (λ (l : Text). get_or l 0 0) says in omega (arith, m)
no_explain rows none (Draw o) says =
    let m : 101 ≡ 100 = ap (λ (l : Text). get_or l 0 0) says.0 in omega (arith, m)
no_explain rows none (Emit o) says =
    let m : 120 ≡ 109 = ap (λ (l : Text). get_or l 1 0) says.0 in omega (arith, m)
no_explain rows none (Exec o) says =
    let m : 112 ≡ 101 = ap (λ (l : Text). get_or l 2 0) says.0 in omega (arith, m)
no_explain rows none (Explain o) says = none o says.1
no_explain rows none (Findings o) says =
    let m : 101 ≡ 102 = ap (λ (l : Text). get_or l 0 0) says.0 in omega (arith, m)
no_explain rows none Lsp says =
    let m : 101 ≡ 108 = ap (λ (l : Text). get_or l 0 0) says in omega (arith, m)
no_explain rows none Migrate says =
    let m : 101 ≡ 109 = ap (λ (l : Text). get_or l 0 0) says in omega (arith, m)
no_explain rows none (Outcomes o) says =
    let m : 101 ≡ 111 = ap (λ (l : Text). get_or l 0 0) says.0 in omega (arith, m)
no_explain rows none (Plan o changes) says =
    let m : 101 ≡ 112 = ap (λ (l : Text). get_or l 0 0) says.0 in omega (arith, m)
no_explain rows none (Record o) says =
    let m : 101 ≡ 114 = ap (λ (l : Text). get_or l 0 0) says.0 in omega (arith, m)
no_explain rows none (Replay o) says =
    let m : 101 ≡ 114 = ap (λ (l : Text). get_or l 0 0) says.0 in omega (arith, m)
no_explain rows none (Run o) says =
    let m : 101 ≡ 114 = ap (λ (l : Text). get_or l 0 0) says.0 in omega (arith, m)
no_explain rows none (States o) says =
    let m : 101 ≡ 115 = ap (λ (l : Text). get_or l 0 0) says.0 in omega (arith, m)

-- if its options cannot be read, the rows of `outcomes` say nothing
pub no_outcomes : (rows : List Row) → ((o : OutcomesOptions) → HasSearchOptions rows o → ⊥) → (o : Options)
    → IsReadFrom (codes "outcomes") rows o → ⊥
no_outcomes rows none Bank says =
    let m : 111 ≡ 98 = ap (λ (l : Text). get_or l 0 0) says in omega (arith, m)
no_outcomes rows none (Check o) says =
    let m : 111 ≡ 99 = ap (λ (l : Text). get_or l 0 0) says.0 in omega (arith, m)
no_outcomes rows none Claims says =
    let m : 111 ≡ 99 = ap (λ (l : Text). get_or l 0 0) says in omega (arith, m)
no_outcomes rows none (Debug o) says =
    let m : 111 ≡ 100 = ap (λ (l : Text). get_or l 0 0) says.0 in omega (arith, m)
no_outcomes rows none Dap says =
    let m : 111 ≡ 100 = ap (λ (l : Text). get_or l 0 0) says in omega (arith, m)
no_outcomes rows none (Draw o) says =
    let m : 111 ≡ 100 = ap (λ (l : Text). get_or l 0 0) says.0 in omega (arith, m)
no_outcomes rows none (Emit o) says =
    let m : 111 ≡ 101 = ap (λ (l : Text). get_or l 0 0) says.0 in omega (arith, m)
no_outcomes rows none (Exec o) says =
    let m : 111 ≡ 101 = ap (λ (l : Text). get_or l 0 0) says.0 in omega (arith, m)
no_outcomes rows none (Explain o) says =
    let m : 111 ≡ 101 = ap (λ (l : Text). get_or l 0 0) says.0 in omega (arith, m)
no_outcomes rows none (Findings o) says =
    let m : 111 ≡ 102 = ap (λ (l : Text). get_or l 0 0) says.0 in omega (arith, m)
no_outcomes rows none Lsp says =
    let m : 111 ≡ 108 = ap (λ (l : Text). get_or l 0 0) says in omega (arith, m)
no_outcomes rows none Migrate says =
    let m : 111 ≡ 109 = ap (λ (l : Text). get_or l 0 0) says in omega (arith, m)
no_outcomes rows none (Outcomes o) says = none o says.1
no_outcomes rows none (Plan o changes) says =
    let m : 111 ≡ 112 = ap (λ (l : Text). get_or l 0 0) says.0 in omega (arith, m)
no_outcomes rows none (Record o) says =
    let m : 111 ≡ 114 = ap (λ (l : Text). get_or l 0 0) says.0 in omega (arith, m)
no_outcomes rows none (Replay o) says =
    let m : 111 ≡ 114 = ap (λ (l : Text). get_or l 0 0) says.0 in omega (arith, m)
no_outcomes rows none (Run o) says =
    let m : 111 ≡ 114 = ap (λ (l : Text). get_or l 0 0) says.0 in omega (arith, m)
no_outcomes rows none (States o) says =
    let m : 111 ≡ 115 = ap (λ (l : Text). get_or l 0 0) says.0 in omega (arith, m)

-- if its options cannot be read, the rows of `states` say nothing
pub no_states : (rows : List Row) → ((o : StatesOptions) → HasStatesOptions rows o → ⊥) → (o : Options)
    → IsReadFrom (codes "states") rows o → ⊥
no_states rows none Bank says =
    let m : 115 ≡ 98 = ap (λ (l : Text). get_or l 0 0) says in omega (arith, m)
no_states rows none (Check o) says =
    let m : 115 ≡ 99 = ap (λ (l : Text). get_or l 0 0) says.0 in omega (arith, m)
no_states rows none Claims says =
    let m : 115 ≡ 99 = ap (λ (l : Text). get_or l 0 0) says in omega (arith, m)
no_states rows none (Debug o) says =
    let m : 115 ≡ 100 = ap (λ (l : Text). get_or l 0 0) says.0 in omega (arith, m)
no_states rows none Dap says =
    let m : 115 ≡ 100 = ap (λ (l : Text). get_or l 0 0) says in omega (arith, m)
no_states rows none (Draw o) says =
    let m : 115 ≡ 100 = ap (λ (l : Text). get_or l 0 0) says.0 in omega (arith, m)
no_states rows none (Emit o) says =
    let m : 115 ≡ 101 = ap (λ (l : Text). get_or l 0 0) says.0 in omega (arith, m)
no_states rows none (Exec o) says =
    let m : 115 ≡ 101 = ap (λ (l : Text). get_or l 0 0) says.0 in omega (arith, m)
no_states rows none (Explain o) says =
    let m : 115 ≡ 101 = ap (λ (l : Text). get_or l 0 0) says.0 in omega (arith, m)
no_states rows none (Findings o) says =
    let m : 115 ≡ 102 = ap (λ (l : Text). get_or l 0 0) says.0 in omega (arith, m)
no_states rows none Lsp says =
    let m : 115 ≡ 108 = ap (λ (l : Text). get_or l 0 0) says in omega (arith, m)
no_states rows none Migrate says =
    let m : 115 ≡ 109 = ap (λ (l : Text). get_or l 0 0) says in omega (arith, m)
no_states rows none (Outcomes o) says =
    let m : 115 ≡ 111 = ap (λ (l : Text). get_or l 0 0) says.0 in omega (arith, m)
no_states rows none (Plan o changes) says =
    let m : 115 ≡ 112 = ap (λ (l : Text). get_or l 0 0) says.0 in omega (arith, m)
no_states rows none (Record o) says =
    let m : 115 ≡ 114 = ap (λ (l : Text). get_or l 0 0) says.0 in omega (arith, m)
no_states rows none (Replay o) says =
    let m : 115 ≡ 114 = ap (λ (l : Text). get_or l 0 0) says.0 in omega (arith, m)
no_states rows none (Run o) says =
    let m : 115 ≡ 114 = ap (λ (l : Text). get_or l 0 0) says.0 in omega (arith, m)
no_states rows none (States o) says = none o says.1

-- if its options cannot be read, the rows of `plan` say nothing
pub no_plan : (rows : List Row) → ((o : PlanOptions) (changes : Changes) → HasPlanLend rows o → HasChanges rows changes → ⊥) → (o : Options)
    → IsReadFrom (codes "plan") rows o → ⊥
no_plan rows none Bank says =
    let m : 112 ≡ 98 = ap (λ (l : Text). get_or l 0 0) says in omega (arith, m)
no_plan rows none (Check o) says =
    let m : 112 ≡ 99 = ap (λ (l : Text). get_or l 0 0) says.0 in omega (arith, m)
no_plan rows none Claims says =
    let m : 112 ≡ 99 = ap (λ (l : Text). get_or l 0 0) says in omega (arith, m)
no_plan rows none Dap says =
    let m : 112 ≡ 100 = ap (λ (l : Text). get_or l 0 0) says in omega (arith, m)
no_plan rows none (Debug o) says =
    let m : 112 ≡ 100 = ap (λ (l : Text). get_or l 0 0) says.0 in omega (arith, m)
no_plan rows none (Draw o) says =
    let m : 112 ≡ 100 = ap (λ (l : Text). get_or l 0 0) says.0 in omega (arith, m)
no_plan rows none (Emit o) says =
    let m : 112 ≡ 101 = ap (λ (l : Text). get_or l 0 0) says.0 in omega (arith, m)
no_plan rows none (Exec o) says =
    let m : 112 ≡ 101 = ap (λ (l : Text). get_or l 0 0) says.0 in omega (arith, m)
no_plan rows none (Explain o) says =
    let m : 112 ≡ 101 = ap (λ (l : Text). get_or l 0 0) says.0 in omega (arith, m)
no_plan rows none (Findings o) says =
    let m : 112 ≡ 102 = ap (λ (l : Text). get_or l 0 0) says.0 in omega (arith, m)
no_plan rows none Lsp says =
    let m : 112 ≡ 108 = ap (λ (l : Text). get_or l 0 0) says in omega (arith, m)
no_plan rows none Migrate says =
    let m : 112 ≡ 109 = ap (λ (l : Text). get_or l 0 0) says in omega (arith, m)
no_plan rows none (Outcomes o) says =
    let m : 112 ≡ 111 = ap (λ (l : Text). get_or l 0 0) says.0 in omega (arith, m)
no_plan rows none (Plan o changes) says = none o changes says.1 says.2
no_plan rows none (Record o) says =
    let m : 112 ≡ 114 = ap (λ (l : Text). get_or l 0 0) says.0 in omega (arith, m)
no_plan rows none (Replay o) says =
    let m : 112 ≡ 114 = ap (λ (l : Text). get_or l 0 0) says.0 in omega (arith, m)
no_plan rows none (Run o) says =
    let m : 112 ≡ 114 = ap (λ (l : Text). get_or l 0 0) says.0 in omega (arith, m)
no_plan rows none (States o) says =
    let m : 112 ≡ 115 = ap (λ (l : Text). get_or l 0 0) says.0 in omega (arith, m)

-- if its options cannot be read, the rows of `replay` say nothing
pub no_replay : (rows : List Row) → ((o : ReplayOptions) → HasReplayLend rows o → ⊥) → (o : Options)
    → IsReadFrom (codes "replay") rows o → ⊥
no_replay rows none Bank says =
    let m : 114 ≡ 98 = ap (λ (l : Text). get_or l 0 0) says in omega (arith, m)
no_replay rows none (Check o) says =
    let m : 114 ≡ 99 = ap (λ (l : Text). get_or l 0 0) says.0 in omega (arith, m)
no_replay rows none Claims says =
    let m : 114 ≡ 99 = ap (λ (l : Text). get_or l 0 0) says in omega (arith, m)
no_replay rows none Dap says =
    let m : 114 ≡ 100 = ap (λ (l : Text). get_or l 0 0) says in omega (arith, m)
no_replay rows none (Debug o) says =
    let m : 114 ≡ 100 = ap (λ (l : Text). get_or l 0 0) says.0 in omega (arith, m)
no_replay rows none (Draw o) says =
    let m : 114 ≡ 100 = ap (λ (l : Text). get_or l 0 0) says.0 in omega (arith, m)
no_replay rows none (Emit o) says =
    let m : 114 ≡ 101 = ap (λ (l : Text). get_or l 0 0) says.0 in omega (arith, m)
no_replay rows none (Exec o) says =
    let m : 114 ≡ 101 = ap (λ (l : Text). get_or l 0 0) says.0 in omega (arith, m)
no_replay rows none (Explain o) says =
    let m : 114 ≡ 101 = ap (λ (l : Text). get_or l 0 0) says.0 in omega (arith, m)
no_replay rows none (Findings o) says =
    let m : 114 ≡ 102 = ap (λ (l : Text). get_or l 0 0) says.0 in omega (arith, m)
no_replay rows none Lsp says =
    let m : 114 ≡ 108 = ap (λ (l : Text). get_or l 0 0) says in omega (arith, m)
no_replay rows none Migrate says =
    let m : 114 ≡ 109 = ap (λ (l : Text). get_or l 0 0) says in omega (arith, m)
no_replay rows none (Outcomes o) says =
    let m : 114 ≡ 111 = ap (λ (l : Text). get_or l 0 0) says.0 in omega (arith, m)
no_replay rows none (Plan o changes) says =
    let m : 114 ≡ 112 = ap (λ (l : Text). get_or l 0 0) says.0 in omega (arith, m)
no_replay rows none (Record o) says =
    let m : 112 ≡ 99 = ap (λ (l : Text). get_or l 2 0) says.0 in omega (arith, m)
no_replay rows none (Replay o) says = none o says.1
no_replay rows none (Run o) says =
    let m : 101 ≡ 117 = ap (λ (l : Text). get_or l 1 0) says.0 in omega (arith, m)
no_replay rows none (States o) says =
    let m : 114 ≡ 115 = ap (λ (l : Text). get_or l 0 0) says.0 in omega (arith, m)

-- if its options cannot be read, the rows of `draw` say nothing
pub no_draw : (rows : List Row) → ((o : DrawOptions) → HasDrawOptions rows o → ⊥) → (o : Options)
    → IsReadFrom (codes "draw") rows o → ⊥
no_draw rows none Bank says =
    let m : 100 ≡ 98 = ap (λ (l : Text). get_or l 0 0) says in omega (arith, m)
no_draw rows none (Check o) says =
    let m : 100 ≡ 99 = ap (λ (l : Text). get_or l 0 0) says.0 in omega (arith, m)
no_draw rows none Claims says =
    let m : 100 ≡ 99 = ap (λ (l : Text). get_or l 0 0) says in omega (arith, m)
no_draw rows none Dap says =
    let m : 114 ≡ 97 = ap (λ (l : Text). get_or l 1 0) says in omega (arith, m)
no_draw rows none (Debug o) says =
    let m : 114 ≡ 101 = ap (λ (l : Text). get_or l 1 0) says.0 in omega (arith, m)
no_draw rows none (Draw o) says = none o says.1
no_draw rows none (Emit o) says =
    let m : 100 ≡ 101 = ap (λ (l : Text). get_or l 0 0) says.0 in omega (arith, m)
no_draw rows none (Exec o) says =
    let m : 100 ≡ 101 = ap (λ (l : Text). get_or l 0 0) says.0 in omega (arith, m)
no_draw rows none (Explain o) says =
    let m : 100 ≡ 101 = ap (λ (l : Text). get_or l 0 0) says.0 in omega (arith, m)
no_draw rows none (Findings o) says =
    let m : 100 ≡ 102 = ap (λ (l : Text). get_or l 0 0) says.0 in omega (arith, m)
no_draw rows none Lsp says =
    let m : 100 ≡ 108 = ap (λ (l : Text). get_or l 0 0) says in omega (arith, m)
no_draw rows none Migrate says =
    let m : 100 ≡ 109 = ap (λ (l : Text). get_or l 0 0) says in omega (arith, m)
no_draw rows none (Outcomes o) says =
    let m : 100 ≡ 111 = ap (λ (l : Text). get_or l 0 0) says.0 in omega (arith, m)
no_draw rows none (Plan o changes) says =
    let m : 100 ≡ 112 = ap (λ (l : Text). get_or l 0 0) says.0 in omega (arith, m)
no_draw rows none (Record o) says =
    let m : 100 ≡ 114 = ap (λ (l : Text). get_or l 0 0) says.0 in omega (arith, m)
no_draw rows none (Replay o) says =
    let m : 100 ≡ 114 = ap (λ (l : Text). get_or l 0 0) says.0 in omega (arith, m)
no_draw rows none (Run o) says =
    let m : 100 ≡ 114 = ap (λ (l : Text). get_or l 0 0) says.0 in omega (arith, m)
no_draw rows none (States o) says =
    let m : 100 ≡ 115 = ap (λ (l : Text). get_or l 0 0) says.0 in omega (arith, m)

-- the rows have the name of the code that is read, or nothing if none is
pub code_read : {E : Type 0} (f : Found) (id : Text) (code : Option Code)
    → (one_text f id ≡ None → ◌≡◌ {A = Result (Option Code) E} (Ok code) (Ok None))
    → ((t : Text) → one_text f id ≡ Some t → TriesOne {E = E} (λ t r. IsCodeOf t r) t (Ok code))
    → one_of id (rows_of f) ≡ option_map code_name code
code_read {E} f id code none value = sym (one_text-rows f id) ∙ go (one_text f id) refl
  where
    named : (t : Text) (code : Option Code) → TriesOne {E = E} (λ t r. IsCodeOf t r) t (Ok code) → Some t ≡ option_map code_name code
    named t (Some c) says = ap Some (sym says)
    named t None says = elim says [ ]

    unnamed : (code : Option Code) → ◌≡◌ {A = Result (Option Code) E} (Ok code) (Ok None) → None ≡ option_map code_name code
    unnamed None same = refl
    unnamed (Some c) same = absurd (cc same)

    go : (o : Option Text) → one_text f id ≡ o → one_text f id ≡ option_map code_name code
    go None empty = empty ∙ unnamed code (none empty)
    go (Some t) text = text ∙ named t code (value t text)

-- if none can be read, the rows have the name of no code
pub code_unread : {E : Type 0} (f : Found) (id : Text) (e : E) → (one_text f id ≡ None → ◌≡◌ {A = Result (Option Code) E} (Err e) (Ok None))
    → ((t : Text) → one_text f id ≡ Some t → TriesOne (λ t r. IsCodeOf t r) t (Err e))
    → (code : Option Code) → one_of id (rows_of f) ≡ option_map code_name code → ⊥
code_unread f id e none value code has = go (one_text f id) refl
  where
    unnamed : (t : Text) (code : Option Code) → ((c : Code) → code_name c ≡ t → ⊥) → Some t ≡ option_map code_name code → ⊥
    unnamed t (Some c) no_one same = no_one c (cc same)
    unnamed t None no_one same = absurd (cc same)

    go : (o : Option Text) → one_text f id ≡ o → ⊥
    go None empty = absurd (cc (none empty))
    go (Some t) text = unnamed t code (value t text) (sym text ∙ one_text-rows f id ∙ has)

-- the rows have the word of who is read
pub lend_read : (E : Type 0) (f : Found) (lend : Lend) → (one_text f (codes "lend") ≡ None → Some lend ≡ None)
    → ((t : Text) → one_text f (codes "lend") ≡ Some t → ReadsOne {E = E} (λ t r. IsLendOf t r) t (Some lend)) → HasLend (rows_of f) lend
lend_read E f lend none value = sym (one_text-rows f (codes "lend")) ∙ go (one_text f (codes "lend")) refl
  where
    go : (o : Option Text) → one_text f (codes "lend") ≡ o → one_text f (codes "lend") ≡ Some (lend_word lend)
    go None is = absurd (cc (none is))
    go (Some t) is = is ∙ ap Some (sym (value t is))

-- if nobody is read, the rows have no word for it
pub lend_unread : (E : Type 0) (f : Found)
    → ((t : Text) → one_text f (codes "lend") ≡ Some t → ReadsOne {E = E} (λ t r. IsLendOf t r) t None)
    → (lend : Lend) → HasLend (rows_of f) lend → ⊥
lend_unread E f value lend has =
    (value (lend_word lend) (one_text-rows f (codes "lend") ∙ has)).1 lend refl

-- if neither is read, nothing is
pub no_check_options : (rows : List Row) → ((n : ℕ) → HasNumberIn rows (codes "heap") 1024 16777216 n → ⊥)
    → (one_of (codes "heap") rows ≡ None → ⊥) → (o : CheckOptions) → HasCheckOptions rows o → ⊥
no_check_options rows none given o says = go o.heap refl says.0
  where
    go : (heap : Option ℕ) → o.heap ≡ heap → HasOptionalNumber rows (codes "heap") heap → ⊥
    go None is h = given h
    go (Some n) is h = none n (h, o.heap_suffices n is, o.heap_fits n is)

-- if a number is given and none is read, nothing is
pub no_number_given : (rows : List Row) (id : Text) (least most : ℕ) → ((n : ℕ) → HasNumberIn rows id least most n → ⊥)
    → (one_of id rows ≡ None → ⊥) → (o : Option ℕ) → HasOptionalNumberIn rows id least most o → ⊥
no_number_given rows id least most none given None says = given says
no_number_given rows id least most none given (Some n) says = none n says

-- if a seed is given and none is read, nothing is
pub no_record_seed : (rows : List Row) → ((n : ℕ) → HasNumberIn rows (codes "seed") 0 18446744073709551615 n → ⊥)
    → (one_of (codes "seed") rows ≡ None → ⊥) → (o : RecordOptions) → HasRecordNumbers rows o → ⊥
no_record_seed rows none given o says = go o.seed says.1 says.2
  where
    go : (seed : Option ℕ) → HasOptionalNumber rows (codes "seed") seed → IfSome seed (λ n. n ≤ 18446744073709551615) → ⊥
    go None h fits = given h
    go (Some n) h fits = none n (h, omega arith, fits)

-- if nothing is read of an option, the rows have no text for it
pub no_text : {E : Type 0} (gives : Text → Result ℕ E → Type 0) (f : Found) (id : Text) (read : Result (Option ℕ) E) → read ≡ Ok None
    → ((t : Text) → one_text f id ≡ Some t → TriesOne gives t read) → one_of id (rows_of f) ≡ None
no_text gives f id read is value = sym (one_text-rows f id) ∙ go (one_text f id) refl
  where
    go : (o : Option Text) → one_text f id ≡ o → one_text f id ≡ None
    go None none = none
    go (Some t) some = elim (subst (TriesOne gives t) is (value t some)) [ ]

-- if something is read of it, they have
pub some_text : {E : Type 0} (f : Found) (id : Text) (read : Result (Option ℕ) E) → (one_text f id ≡ None → read ≡ Ok None)
    → (read ≡ Ok None → ⊥) → one_of id (rows_of f) ≡ None → ⊥
some_text f id read none something absent = something (none (one_text-rows f id ∙ absent))

-- an error of clap's other than out of memory comes only if the words have a fault
pub clap_refused : (kinds : Kinds) (e : Error) (fault : WordsFault) → HasKind kinds e → (kind_of e ≡ OutOfMemory → fault ≡ Memory)
    → BlamesWords fault → kinds ≡ [] → ⊥
clap_refused kinds e (Words text) (inl is) memory blames none = absurd (cc (memory is))
clap_refused kinds e (Words text) (inr is) memory blames none = subst (IsAmong (kind_of e)) none is
clap_refused kinds e Memory is memory blames none = blames

-- the matches of this command line are a function of the words
pub is_simple_command_line : is_simple command_line ≡ true
unfolding command_line with_text_commands with_code_commands with_object_commands with_pick_commands check_command
    claims_command debug_command draw_command emit_command exec_command migrate_command outcomes_command
    plan_command record_command replay_command run_command with_other_commands explain_command findings_command with_run_rules
    with_bank_commands states_command bank_command dap_command lsp_command clap_on_literals
is_simple_command_line = refl

pub is_free_command_line : is_simple_and_free command_line ≡ true
unfolding command_line with_text_commands with_code_commands with_object_commands with_pick_commands check_command
    claims_command debug_command draw_command emit_command exec_command migrate_command outcomes_command
    plan_command record_command replay_command run_command with_other_commands explain_command findings_command with_run_rules
    with_bank_commands states_command bank_command dap_command lsp_command clap_on_literals
is_free_command_line = refl

-- a fact that holds anyway holds if there is no value
pub IfNone-of : {X P : Type 0} (o : Option X) → P → IfNone o P
IfNone-of None p = p
IfNone-of (Some x) p = tt

-- the words with capitals, as they are got from what was found
pub words_found : (f : Found) (words : Option (Bor (List (Bor Text))))
    → option_map (λ s. map (λ v. v.now) s.now) words ≡ option_map raw_values (matched_of f (codes "capital"))
    → capital_words (rows_of f) ≡ unwrap_or (option_map (λ s. map (λ v. v.now) s.now) words) []
words_found f words is = ap (λ (o : Option (List Text)). unwrap_or o []) (sym (raw_values-rows f (codes "capital")) ∙ sym is)

-- no words name no changes
pub no_changes : AreChanges [] []
no_changes = record { each = tt; few = omega arith; distinct = λ i j d before there. absurd (omega (arith, there)) }

-- if no changes are named, none are had
pub none_changed : (read : Option Changes) (words : List Text) → IfNone read ((changes : List Change) → AreChanges words changes → ⊥)
    → IfNone read ((changes : Changes) → AreChanges words (changes_in changes) → ⊥)
none_changed None words none = λ changes are. none (changes_in changes) are
none_changed (Some c) words none = tt

-- ---- options of `outcomes` that mean nothing together

-- a flag is read from the rows in one way
pub one_flag : (rows : List Row) (id : Text) (a b : Bool) → HasFlag rows id a → HasFlag rows id b → a ≡ b
one_flag rows id true true x y = refl
one_flag rows id false false x y = refl
one_flag rows id true false x y = let w : false ≡ true = y.1 (x.0 refl) in absurd (cc w)
one_flag rows id false true x y = let w : false ≡ true = x.1 (y.0 refl) in absurd (cc w)

-- and so is whether a number is given
pub one_given : (rows : List Row) (id : Text) (least most : ℕ) (a b : Option ℕ) → HasOptionalNumberIn rows id least most a
    → HasOptionalNumberIn rows id least most b → has_value a ≡ has_value b
one_given rows id least most None None x y = refl
one_given rows id least most (Some m) (Some n) x y = refl
one_given rows id least most None (Some n) x y = let is = y.0.1 in absurd (cc (x, is))
one_given rows id least most (Some m) None x y = let is = x.0.1 in absurd (cc (y, is))

-- so if the options that are read mean nothing together, the rows say none that do
pub no_others : (rows : List Row) (o : OutcomesOptions) → (MeanSomething o → ⊥)
    → HasFlag rows (codes "first-deadlock") o.first_deadlock → HasFlag rows (codes "prints") o.prints
    → HasFlag rows (codes "fair") o.fair → HasFlag rows (codes "expect") o.expect
    → HasFlag rows (codes "any-order") o.any_order → HasFlag rows (codes "endless") o.endless
    → HasFlag rows (codes "graph") o.graph → HasOptionalNumberIn rows (codes "run") 1 MAX_STATES o.run
    → HasOptionalNumberIn rows (codes "deadlock") 1 MAX_STATES o.deadlock
    → (other : OutcomesOptions) → HasSearchOptions rows other → ⊥
no_others rows o none first prints fair expect order endless graph run deadlock other says =
    let (states, lends, first_2, prints_2, fair_2, expect_2, order_2, endless_2, graph_2, run_2, deadlock_2, together) = says in
    let is_first = one_flag rows _ _ _ first_2 first in
    let is_prints = one_flag rows _ _ _ prints_2 prints in
    let is_fair = one_flag rows _ _ _ fair_2 fair in
    let is_expect = one_flag rows _ _ _ expect_2 expect in
    let is_order = one_flag rows _ _ _ order_2 order in
    let is_endless = one_flag rows _ _ _ endless_2 endless in
    let is_graph = one_flag rows _ _ _ graph_2 graph in
    let is_run = one_given rows _ _ _ _ _ run_2 run in
    let is_deadlock = one_given rows _ _ _ _ _ deadlock_2 deadlock in
    let places : in_place other ≡ in_place o = cc (is_expect, is_endless, is_graph, is_run, is_deadlock) in
    let lists : in_place_of_list other ≡ in_place_of_list o = cc (is_expect, is_endless, is_graph) in
    let ends : of_no_end other ≡ of_no_end o = cc (is_graph, is_run, is_deadlock) in
    none (record {
      one = subst AtMostOne places together.one;
      order = λ given. sym is_expect ∙ together.order (is_order ∙ given);
      fair = λ given. subst NoneGiven ends (together.fair (is_fair ∙ given));
      first = λ given. subst NoneGiven lists (together.first (is_first ∙ given));
      prints = λ given. subst NoneGiven lists (together.prints (is_prints ∙ given));
    })
