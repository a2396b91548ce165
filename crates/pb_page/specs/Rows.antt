-- The rows of a run: what each pick changes, and the event that it shows.
use Rattle.std.specs.Prelude.{◌≡◌, ℕ, ◌+◌, cond, List, [], ◌++◌, codes, length, slice_get, Some, ⊤}
use Rattle.std.specs.Fmt.{decimal}
use Rattle.std.specs.Str.{bytes_eq}
use Rattle.pb_base.specs.Lines.{HasNames, NameTable, each_below, line_of}
use Rattle.pb_base.specs.declared.lending.Lending.{Lending}
use Rattle.pb_base.specs.declared.pick.Pick.{Pick}
use Rattle.pb_base.specs.declared.step.Step.{Step}
use Rattle.pb_base.specs.declared.step.Step.TheVariants.{Silent, Did, NotEnabled}
use Rattle.pb_code.specs.Whole.{Code, ProcessLabels}
use Rattle.pb_debug_positions.specs.Searches.{StepsAt}
use Rattle.pb_history.specs.Positions.{state_after}
use Rattle.pb_json.specs.Strings.{string_text}
use Rattle.pb_page.specs.States.{IsStateBy}
use Rattle.pb_page.specs.Texts.{entry_at}

-- an entry with its number, if it is another than it was
abbrev pub change_text : ℕ → (before after : List ℕ) → List ℕ
change_text k before after = cond (bytes_eq after before) [] (codes "," ++ (decimal k ++ (codes "," ++ after)))

-- the entries that differ, in rising order
abbrev pub changes_text : (before after : List (List ℕ)) → List ℕ
changes_text before after =
    each_below (λ k. change_text k (entry_at before k) (entry_at after k)) (length after)

-- the line of the event that a pick shows, if it shows one
abbrev pub shown_text : NameTable → Step → List ℕ
shown_text names Silent = []
shown_text names (Did event) = codes "," ++ string_text (line_of names event)
shown_text names NotEnabled = []

-- a row: the process and the arm of the pick, the entries that differ with their values, and the event line
abbrev pub row_text : NameTable → Pick → (before after : List (List ℕ)) → Step → List ℕ
row_text names pick before after step =
    codes "[" ++ (decimal pick.process ++ (codes "," ++ (decimal pick.arm
    ++ (changes_text before after ++ (shown_text names step ++ codes "]")))))

-- all that a pick shows has a name
abbrev pub HasNamesOf : NameTable → Step → Type 0
HasNamesOf names Silent = ⊤
HasNamesOf names (Did event) = HasNames names event
HasNamesOf names NotEnabled = ⊤

-- the row of pick i: the states are those just before and just after it, under this lending
pub record IsRow (lending : Lending) (code : Code) (labels : List ProcessLabels) (picks : List Pick) (i : ℕ) (row : List ℕ) : Type 0 where
  pub pick : Pick
  pub there : slice_get picks i ≡ Some pick
  pub step : Step
  pub steps : StepsAt code picks i step
  pub before : List (List ℕ)
  pub is_before : IsStateBy lending code labels (state_after code picks i) before
  pub after : List (List ℕ)
  pub is_after : IsStateBy lending code labels (state_after code picks (i + 1)) after
  pub written : row ≡ row_text code.names pick before after step
