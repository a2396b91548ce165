-- Lines that only ask, and lines that are refused.
use Rattle.std.specs.Prelude.{◌≡◌, Bool, true, false, ℕ, nat_lt, List, ◌∷◌, length}
use Rattle.pb_base.specs.Lines.{NameTable}
use Rattle.pb_bank.specs.declared.kind.Kind.{Kind}
use Rattle.pb_bank.specs.declared.kind.Kind.TheVariants as kind
use Rattle.pb_bank.specs.declared.refusal.Refusal.{Refusal}
use Rattle.pb_bank.specs.declared.said.Said.TheVariants as told
use Rattle.pb_bank.specs.Answers.{AnswersLine, first_of, most}
use Rattle.pb_bank.specs.Desks.{DeskValue}
use Rattle.pb_bank.specs.Sayings.{Saying}
use Rattle.pb_bank.specs.Words.{kind_within, trimmed, words_of}

-- the commands that only ask, lines that are no command, and those that are skipped
abbrev pub only_asks : Kind → Bool
only_asks kind.Skip = true
only_asks kind.Resource = false
only_asks kind.Capital = false
only_asks kind.Claim = false
only_asks kind.Job = false
only_asks kind.Ask = false
only_asks kind.Want = false
only_asks kind.Drop = false
only_asks kind.Give = false
only_asks kind.Leave = false
only_asks kind.Hold = false
only_asks kind.Why = true
only_asks kind.Order = true
only_asks kind.State = true
only_asks kind.Help = true
only_asks kind.Other = true

-- which command a line is
abbrev pub line_kind : List ℕ → Kind
line_kind line = kind_within (nat_lt most (length (trimmed line))) (first_of (words_of (trimmed line)))

-- the first thing that is said is a refusal
abbrev pub SaysRefused : List Saying → Type 0
SaysRefused said =
    (names : NameTable) × (about : List ℕ) × (refusal : Refusal) × (rest : List Saying)
    × (said ≡ record { names = names; about = about; said = told.Refused refusal } ∷ rest)

-- ---- laws

-- a line that only asks leaves the desk as it is
abbrev pub ReadingChangesNothing : Type 0
ReadingChangesNothing =
    (d : DeskValue) (line : List ℕ) (said : List Saying) (next : DeskValue) → only_asks (line_kind line) ≡ true → AnswersLine d line said next → next ≡ d

-- a line that is refused leaves the desk as it is
abbrev pub RefusedChangesNothing : Type 0
RefusedChangesNothing =
    (d : DeskValue) (line : List ℕ) (said : List Saying) (next : DeskValue) → AnswersLine d line said next → SaysRefused said → next ≡ d
