-- What is answered to lines that only ask.
use Rattle.std.proofs.Common.{◌≡◌, ◌++◌, ℕ, List, [], ◌∷◌, Result, Ok, Err, true}
use Rattle.pb_bank.specs.Answers.{AnswersAlone, AnswersLine, AnswersOrder, AnswersWords, ChecksOrder, Explains, OfRequest, rest_of, slots_of, state_said}
use Rattle.pb_bank.specs.Desks.{DeskValue}
use Rattle.pb_bank.specs.Queues.{wishes_said}
use Rattle.pb_bank.specs.Reading.{ReadingChangesNothing, line_kind, only_asks}
use Rattle.pb_bank.specs.Requests.{request_of}
use Rattle.pb_bank.specs.Sayings.{Saying}
use Rattle.pb_bank.specs.Words.{trimmed, words_of}
use Rattle.pb_bank.specs.declared.kind.Kind.{Kind}
use Rattle.pb_bank.specs.declared.kind.Kind.TheVariants.{Skip, Resource, Capital, Claim, Job, Ask, Want, Drop, Give, Leave}
use Rattle.pb_bank.specs.declared.kind.Kind.TheVariants.{Hold, Why, Order, State, Help, Other}
use Rattle.pb_bank.specs.declared.refusal.Refusal.{Refusal}
use Rattle.pb_bank.specs.declared.request.Request.{Request}
use Rattle.pb_bank.specs.declared.said.Said.{Said}
use Rattle.pb_bank.specs.declared.said.Said.TheVariants as told

explained : (d : DeskValue) (r : Result Request Refusal) (said : List Said) (next : DeskValue)
    → OfRequest (Explains d) r d said next → next ≡ d
explained d (Err refusal) said next says = says.1
explained d (Ok w) said next says = says.3

checked : (d : DeskValue) (r : Result (List ℕ) Refusal) (said : List Said) (next : DeskValue)
    → ChecksOrder d r said next → next ≡ d
checked d (Err refusal) said next says = says.1
checked d (Ok slots) said next says = says.3

ordered : (d : DeskValue) (words : List (List ℕ)) (said : List Said) (next : DeskValue) → AnswersOrder d words said next → next ≡ d
ordered d [] said next says = says.3
ordered d (word ∷ words) said next says = checked d (slots_of d (word ∷ words)) said next says

alone : (all : List Said) (d : DeskValue) (words : List (List ℕ)) (said : List Said) (next : DeskValue) → AnswersAlone all d words said next
    → next ≡ d
alone all d [] said next says = says.1
alone all d (word ∷ words) said next says = says.1

pub asked : (k : Kind) (d : DeskValue) (words : List (List ℕ)) (said : List Saying) (next : DeskValue) → only_asks k ≡ true
    → AnswersWords k d words said next → next ≡ d
asked Skip d words said next asks says = says.1
asked Resource d words said next asks says = absurd cc
asked Capital d words said next asks says = absurd cc
asked Claim d words said next asks says = absurd cc
asked Job d words said next asks says = absurd cc
asked Ask d words said next asks says = absurd cc
asked Want d words said next asks says = absurd cc
asked Drop d words said next asks says = absurd cc
asked Give d words said next asks says = absurd cc
asked Leave d words said next asks says = absurd cc
asked Hold d words said next asks says = absurd cc
asked Why d words said next asks says = explained d (request_of d words) says.0 next says.1
asked Order d words said next asks says = ordered d words says.0 next says.1
asked State d words said next asks says = alone (state_said d.bank ++ wishes_said d.wishes) d words says.0 next says.1
asked Help d words said next asks says = alone (told.Help ∷ []) d words says.0 next says.1
asked Other d words said next asks says = says.1.1

pub reading_changes_nothing : ReadingChangesNothing
unfolding AnswersLine
reading_changes_nothing d line said next asks says = asked (line_kind line) d (rest_of (words_of (trimmed line))) said next asks says.0
