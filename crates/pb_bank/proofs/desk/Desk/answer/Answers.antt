use Rattle.std.proofs.Common.{◌≡◌, ◌≢◌, ◌++◌, ℕ, List, [], ◌∷◌, length, ltb, refl, sym, ap, ◌∙◌, subst, append_assoc, rules}
use Rattle.pb_bank.specs.Answers.{AnswersKind, AnswersLine, AnswersText, AnswersWords, first_of, line_words, rest_of}
use Rattle.pb_bank.specs.Desks.{DeskValue, NoneIsAllowed}
use Rattle.pb_bank.specs.Sayings.{sayings_of}
use Rattle.pb_bank.specs.Words.{before, kind_within, trimmed, words_of}
use Rattle.pb_bank.specs.declared.said.Said.{Said}
use Rattle.pb_bank.specs.declared.said.Said.TheVariants.{Ready}
use Rattle.pb_bank.specs.declared.kind.Kind.{Kind}
use Rattle.pb_bank.specs.declared.kind.Kind.TheVariants.{Skip, Resource, Capital, Claim, Job, Ask, Want, Drop, Give, Leave}
use Rattle.pb_bank.specs.declared.kind.Kind.TheVariants.{Hold, Why, Order, State, Help, Other}
use Rattle.pb_base.proofs.Results.{on_ok}
use Rattle.pb_bank.proofs.WordLemmas.{first_is}
use Rattle.pb_bank.proofs.desk.Desk.answer.Goals as goal

-- the answer to what is not skipped
spoken : (k : Kind) (d : DeskValue) (words : List (List ℕ)) (all : List Said) (next : DeskValue) → k ≢ Skip
    → AnswersKind k d words all next → AnswersWords k d words (sayings_of next.names words (all ++ Ready ∷ [])) next
spoken Skip d words all next some says = absurd (some refl)
spoken Resource d words all next some says = (all, says, refl)
spoken Capital d words all next some says = (all, says, refl)
spoken Claim d words all next some says = (all, says, refl)
spoken Job d words all next some says = (all, says, refl)
spoken Ask d words all next some says = (all, says, refl)
spoken Want d words all next some says = (all, says, refl)
spoken Drop d words all next some says = (all, says, refl)
spoken Give d words all next some says = (all, says, refl)
spoken Leave d words all next some says = (all, says, refl)
spoken Hold d words all next some says = (all, says, refl)
spoken Why d words all next some says = (all, says, refl)
spoken Order d words all next some says = (all, says, refl)
spoken State d words all next some says = (all, says, refl)
spoken Help d words all next some says = (all, says, refl)
spoken Other d words all next some says = (all, says, refl)

-- so it is of the words of a line
spoken_line : (d : DeskValue) (line text word behind : List ℕ) (all : List Said) (k : Kind) (next : DeskValue) → text ≡ trimmed line
    → words_of text ≡ before word (words_of behind) → (length word ≡ 0 → words_of text ≡ [])
    → k ≡ kind_within (ltb 4096 (length text)) word → k ≢ Skip → AnswersKind k d (words_of behind) all next
    → NoneIsAllowed next.bank.state next.wishes → AnswersLine d line (sayings_of next.names (line_words line) (all ++ Ready ∷ [])) next
unfolding AnswersLine
spoken_line d line text word behind all k next is words none kind some says waits =
    let said = sayings_of next.names (words_of behind) (all ++ Ready ∷ []) in
    let parts = first_is (words_of text) word (words_of behind) words none in
    let one : AnswersWords (kind_within (ltb 4096 (length text)) word) d (words_of behind) said next =
    subst (λ (j : Kind). AnswersWords j d (words_of behind) said next) kind (spoken k d (words_of behind) all next some says) in
    let two : AnswersWords (kind_within (ltb 4096 (length text)) (first_of (words_of text))) d (words_of behind) said next =
    subst (λ (w : List ℕ). AnswersWords (kind_within (ltb 4096 (length text)) w) d (words_of behind) said next) (sym parts.0) one in
    let three : AnswersText d text said next =
    subst (λ (ws : List (List ℕ)). AnswersWords (kind_within (ltb 4096 (length text)) (first_of (words_of text))) d ws said next) (sym parts.1) two in
    let same : words_of behind ≡ line_words line = sym parts.1 ∙ ap (λ (t : List ℕ). rest_of (words_of t)) is in (
      subst (λ (ws : List (List ℕ)). AnswersText d (trimmed line) (sayings_of next.names ws (all ++ Ready ∷ [])) next) same
          (subst (λ (t : List ℕ). AnswersText d t said next) is three),
      waits,
    )

pub returns : goal.returns
returns c =
    let said = c.in_ok-say_kind.ensures in
    let flat : (c.args.out.now.items ++ said.0) ++ Ready ∷ [] ≡ c.args.out.now.items ++ (said.0 ++ Ready ∷ []) = simp append_assoc in
    let some : c.kind_within-kind.result ≢ Skip = search rules in
    on_ok c.say.result _ _ c.say.ensures (λ ready. (
      said.0 ++ Ready ∷ [],
      spoken_line c.args.self.now c.args.line.now c.trimmed-text.result.now c.first_word-first.result.word.now c.first_word-first.result.rest.now
          said.0 c.kind_within-kind.result c.say_kind.new.self c.trimmed-text.ensures c.first_word-first.ensures.words
          c.first_word-first.ensures.none c.kind_within-kind.ensures some said.1 c.waiting-2.ensures.waits,
      ready ∙ (ap (λ (o : List Said). o ++ Ready ∷ []) said.2 ∙ flat),
    ))
