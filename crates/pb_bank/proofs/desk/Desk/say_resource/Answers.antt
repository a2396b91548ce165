use Rattle.std.proofs.Common.{◌≡◌, ℕ, List, [], ◌∷◌, length, Option, Some, None, sym, ap, ◌∙◌, subst, refl, append-nil}
use Rattle.std.proofs.lemmas.Bool.{eqb-true}
use Rattle.pb_bank.specs.Answers.{AddsResource, AnswersResource, resource_refusal, with_resource}
use Rattle.pb_bank.specs.Desks.{DeskValue}
use Rattle.pb_bank.specs.Words.{amount_of, words_of}
use Rattle.pb_bank.specs.declared.refusal.Refusal.{Refusal}
use Rattle.pb_base.proofs.Results.{on_ok}
use Rattle.pb_bank.proofs.desk.Desk.say_resource.Goals as goal

-- two words that name a resource and its amount
added : (d : DeskValue) (words : List (List ℕ)) (name word : List ℕ) (amount : ℕ) (o : Option ℕ) (r : Option Refusal) (next : DeskValue)
    → words ≡ name ∷ word ∷ [] → o ≡ amount_of word → o ≡ Some amount → r ≡ resource_refusal d name o → r ≡ None
    → next ≡ with_resource d name amount → AnswersResource d words [] next
added d words name word amount o r next are is some refusal none same =
    let here : AddsResource d name (Some amount) None [] next = (refl, same) in
    let there : Some amount ≡ amount_of word = sym some ∙ is in
    let taken : None ≡ resource_refusal d name (amount_of word) = sym none ∙ (refusal ∙ ap (resource_refusal d name) is) in
    subst (λ (ws : List (List ℕ)). AnswersResource d ws [] next) (sym are)
    (subst (λ (r : Option Refusal). AddsResource d name (amount_of word) r [] next) taken
    (subst (λ (o : Option ℕ). AddsResource d name o None [] next) there here))

pub returns-in-Some-amount : goal.returns-in-Some-amount
returns-in-Some-amount c =
    let first = c.in-Some.words.first.now in
    let second = c.in-Some.words.second.now in
    let empty : length c.first_word.result.word.now ≡ 0 =
    eqb-true (length c.first_word.result.word.now) 0 (sym c.is_empty.ensures ∙ c.if-not-is_empty.false) in
    let words : words_of c.args.text.now ≡ first ∷ second ∷ [] =
    c.in-Some.ensures.some ∙ ap (λ (ws : List (List ℕ)). first ∷ second ∷ ws) (c.first_word.ensures.none empty) in
    on_ok c.add_resource.result _ _ c.add_resource.ensures (λ same. (
      [],
      added c.args.self.now (words_of c.args.text.now) first second c.in-Some-amount.amount c.amount_of-amount.result c.resource_refusal.result
          c.add_resource.new.self words c.amount_of-amount.ensures c.in-Some-amount.is c.resource_refusal.ensures.said
          c.in_default-resource_refusal.is same,
      sym (append-nil c.args.out.now.items),
    ))
