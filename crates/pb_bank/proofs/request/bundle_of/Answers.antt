use Rattle.std.proofs.Common.{Vec, Global, ◌≡◌, ℕ, ◌*◌, ◌<◌, ◌++◌, Bool, true, false, cond, eqb, List, [], ◌∷◌, length, map, All, Result, Ok, Err}
use Rattle.std.proofs.Common.{sym, ap, ◌∙◌, subst, arith}
use Rattle.std.proofs.lemmas.Bool.{eqb-true, eqb-false}
use Rattle.std.proofs.lemmas.List.Elements.{All-cons, All-push}
use Rattle.pb_base.specs.declared.pair.Pair.{Pair}
use Rattle.pb_bank.specs.declared.refusal.Refusal.{Refusal}
use Rattle.pb_bank.specs.declared.refusal.Refusal.TheVariants.{NoComma, Twice}
use Rattle.pb_bank.specs.Requests.{pair_of, pairs_after, pairs_of, comma_place}
use Rattle.pb_bank.specs.Words.{before, words_of}
use Rattle.pb_bank.proofs.PairLemmas.{first_pair, more_pairs, new_parts, no_comma, no_pairs, none_there, short_pairs}
use Rattle.pb_bank.proofs.WordLemmas.{before_some}
use Rattle.pb_bank.proofs.request.bundle_of.Goals as goal

seen : List (Vec ℕ Global) → List (List ℕ)
seen names = map (λ (n : Vec ℕ Global). n.items) names

-- the words after a comma
comma_words : (rest comma behind : List ℕ) (b : Bool) → words_of rest ≡ before comma (words_of behind) → b ≡ eqb (length comma) 0 → b ≡ false
    → words_of rest ≡ comma ∷ words_of behind
comma_words rest comma behind b words is some =
    let other : length comma ≡ 0 → ⊥ = eqb-false (length comma) 0 (sym is ∙ some) in
    words ∙ before_some comma (words_of behind) (omega (arith, other))

-- what is said of a pair after so many others
placed : (names : List (List ℕ)) (pairs : List Pair) (n : ℕ) (amount resource : List ℕ) (one : Result Pair Refusal) → n ≡ length pairs
    → one ≡ pair_of names (3 * n) amount resource → pair_of names (comma_place pairs) amount resource ≡ one
placed names pairs n amount resource one is said = ap (λ k. pair_of names (3 * k) amount resource) (sym is) ∙ sym said

pub returns-in_default-clause-said : goal.returns-in_default-clause-said
unfolding seen
returns-in_default-clause-said c = sym (no_pairs (seen c.args.names.now) (words_of c.args.text.now) c.in_default.ensures.none)

pub returns-in-Err-clause-said : goal.returns-in-Err-clause-said
unfolding seen
returns-in-Err-clause-said c =
    let names = seen c.args.names.now in
    let words = c.in-Some.words in
    sym (ap (pairs_of names) c.in-Some.ensures.some
    ∙ first_pair names words.first.now words.second.now (words_of words.rest.now) (Err c.in-Err.refusal) (sym c.in-Err.ensures.said))

pub loop-comma-init : goal.loop-comma-init
unfolding seen
loop-comma-init c =
    let names = seen c.args.names.now in
    let words = c.in-Some.words in
    let pair = c.in-Ok.pair in
    let many = length c.args.names.now in
    record {
      same =
          ap (pairs_of names) c.in-Some.ensures.some
          ∙ (first_pair names words.first.now words.second.now (words_of words.rest.now) (Ok pair) (sym c.in-Ok.ensures.said)
          ∙ ap (λ (ps : List Pair). pairs_after names ps (words_of words.rest.now)) (sym c.one-bundle.ensures));
      below =
          subst (λ (ps : List Pair). All (λ p. p.resource < many) ps) (sym c.one-bundle.ensures)
          (All-cons (λ p. p.resource < many) pair [] c.in-Ok.ensures.below (λ k d lt. absurd (omega (arith, lt))));
    }

pub returns-then-is_empty-clause-said : goal.returns-then-is_empty-clause-said
unfolding seen
returns-then-is_empty-clause-said c =
    let names = seen c.args.names.now in
    let none = eqb-true (length c.first_word-comma.result.word.now) 0 (sym c.is_empty.ensures ∙ c.if-is_empty.true) in
    sym (c.loop-comma.invariant.same ∙ ap (pairs_after names c.loop-comma.bundle) (c.first_word-comma.ensures.none none))

pub returns-then-is_empty-clause-below : goal.returns-then-is_empty-clause-below
returns-then-is_empty-clause-below c = c.loop-comma.invariant.below

pub returns-in_default-two_words-clause-said : goal.returns-in_default-two_words-clause-said
unfolding seen
returns-in_default-two_words-clause-said c =
    let names = seen c.args.names.now in
    let comma = c.first_word-comma.result in
    let words = comma_words c.loop-comma.rest.now comma.word.now comma.rest.now c.is_empty.result c.first_word-comma.ensures.words c.is_empty.ensures
    c.if-is_empty.false in
    sym (c.loop-comma.invariant.same
    ∙ (ap (pairs_after names c.loop-comma.bundle) words
    ∙ short_pairs names c.loop-comma.bundle comma.word.now (words_of comma.rest.now) c.in_default-two_words.ensures.none
    (sym c.is_comma.ensures ∙ c.if-not-is_comma.false)))

pub returns-then-not-is_comma-clause-said : goal.returns-then-not-is_comma-clause-said
unfolding seen
returns-then-not-is_comma-clause-said c =
    let names = seen c.args.names.now in
    let comma = c.first_word-comma.result in
    let words = comma_words c.loop-comma.rest.now comma.word.now comma.rest.now c.is_empty.result c.first_word-comma.ensures.words c.is_empty.ensures
    c.if-is_empty.false in
    let none : ℕ → Result (List Pair) Refusal = λ n. Err (NoComma (3 * n)) in
    sym (c.loop-comma.invariant.same
    ∙ (ap (pairs_after names c.loop-comma.bundle) words
    ∙ (no_comma names c.loop-comma.bundle comma.word.now (words_of comma.rest.now) (sym c.is_comma.ensures ∙ c.if-not-is_comma.true)
    ∙ ap none (sym c.len-place.ensures.len))))

pub returns-in-Err-pair_of-clause-said : goal.returns-in-Err-pair_of-clause-said
unfolding seen
returns-in-Err-pair_of-clause-said c =
    let names = seen c.args.names.now in
    let comma = c.first_word-comma.result in
    let two = c.in-Some-two_words.words in
    let words = comma_words c.loop-comma.rest.now comma.word.now comma.rest.now c.is_empty.result c.first_word-comma.ensures.words c.is_empty.ensures
    c.if-is_empty.false in
    sym (c.loop-comma.invariant.same
    ∙ (ap (pairs_after names c.loop-comma.bundle) (words ∙ ap (λ (ws : List (List ℕ)). comma.word.now ∷ ws) c.in-Some-two_words.ensures.some)
    ∙ more_pairs names c.loop-comma.bundle comma.word.now two.first.now two.second.now (words_of two.rest.now) true (Err c.in-Err-pair_of.refusal)
    (sym c.is_comma.ensures ∙ c.if-not-is_comma.false)
    (placed names c.loop-comma.bundle c.len-place.result two.first.now two.second.now _ c.len-place.ensures.len c.in-Err-pair_of.ensures.said)))

pub returns-then-not-is_new-clause-said : goal.returns-then-not-is_new-clause-said
unfolding seen
returns-then-not-is_new-clause-said c =
    let names = seen c.args.names.now in
    let comma = c.first_word-comma.result in
    let two = c.in-Some-two_words.words in
    let b = c.loop-comma.bundle in
    let pair = c.in-Ok-pair_of.pair in
    let words = comma_words c.loop-comma.rest.now comma.word.now comma.rest.now c.is_empty.result c.first_word-comma.ensures.words c.is_empty.ensures
    c.if-is_empty.false in
    let next : Result (List Pair) Refusal = pairs_after names (b ++ pair ∷ []) (words_of two.rest.now) in
    let last : Result (List Pair) Refusal = Err (Twice pair.resource) in
    sym (c.loop-comma.invariant.same
    ∙ (ap (pairs_after names b) (words ∙ ap (λ (ws : List (List ℕ)). comma.word.now ∷ ws) c.in-Some-two_words.ensures.some)
    ∙ (more_pairs names b comma.word.now two.first.now two.second.now (words_of two.rest.now) true (Ok pair)
    (sym c.is_comma.ensures ∙ c.if-not-is_comma.false)
    (placed names b c.len-place.result two.first.now two.second.now _ c.len-place.ensures.len c.in-Ok-pair_of.ensures.said)
    ∙ ap (λ t. cond t next last) (sym c.is_new.ensures ∙ c.if-not-is_new.true))))

pub push-requires-clause-new : goal.push-requires-clause-new
push-requires-clause-new c =
    none_there c.loop-comma.bundle c.in-Ok-pair_of.pair.resource
    (new_parts c.loop-comma.bundle c.in-Ok-pair_of.pair (sym c.is_new.ensures ∙ c.if-not-is_new.false))

pub loop-comma-smaller : goal.loop-comma-smaller
loop-comma-smaller c =
    let less = c.in-Some-two_words.ensures.shorter in
    let shorter = c.first_word-comma.ensures.shorter in
    let lt : length c.in-Some-two_words.words.rest.now < length c.loop-comma.rest.now = omega (arith, less, shorter) in
    lt

pub loop-comma-preserved : goal.loop-comma-preserved
unfolding seen
loop-comma-preserved c =
    let names = seen c.args.names.now in
    let comma = c.first_word-comma.result in
    let two = c.in-Some-two_words.words in
    let b = c.loop-comma.bundle in
    let pair = c.in-Ok-pair_of.pair in
    let many = length c.args.names.now in
    let words = comma_words c.loop-comma.rest.now comma.word.now comma.rest.now c.is_empty.result c.first_word-comma.ensures.words c.is_empty.ensures
    c.if-is_empty.false in
    let next : Result (List Pair) Refusal = pairs_after names (b ++ pair ∷ []) (words_of two.rest.now) in
    let last : Result (List Pair) Refusal = Err (Twice pair.resource) in
    record {
      same =
          c.loop-comma.invariant.same
          ∙ (ap (pairs_after names b) (words ∙ ap (λ (ws : List (List ℕ)). comma.word.now ∷ ws) c.in-Some-two_words.ensures.some)
          ∙ (more_pairs names b comma.word.now two.first.now two.second.now (words_of two.rest.now) true (Ok pair)
          (sym c.is_comma.ensures ∙ c.if-not-is_comma.false)
          (placed names b c.len-place.result two.first.now two.second.now _ c.len-place.ensures.len c.in-Ok-pair_of.ensures.said)
          ∙ (ap (λ t. cond t next last) (sym c.is_new.ensures ∙ c.if-not-is_new.false)
          ∙ ap (λ (ps : List Pair). pairs_after names ps (words_of two.rest.now)) (sym c.push.ensures))));
      below =
          subst (λ (ps : List Pair). All (λ p. p.resource < many) ps) (sym c.push.ensures)
          (All-push (λ p. p.resource < many) b pair c.loop-comma.invariant.below c.in-Ok-pair_of.ensures.below);
    }
