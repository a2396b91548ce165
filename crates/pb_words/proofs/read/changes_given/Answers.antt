use Rattle.std.proofs.Common.{◌≡◌, ◌∙◌, List, [], Option, ap, map, option_map, subst, sym, unwrap_or}
use Rattle.std.specs.Prelude.{IfNone, IfSome}
use Rattle.std.specs.Borrow.{Bor}
use Rattle.clap.specs.Words.{Text, found_of, rows_of}
use Rattle.pb_capitals.specs.Changes.{AreChanges, changes_in}
use Rattle.pb_capitals.specs.declared.change.Change.{Change}
use Rattle.pb_words.specs.Read.{capital_words}
use Rattle.pb_words.proofs.ReadLemmas.{no_changes, none_changed, words_found}
use Rattle.pb_words.proofs.read.changes_given.Goals as goal

pub returns-in-Some-clause-some : goal.returns-in-Some-clause-some
returns-in-Some-clause-some c =
    let texts = map (λ (v : Bor Text). v.now) in
    let here : capital_words (rows_of (found_of c.args.matches.now)) ≡ texts c.in-Some.words.now =
    words_found (found_of c.args.matches.now) c.get_raw.result c.get_raw.ensures
    ∙ ap (λ (o : Option (Bor (List (Bor Text)))). unwrap_or (option_map (λ s. texts s.now) o) []) c.in-Some.is in
    subst (λ (ws : List Text). IfSome c.changes_of.result (λ changes. AreChanges ws (changes_in changes))) (sym here) c.changes_of.ensures.some

pub returns-in-Some-clause-none : goal.returns-in-Some-clause-none
returns-in-Some-clause-none c =
    let texts = map (λ (v : Bor Text). v.now) in
    let here : capital_words (rows_of (found_of c.args.matches.now)) ≡ texts c.in-Some.words.now =
    words_found (found_of c.args.matches.now) c.get_raw.result c.get_raw.ensures
    ∙ ap (λ (o : Option (Bor (List (Bor Text)))). unwrap_or (option_map (λ s. texts s.now) o) []) c.in-Some.is in
    none_changed c.changes_of.result (capital_words (rows_of (found_of c.args.matches.now)))
    (subst (λ (ws : List Text). IfNone c.changes_of.result ((changes : List Change) → AreChanges ws changes → ⊥)) (sym here) c.changes_of.ensures.none)

pub returns-in-None-clause-some : goal.returns-in-None-clause-some
returns-in-None-clause-some c =
    let here : capital_words (rows_of (found_of c.args.matches.now)) ≡ [] =
    words_found (found_of c.args.matches.now) c.get_raw.result c.get_raw.ensures
    ∙ ap (λ (o : Option (Bor (List (Bor Text)))). unwrap_or (option_map (λ s. map (λ v. v.now) s.now) o) []) c.in-None.is in
    subst (λ (ws : List Text). AreChanges ws (changes_in c.none.result)) (sym here)
    (subst (λ (changes : List Change). AreChanges [] changes) (sym c.none.ensures) no_changes)
