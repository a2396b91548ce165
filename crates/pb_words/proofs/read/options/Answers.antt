use Rattle.std.proofs.Common.{List, ℕ, ◌∙◌, ap, sym, map, subst}
use Rattle.clap.specs.Words.{App, fault_of, is_simple, is_simple_and_free, subcommand_of}
use Rattle.pb_words.specs.Read.{IsReadFromMatches}
use Rattle.pb_words.proofs.ReadLemmas.{clap_refused, is_free_command_line, is_simple_command_line}
use Rattle.pb_words.proofs.read.options.Goals as goal

pub returns-in-Err-clause-refused : goal.returns-in-Err-clause-refused
returns-in-Err-clause-refused c blames o says =
    let texts : List (List ℕ) = map (λ w. w.now) c.args.words.now in
    let whole = c.in-Ok.ensures in
    let kind = c.in-Err.ensures.kinds (ap is_simple_and_free whole ∙ is_free_command_line) in
    clap_refused _ c.in-Err.error c.words_fault.result kind c.words_fault.ensures blames (ap (λ (a : App). fault_of a texts) whole ∙ says.0)

pub returns-in-Some-clause-read : goal.returns-in-Some-clause-read
returns-in-Some-clause-read c =
    let texts : List (List ℕ) = map (λ w. w.now) c.args.words.now in
    let whole = c.in-Ok.ensures in
    let clear = c.in-Ok-try_get_matches_from.ensures.kinds (ap is_simple_and_free whole ∙ is_free_command_line) in
    let entered = (c.in-Ok-try_get_matches_from.ensures.matches (ap is_simple whole ∙ is_simple_command_line)).1 in
    let here = entered ∙ ap (λ (a : App). subcommand_of a texts) whole in
    (sym (ap (λ (a : App). fault_of a texts) whole) ∙ clear, subst (λ m. IsReadFromMatches m c.in-Some.options) here c.in-Some.ensures.some)

pub returns-in-Ok-unread_text-clause-refused : goal.returns-in-Ok-unread_text-clause-refused
returns-in-Ok-unread_text-clause-refused c blames o says =
    let texts : List (List ℕ) = map (λ w. w.now) c.args.words.now in
    let whole = c.in-Ok.ensures in
    let entered = (c.in-Ok-try_get_matches_from.ensures.matches (ap is_simple whole ∙ is_simple_command_line)).1 in
    let here = entered ∙ ap (λ (a : App). subcommand_of a texts) whole in
    c.in-None.ensures.none o (subst (λ m. IsReadFromMatches m o) (sym here) says.1)
