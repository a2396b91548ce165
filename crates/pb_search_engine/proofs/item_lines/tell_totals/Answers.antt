use Rattle.std.proofs.Common.{ℕ, List, subst}
use Rattle.std.proofs.lemmas.Result.{on_ok_weaker, on_err_weaker}
use Rattle.pb_voice.specs.Held.{at}
use Rattle.pb_voice.specs.Voices.{Adds, Breaks}
use Rattle.pb_search_engine.proofs.ItemLemmas.{some_line}
use Rattle.pb_search_engine.proofs.item_lines.tell_totals.Goals as goal

pub returns-then-deadlocks-eq0-clause-ok : goal.returns-then-deadlocks-eq0-clause-ok
returns-then-deadlocks-eq0-clause-ok g c = rw c.if-deadlocks-eq0.true (rw (c.plural.ensures, c.runs_words.ensures, c.as_bytes.ensures.value, c.format.ensures.text) at c.say_all.ensures.ok)

pub returns-clause-ok : goal.returns-clause-ok
returns-clause-ok g c =
    on_ok_weaker c.say_all-2.result
    (λ said. subst (λ (l : List ℕ). Adds (at g.O.Output.written g.O.Output.failures c.args.voice.now c.args.output.now) l (at g.O.Output.written g.O.Output.failures c.say_all-2.new.self c.say_all-2.new.output)) (some_line c.args.outcomes c.args.deadlocks c.args.cycles c.if-deadlocks-eq0.false) said)
    (rw (c.plural-2.ensures, c.plural-3.ensures, c.runs_words-2.ensures, c.as_bytes-2.ensures.value, c.format-2.ensures.text, c.as_bytes-3.ensures.value, c.format-3.ensures.text) at c.say_all-2.ensures.ok)

pub returns-then-deadlocks-eq0-clause-err : goal.returns-then-deadlocks-eq0-clause-err
returns-then-deadlocks-eq0-clause-err g c = rw c.if-deadlocks-eq0.true (rw (c.plural.ensures, c.runs_words.ensures, c.as_bytes.ensures.value, c.format.ensures.text) at c.say_all.ensures.err)

pub returns-clause-err : goal.returns-clause-err
returns-clause-err g c =
    on_err_weaker c.say_all-2.result
    (λ said. subst (λ (l : List ℕ). Breaks (at g.O.Output.written g.O.Output.failures c.args.voice.now c.args.output.now) l (at g.O.Output.written g.O.Output.failures c.say_all-2.new.self c.say_all-2.new.output)) (some_line c.args.outcomes c.args.deadlocks c.args.cycles c.if-deadlocks-eq0.false) said)
    (rw (c.plural-2.ensures, c.plural-3.ensures, c.runs_words-2.ensures, c.as_bytes-2.ensures.value, c.format-2.ensures.text, c.as_bytes-3.ensures.value, c.format-3.ensures.text) at c.say_all-2.ensures.err)
