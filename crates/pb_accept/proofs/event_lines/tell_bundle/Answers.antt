use Rattle.std.proofs.Common.{[], ◌∷◌, ◌++◌, ℕ, List, codes}
use Rattle.std.specs.Fmt.{decimal}
use Rattle.std.specs.List.{concat}
use Rattle.std.proofs.lemmas.Result.{on_ok_weaker, on_err_weaker}
use Rattle.pb_base.specs.Lines.{name_of, names_view}
use Rattle.pb_command_io.proofs.PageLemmas.{OnErr-of}
use Rattle.pb_base.specs.Lines.{pairs_text}
use Rattle.pb_accept.proofs.ShownLemmas.{bundle_line, first_breaks, second_breaks, third_breaks, three_added}
use Rattle.pb_voice.specs.Held.{at}
use Rattle.pb_voice.specs.Voices.{Adds, Breaks}
use Rattle.pb_accept.proofs.event_lines.tell_bundle.Goals as goal

pub returns-in_err-say_all-clause-err : goal.returns-in_err-say_all-clause-err
returns-in_err-say_all-clause-err g c =
    let names = names_view c.args.names.now in
    let name = name_of names.processes c.args.pick.process in
    let before = at g.O.Output.written g.O.Output.failures c.args.voice.now c.args.output.now in
    let said = at g.O.Output.written g.O.Output.failures c.say_all.new.self c.say_all.new.output in
    let pairs = pairs_text names c.args.bundle.now in
    let x : List ℕ = concat (name ∷ (46 ∷ []) ∷ decimal c.args.pick.arm ∷ c.args.word.now ∷ []) in
    let fails : Breaks before x said = rw (c.name_of.ensures, c.deref.ensures.value, c.as_bytes.ensures.value, c.format.ensures.text) at c.in_err-say_all.ensures.err in
    OnErr-of c.from_residual.result (first_breaks before said said said x (pairs) (10 ∷ []) _ (bundle_line name (decimal c.args.pick.arm) c.args.word.now pairs) fails)

pub returns-in_err-tell_pairs-clause-err : goal.returns-in_err-tell_pairs-clause-err
returns-in_err-tell_pairs-clause-err g c =
    let names = names_view c.args.names.now in
    let name = name_of names.processes c.args.pick.process in
    let before = at g.O.Output.written g.O.Output.failures c.args.voice.now c.args.output.now in
    let said = at g.O.Output.written g.O.Output.failures c.say_all.new.self c.say_all.new.output in
    let inside = at g.O.Output.written g.O.Output.failures c.tell_pairs.new.voice c.tell_pairs.new.output in
    let pairs = pairs_text names c.args.bundle.now in
    let x : List ℕ = concat (name ∷ (46 ∷ []) ∷ decimal c.args.pick.arm ∷ c.args.word.now ∷ []) in
    let first : Adds before x said = rw (c.name_of.ensures, c.deref.ensures.value, c.as_bytes.ensures.value, c.format.ensures.text) at c.in_ok-say_all.ensures.ok in
    OnErr-of c.from_residual-in_err-tell_pairs.result
    (second_breaks before said inside inside x (pairs) (10 ∷ []) _ (bundle_line name (decimal c.args.pick.arm) c.args.word.now pairs) first c.in_err-tell_pairs.ensures.err)

pub returns-clause-ok : goal.returns-clause-ok
returns-clause-ok g c =
    let names = names_view c.args.names.now in
    let name = name_of names.processes c.args.pick.process in
    let before = at g.O.Output.written g.O.Output.failures c.args.voice.now c.args.output.now in
    let said = at g.O.Output.written g.O.Output.failures c.say_all.new.self c.say_all.new.output in
    let inside = at g.O.Output.written g.O.Output.failures c.tell_pairs.new.voice c.tell_pairs.new.output in
    let after = at g.O.Output.written g.O.Output.failures c.say.new.self c.say.new.output in
    let pairs = pairs_text names c.args.bundle.now in
    let x : List ℕ = concat (name ∷ (46 ∷ []) ∷ decimal c.args.pick.arm ∷ c.args.word.now ∷ []) in
    let first : Adds before x said = rw (c.name_of.ensures, c.deref.ensures.value, c.as_bytes.ensures.value, c.format.ensures.text) at c.in_ok-say_all.ensures.ok in
    on_ok_weaker c.say.result
    (λ last. three_added before said inside after x (pairs) (10 ∷ []) _ (bundle_line name (decimal c.args.pick.arm) c.args.word.now pairs) first c.in_ok-tell_pairs.ensures.ok last)
    c.say.ensures.ok

pub returns-clause-err : goal.returns-clause-err
returns-clause-err g c =
    let names = names_view c.args.names.now in
    let name = name_of names.processes c.args.pick.process in
    let before = at g.O.Output.written g.O.Output.failures c.args.voice.now c.args.output.now in
    let said = at g.O.Output.written g.O.Output.failures c.say_all.new.self c.say_all.new.output in
    let inside = at g.O.Output.written g.O.Output.failures c.tell_pairs.new.voice c.tell_pairs.new.output in
    let after = at g.O.Output.written g.O.Output.failures c.say.new.self c.say.new.output in
    let pairs = pairs_text names c.args.bundle.now in
    let x : List ℕ = concat (name ∷ (46 ∷ []) ∷ decimal c.args.pick.arm ∷ c.args.word.now ∷ []) in
    let first : Adds before x said = rw (c.name_of.ensures, c.deref.ensures.value, c.as_bytes.ensures.value, c.format.ensures.text) at c.in_ok-say_all.ensures.ok in
    on_err_weaker c.say.result
    (λ last. third_breaks before said inside after x (pairs) (10 ∷ []) _ (bundle_line name (decimal c.args.pick.arm) c.args.word.now pairs) first c.in_ok-tell_pairs.ensures.ok last)
    c.say.ensures.err
