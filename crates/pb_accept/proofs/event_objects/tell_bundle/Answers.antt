use Rattle.std.proofs.Common.{[], ◌∷◌, ◌++◌, ℕ, List, codes}
use Rattle.std.specs.Fmt.{decimal}
use Rattle.std.specs.List.{concat}
use Rattle.std.proofs.lemmas.Result.{on_ok_weaker, on_err_weaker}
use Rattle.pb_base.specs.Lines.{name_of, names_view}
use Rattle.pb_command_io.proofs.PageLemmas.{OnErr-of}
use Rattle.std.proofs.Common.{length}
use Rattle.pb_accept.specs.EventObjects.{pair_at}
use Rattle.pb_base.specs.Lines.{each_below}
use Rattle.pb_json.specs.Strings.{string_text}
use Rattle.pb_json.specs.Values.{comma}
use Rattle.pb_accept.proofs.ShownLemmas.{first_breaks, in_brackets, second_breaks, third_breaks, three_added}
use Rattle.pb_voice.specs.Held.{at}
use Rattle.pb_voice.specs.Voices.{Adds, Breaks}
use Rattle.pb_accept.proofs.event_objects.tell_bundle.Goals as goal

pub returns-in_err-say_pieces-clause-err : goal.returns-in_err-say_pieces-clause-err
returns-in_err-say_pieces-clause-err g c =
    let names = names_view c.args.names.now in
    let name = name_of names.processes c.args.pick.process in
    let before = at g.O.Output.written g.O.Output.failures c.args.voice.now c.args.output.now in
    let said = at g.O.Output.written g.O.Output.failures c.say_pieces.new.voice c.say_pieces.new.output in
    let pairs = each_below (λ k. comma k ++ pair_at names c.args.bundle.now k) (length c.args.bundle.now) in
    let parts : List (List ℕ) = codes "{\"kind\":\"" ∷ c.args.kind.now ∷ codes "\",\"process\":" ∷ string_text name ∷ codes ",\"arm\":" ∷ decimal c.args.pick.arm ∷ codes ",\"amounts\":[" ∷ [] in
    let x : List ℕ = concat parts in
    let fails : Breaks before x said = rw (c.name_of.ensures, c.deref.ensures.value, c.as_bytes.ensures.value, c.format.ensures.text) at c.in_err-say_pieces.ensures.err in
    OnErr-of c.from_residual.result (first_breaks before said said said x (pairs) (93 ∷ 125 ∷ 10 ∷ []) _ (in_brackets parts pairs) fails)

pub returns-in_err-tell_pair_objects-clause-err : goal.returns-in_err-tell_pair_objects-clause-err
returns-in_err-tell_pair_objects-clause-err g c =
    let names = names_view c.args.names.now in
    let name = name_of names.processes c.args.pick.process in
    let before = at g.O.Output.written g.O.Output.failures c.args.voice.now c.args.output.now in
    let said = at g.O.Output.written g.O.Output.failures c.say_pieces.new.voice c.say_pieces.new.output in
    let inside = at g.O.Output.written g.O.Output.failures c.tell_pair_objects.new.voice c.tell_pair_objects.new.output in
    let pairs = each_below (λ k. comma k ++ pair_at names c.args.bundle.now k) (length c.args.bundle.now) in
    let parts : List (List ℕ) = codes "{\"kind\":\"" ∷ c.args.kind.now ∷ codes "\",\"process\":" ∷ string_text name ∷ codes ",\"arm\":" ∷ decimal c.args.pick.arm ∷ codes ",\"amounts\":[" ∷ [] in
    let x : List ℕ = concat parts in
    let first : Adds before x said = rw (c.name_of.ensures, c.deref.ensures.value, c.as_bytes.ensures.value, c.format.ensures.text) at c.in_ok-say_pieces.ensures.ok in
    OnErr-of c.from_residual-in_err-tell_pair_objects.result
    (second_breaks before said inside inside x (pairs) (93 ∷ 125 ∷ 10 ∷ []) _ (in_brackets parts pairs) first c.in_err-tell_pair_objects.ensures.err)

pub returns-clause-ok : goal.returns-clause-ok
returns-clause-ok g c =
    let names = names_view c.args.names.now in
    let name = name_of names.processes c.args.pick.process in
    let before = at g.O.Output.written g.O.Output.failures c.args.voice.now c.args.output.now in
    let said = at g.O.Output.written g.O.Output.failures c.say_pieces.new.voice c.say_pieces.new.output in
    let inside = at g.O.Output.written g.O.Output.failures c.tell_pair_objects.new.voice c.tell_pair_objects.new.output in
    let after = at g.O.Output.written g.O.Output.failures c.say.new.self c.say.new.output in
    let pairs = each_below (λ k. comma k ++ pair_at names c.args.bundle.now k) (length c.args.bundle.now) in
    let parts : List (List ℕ) = codes "{\"kind\":\"" ∷ c.args.kind.now ∷ codes "\",\"process\":" ∷ string_text name ∷ codes ",\"arm\":" ∷ decimal c.args.pick.arm ∷ codes ",\"amounts\":[" ∷ [] in
    let x : List ℕ = concat parts in
    let first : Adds before x said = rw (c.name_of.ensures, c.deref.ensures.value, c.as_bytes.ensures.value, c.format.ensures.text) at c.in_ok-say_pieces.ensures.ok in
    on_ok_weaker c.say.result
    (λ last. three_added before said inside after x (pairs) (93 ∷ 125 ∷ 10 ∷ []) _ (in_brackets parts pairs) first c.in_ok-tell_pair_objects.ensures.ok last)
    c.say.ensures.ok

pub returns-clause-err : goal.returns-clause-err
returns-clause-err g c =
    let names = names_view c.args.names.now in
    let name = name_of names.processes c.args.pick.process in
    let before = at g.O.Output.written g.O.Output.failures c.args.voice.now c.args.output.now in
    let said = at g.O.Output.written g.O.Output.failures c.say_pieces.new.voice c.say_pieces.new.output in
    let inside = at g.O.Output.written g.O.Output.failures c.tell_pair_objects.new.voice c.tell_pair_objects.new.output in
    let after = at g.O.Output.written g.O.Output.failures c.say.new.self c.say.new.output in
    let pairs = each_below (λ k. comma k ++ pair_at names c.args.bundle.now k) (length c.args.bundle.now) in
    let parts : List (List ℕ) = codes "{\"kind\":\"" ∷ c.args.kind.now ∷ codes "\",\"process\":" ∷ string_text name ∷ codes ",\"arm\":" ∷ decimal c.args.pick.arm ∷ codes ",\"amounts\":[" ∷ [] in
    let x : List ℕ = concat parts in
    let first : Adds before x said = rw (c.name_of.ensures, c.deref.ensures.value, c.as_bytes.ensures.value, c.format.ensures.text) at c.in_ok-say_pieces.ensures.ok in
    on_err_weaker c.say.result
    (λ last. third_breaks before said inside after x (pairs) (93 ∷ 125 ∷ 10 ∷ []) _ (in_brackets parts pairs) first c.in_ok-tell_pair_objects.ensures.ok last)
    c.say.ensures.err
