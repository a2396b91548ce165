use Rattle.std.proofs.Common.{Vec, Global, ◌∙◌, ◌-◌, ◌++◌, ℕ, List, length, take, drop, subst, sym, ap}
use Rattle.std.specs.Prelude.{OnOk, OnErr}
use Rattle.std.specs.List.{flat_map}
use Rattle.pb_json.specs.Strings.{escaped}
use Rattle.pb_voice.specs.Held.{at}
use Rattle.pb_voice.specs.Voices.{Adds, Breaks}
use Rattle.pb_plan_engine.specs.Objects.{later_name}
use Rattle.pb_plan_engine.proofs.TextLemmas.{names_of_some}
use Rattle.pb_plan_engine.proofs.objects.say_names.Goals as goal

pub returns-in-len1-up-clause-ok : goal.returns-in-len1-up-clause-ok
returns-in-len1-up-clause-ok g c =
    let names = c.args.names.now in
    let later = flat_map (λ (name : Vec ℕ Global). later_name name.items) (take (length names - 1) (drop 1 names)) in
    subst (λ (l : List ℕ). OnOk c.say_some_names.result (Adds (at g.O.Output.written g.O.Output.failures c.args.voice.now c.args.output.now) l
    (at g.O.Output.written g.O.Output.failures c.say_some_names.new.voice c.say_some_names.new.output)))
    (ap (λ (first : List ℕ). flat_map escaped first ++ later) (c.deref.ensures.value ∙ ap (λ (name : Vec ℕ Global). name.items) c.first-item.is)
    ∙ sym (names_of_some names c.first-item.result c.in-len1-up.len_at_least))
    c.say_some_names.ensures.ok

pub returns-in-len1-up-clause-err : goal.returns-in-len1-up-clause-err
returns-in-len1-up-clause-err g c =
    let names = c.args.names.now in
    let later = flat_map (λ (name : Vec ℕ Global). later_name name.items) (take (length names - 1) (drop 1 names)) in
    subst (λ (l : List ℕ). OnErr c.say_some_names.result (Breaks (at g.O.Output.written g.O.Output.failures c.args.voice.now c.args.output.now) l
    (at g.O.Output.written g.O.Output.failures c.say_some_names.new.voice c.say_some_names.new.output)))
    (ap (λ (first : List ℕ). flat_map escaped first ++ later) (c.deref.ensures.value ∙ ap (λ (name : Vec ℕ Global). name.items) c.first-item.is)
    ∙ sym (names_of_some names c.first-item.result c.in-len1-up.len_at_least))
    c.say_some_names.ensures.err
