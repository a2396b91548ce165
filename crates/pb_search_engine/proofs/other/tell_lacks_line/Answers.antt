use Rattle.std.proofs.Common.{[], ◌∷◌, ℕ, List, OnErr, OnOk, codes, subst}
use Rattle.std.specs.Fmt.{decimal}
use Rattle.std.specs.List.{concat}
use Rattle.pb_search_engine.proofs.RequirementLemmas.{lacks_told}
use Rattle.pb_voice.specs.Held.{at}
use Rattle.pb_voice.specs.Voices.{Adds, Breaks}
use Rattle.pb_search_engine.proofs.other.tell_lacks_line.Goals as goal

pub returns-in-Claims-clause-ok : goal.returns-in-Claims-clause-ok
returns-in-Claims-clause-ok g c =
    let old = at g.O.Output.written g.O.Output.failures c.args.voice.now c.args.output.now in
    let new = at g.O.Output.written g.O.Output.failures c.say_all.new.self c.say_all.new.output in
    let amount = c.in-Claims.amount in
    let name = c.in-Claims.resource.now in
    let said : OnOk c.say_all.result (Adds old (concat (codes "not as expected: claims at least " ∷ decimal amount ∷ codes " " ∷ name ∷ codes "\n" ∷ [])) new) =
    rw (c.as_bytes.ensures.value, c.format.ensures.text) at c.say_all.ensures.ok in
    rw c.in-Claims.is (subst (λ (t : List ℕ). OnOk c.say_all.result (Adds old t new)) (lacks_told amount name) said)

pub returns-in-Claims-clause-err : goal.returns-in-Claims-clause-err
returns-in-Claims-clause-err g c =
    let old = at g.O.Output.written g.O.Output.failures c.args.voice.now c.args.output.now in
    let new = at g.O.Output.written g.O.Output.failures c.say_all.new.self c.say_all.new.output in
    let amount = c.in-Claims.amount in
    let name = c.in-Claims.resource.now in
    let said : OnErr c.say_all.result (Breaks old (concat (codes "not as expected: claims at least " ∷ decimal amount ∷ codes " " ∷ name ∷ codes "\n" ∷ [])) new) =
    rw (c.as_bytes.ensures.value, c.format.ensures.text) at c.say_all.ensures.err in
    rw c.in-Claims.is (subst (λ (t : List ℕ). OnErr c.say_all.result (Breaks old t new)) (lacks_told amount name) said)
