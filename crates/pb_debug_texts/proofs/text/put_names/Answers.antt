use Rattle.std.proofs.Common.{◌≡◌, ◌++◌, ◌<◌, ℕ, List, codes, length, sym, ap, ◌∙◌, arith}
use Rattle.std.proofs.lemmas.List.{length-map}
use Rattle.std.specs.Prelude.{slice_index}
use Rattle.pb_base.specs.Lines.{names_view, name_of}
use Rattle.pb_debug_texts.proofs.EachNumber.{each_next, name_there}
use Rattle.pb_debug_texts.proofs.text.put_names.Goals as goal

pub loop-k-preserved : goal.loop-k-preserved
loop-k-preserved c =
    let given = c.args.names.now.processes.items in
    let names = (names_view c.args.names.now).processes in
    let k = c.loop-k.k in
    let p = slice_index c.args.processes.now k in
    let here = c.loop-k.text.items in
    let said : ℕ → List ℕ = λ j. codes " " ++ name_of names (slice_index c.args.processes.now j) in
    let test = c.loop-k-test.true in
    let below = c.requires k 0 (omega (arith, test)) in
    let at = c.from.ensures in
    let many = length-map given (λ name. name.items) in
    let within : c.from.result < length given = omega (arith, below, at, many) in
    let name : c.deref.result.now ≡ name_of names p =
    c.deref.ensures.value ∙ (sym (name_there given c.from.result c.index.result.now within c.index.ensures) ∙ ap (name_of names) at) in
    each_next said k c.put.new.out.items here c.put_name.new.out.items c.loop-k.invariant
    (c.in_ok-put_name.ensures ∙ ap (λ (n : List ℕ). here ++ (codes " " ++ n)) name)
