use Rattle.std.proofs.Common.{◌≡◌, ℕ, List, length, map, Some, ap, ◌∙◌, arith, Vec, Global}
use Rattle.std.specs.Prelude.{slice_get}
use Rattle.std.proofs.lemmas.Option.{IfSome_then, slice_get_within}
use Rattle.pb_base.specs.Lines.{NameTable}
use Rattle.pb_debug.specs.Value.{Debugging}
use Rattle.pb_debug.proofs.NameTexts.{names_many}
use Rattle.pb_debug.proofs.debugger.Debugger.process.Goals as goal

pub returns-clause-within : goal.returns-clause-within
returns-clause-within c =
    let d = c.args.self.now in
    let given : List (List ℕ) = map (λ name. name.items) c.deref.result.now in
    let same : length given ≡ length d.verified.code.names.processes =
    ap (λ (ns : List (Vec ℕ Global)). length (map (λ name. name.items) ns)) c.deref.ensures.value
    ∙ ap (λ (n : NameTable). length n.processes) (c.names.ensures ∙ ap (λ (d : Debugging). d.verified.code.names) c.self.view_is) in
    let many = names_many d c.position.ensures.placed in
    IfSome_then c.find_name.result {P = λ p. slice_get given p ≡ Some c.args.word.now} c.find_name.ensures.some
    (λ p e. let lt = slice_get_within given p c.args.word.now e in omega (arith, lt, same, many))
