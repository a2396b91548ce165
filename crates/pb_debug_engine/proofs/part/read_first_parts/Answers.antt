use Rattle.std.proofs.Common.{inl, arith}
use Rattle.std.proofs.lemmas.Result.{err_from_is_err_and}
use Rattle.std.proofs.lemmas.Option.{IfSome_then}
use Rattle.pb_debug_engine.proofs.PartLemmas.{early_in_second, takes_then, two_then_two}
use Rattle.pb_debug.proofs.LineParts.{takes_fewer}
use Rattle.pb_debug_engine.proofs.part.read_first_parts.Goals as goal

pub returns-clause-parts : goal.returns-clause-parts
returns-clause-parts g c =
    two_then_two (g.I.Input.rest c.args.input.now) (g.I.Input.rest c.read_part.new.input) _ c.in_ok-source.source.items c.in_ok-lines.lines.items
    c.in_ok-source.ensures.part c.in_ok-lines.ensures.part

pub returns-in_err-source-clause-early : goal.returns-in_err-source-clause-early
returns-in_err-source-clause-early g c =
    let p = err_from_is_err_and c.from_residual.result c.from_residual.ensures.1 in
    rw (p.1, p.2) (λ device.
    IfSome_then (g.I.Input.rest c.args.input.now) (c.in_err-source.ensures.early device) (λ bytes is. (is.0, is.1, inl is.2)))

pub returns-in_err-lines-clause-early : goal.returns-in_err-lines-clause-early
returns-in_err-lines-clause-early g c =
    let p = err_from_is_err_and c.from_residual-in_err-lines.result c.from_residual-in_err-lines.ensures.1 in
    rw (p.1, p.2) (λ device.
    early_in_second (g.I.Input.rest c.args.input.now) (g.I.Input.rest c.read_part.new.input) _ c.in_ok-source.source.items
    c.in_ok-source.ensures.part (c.in_err-lines.ensures.early device))

pub returns-clause-taken : goal.returns-clause-taken
returns-clause-taken g c =
    takes_then (g.I.Input.rest c.args.input.now) (g.I.Input.rest c.read_part.new.input) _ 4194304 4194304 _ c.in_ok-source.ensures.within
    c.in_ok-lines.ensures.within (omega arith)

pub returns-clause-within : goal.returns-clause-within
returns-clause-within g c =
    takes_then (g.I.Input.rest c.args.input.now) (g.I.Input.rest c.read_part.new.input) _ 4194304 4194304 _ c.in_ok-source.ensures.within
    c.in_ok-lines.ensures.within (omega arith)

pub returns-in_err-source-clause-taken : goal.returns-in_err-source-clause-taken
returns-in_err-source-clause-taken g c =
    takes_fewer (g.I.Input.rest c.args.input.now) (g.I.Input.rest c.read_part.new.input) 4194305 _ c.read_part.ensures.taken (omega arith)

pub returns-in_err-lines-clause-taken : goal.returns-in_err-lines-clause-taken
returns-in_err-lines-clause-taken g c =
    takes_then (g.I.Input.rest c.args.input.now) (g.I.Input.rest c.read_part.new.input) _ 4194304 4194305 _ c.in_ok-source.ensures.within
    c.read_part-2.ensures.taken (omega arith)
