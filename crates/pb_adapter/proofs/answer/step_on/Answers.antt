use Rattle.std.proofs.Common.{◌∙◌, ap, arith}
use Rattle.pb_adapter_requests.specs.Requests.{place_of, request_view}
use Rattle.pb_adapter.specs.Moves.{stop_view}
use Rattle.pb_adapter.proofs.ReplyLemmas.{steps_along, steps_behind}
use Rattle.pb_adapter.proofs.answer.step_on.Goals as goal

pub returns-then-position-len : goal.returns-then-position-len
returns-then-position-len c =
    steps_behind c.try_arm.result c.args.debugger.now c.try_arm.new.debugger c.args.seq (request_view c.args.request) c.number_of-thread.result
    c.number_of-thread.ensures (omega (arith, c.position.ensures.position, c.len.ensures.len, c.if-position-len.true)) c.try_arm.ensures

pub returns : goal.returns
returns c =
    let within = c.position.ensures.placed.within in
    steps_along c.go.result c.args.debugger.now c.go.new.debugger c.args.seq (request_view c.args.request)
    (record { process = c.place_of.result.process; arm = c.place_of.result.arm }) (stop_view c.in_ok-stop.stop)
    (c.place_of.ensures ∙ ap place_of c.number_of-thread.ensures)
    (omega (arith, within, c.position.ensures.position, c.len.ensures.len, c.if-position-len.false)) c.in_ok-stop.ensures
    (c.go.ensures.moved, c.go.ensures.told)
