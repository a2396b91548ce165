use Rattle.std.proofs.Common.{[], refl, arith}
use Rattle.std.proofs.lemmas.Grind.{common_steps}
use Rattle.pb_accept.specs.Checks.{none}
use Rattle.pb_accept.proofs.CheckLemmas.{told_one_more, told_all, told_until_memory, told_broken}
use Rattle.pb_voice.specs.Held.{at}
use Rattle.pb_accept.proofs.check.check_parts.Goals as goal

pub loop-is_refusal-init : goal.loop-is_refusal-init
loop-is_refusal-init g c = record { done = []; said = []; left = λ parts are. are; answers = none; told = refl }

pub loop-is_refusal-preserved : goal.loop-is_refusal-preserved
loop-is_refusal-preserved g c =
    let cut = rw c.in-Some.is at c.first_part-cut.ensures.marked in
    told_one_more g.T.Teller.tells g.T.Teller.breaks c.args.options.warn c.args.bytes.now c.loop-is_refusal.rest.now (at g.O.Output.written g.O.Output.failures c.args.teller.now c.args.output.now) c.loop-is_refusal.refused
    (at g.O.Output.written g.O.Output.failures c.loop-is_refusal.teller c.loop-is_refusal.output) c.loop-is_refusal.invariant
    c.first_part-cut.result.part.now c.in-Some.more.now c.in-Answered.is_refusal (at g.O.Output.written g.O.Output.failures c.tell_answer.new.teller c.tell_answer.new.output) cut (c.in-Answered.ensures c.args.options.warn c.look_within-answer.ensures.warned)

pub loop-is_refusal-preserved-in-Some : goal.loop-is_refusal-preserved-in-Some
loop-is_refusal-preserved-in-Some g c =
    let cut = rw c.in-Some.is at c.first_part-cut.ensures.marked in
    told_one_more g.T.Teller.tells g.T.Teller.breaks c.args.options.warn c.args.bytes.now c.loop-is_refusal.rest.now (at g.O.Output.written g.O.Output.failures c.args.teller.now c.args.output.now) c.loop-is_refusal.refused
    (at g.O.Output.written g.O.Output.failures c.loop-is_refusal.teller c.loop-is_refusal.output) c.loop-is_refusal.invariant
    c.first_part-cut.result.part.now c.in-Some.more.now c.in-Answered.is_refusal (at g.O.Output.written g.O.Output.failures c.tell_answer.new.teller c.tell_answer.new.output) cut (c.in-Answered.ensures c.args.options.warn c.look_within-answer.ensures.warned)

pub loop-is_refusal-preserved-in-Some-2 : goal.loop-is_refusal-preserved-in-Some-2
loop-is_refusal-preserved-in-Some-2 g c =
    let cut = rw c.in-Some.is at c.first_part-cut.ensures.marked in
    told_one_more g.T.Teller.tells g.T.Teller.breaks c.args.options.warn c.args.bytes.now c.loop-is_refusal.rest.now (at g.O.Output.written g.O.Output.failures c.args.teller.now c.args.output.now) c.loop-is_refusal.refused
    (at g.O.Output.written g.O.Output.failures c.loop-is_refusal.teller c.loop-is_refusal.output) c.loop-is_refusal.invariant
    c.first_part-cut.result.part.now c.in-Some.more.now c.in-Answered.is_refusal (at g.O.Output.written g.O.Output.failures c.tell_answer.new.teller c.tell_answer.new.output) cut (c.in-Answered.ensures c.args.options.warn c.look_within-answer.ensures.warned)

pub returns-in-OutOfMemory : goal.returns-in-OutOfMemory
returns-in-OutOfMemory g c =
    told_until_memory g.T.Teller.tells g.T.Teller.breaks c.args.options.warn c.args.bytes.now c.loop-is_refusal.rest.now (at g.O.Output.written g.O.Output.failures c.args.teller.now c.args.output.now) c.loop-is_refusal.refused
    (at g.O.Output.written g.O.Output.failures c.loop-is_refusal.teller c.loop-is_refusal.output) c.loop-is_refusal.invariant
    (at g.O.Output.written g.O.Output.failures c.tell_answer.new.teller c.tell_answer.new.output) (at g.O.Output.written g.O.Output.failures c.tell_last.new.teller c.tell_last.new.output) c.tell_last.result (c.in-OutOfMemory.ensures c.args.options.warn c.look_within-answer.ensures.warned) c.tell_last.ensures

pub returns-in-Broken : goal.returns-in-Broken
returns-in-Broken g c =
    told_broken g.T.Teller.tells g.T.Teller.breaks c.args.options.warn c.args.bytes.now c.loop-is_refusal.rest.now (at g.O.Output.written g.O.Output.failures c.args.teller.now c.args.output.now) c.loop-is_refusal.refused
    (at g.O.Output.written g.O.Output.failures c.loop-is_refusal.teller c.loop-is_refusal.output) c.loop-is_refusal.invariant
    (λ r. r.now) c.first_part-cut.result.part.now c.first_part-cut.result.rest (at g.O.Output.written g.O.Output.failures c.tell_answer.new.teller c.tell_answer.new.output)
    c.first_part-cut.ensures.marked c.first_part-cut.ensures.whole (c.in-Broken.ensures c.args.options.warn c.look_within-answer.ensures.warned)

pub returns-in_default : goal.returns-in_default
returns-in_default g c =
    let all = rw c.in_default.is at c.first_part-cut.ensures.whole in
    told_all g.T.Teller.tells g.T.Teller.breaks c.args.options.warn c.args.bytes.now c.loop-is_refusal.rest.now (at g.O.Output.written g.O.Output.failures c.args.teller.now c.args.output.now) c.loop-is_refusal.refused
    (at g.O.Output.written g.O.Output.failures c.loop-is_refusal.teller c.loop-is_refusal.output) c.loop-is_refusal.invariant
    c.first_part-cut.result.part.now c.in-Answered.is_refusal (at g.O.Output.written g.O.Output.failures c.tell_answer.new.teller c.tell_answer.new.output) c.status_of.result all.0 all.1 (c.in-Answered.ensures c.args.options.warn c.look_within-answer.ensures.warned) c.status_of.ensures

pub loop-is_refusal-smaller : goal.loop-is_refusal-smaller
loop-is_refusal-smaller g c = grind (arith, common_steps) steps 400000
