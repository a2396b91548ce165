use Rattle.std.proofs.Common.{ℕ, List, Option, Some, None, option_map, IfSome, Vec, Global, ◌∙◌, subst, arith, refl, inl, inr}
use Rattle.pb_base.proofs.DeviceLemmas.{if_known}
use Rattle.pb_conversations.proofs.ConversationLemmas.{device_or}
use Rattle.pb_frames.specs.Frames.{IsRead}
use Rattle.pb_server.proofs.ConversationLemmas.{so_far_nothing, so_far_all, so_far_end, so_far_memory}
use Rattle.pb_server.proofs.ConversationLemmas.{so_far_read, so_far_unread, so_far_more, so_far_broken}
use Rattle.pb_server.specs.Answers.{AnswersContent}
use Rattle.pb_server.specs.Responses.{told_by}
use Rattle.pb_server.proofs.conversation.converse.Goals as goal

pub loop-alloc-init : goal.loop-alloc-init
loop-alloc-init g c = record {
  few = omega arith;
  reads = refl;
  writes = refl;
  says = λ bytes is. so_far_nothing g.L.Language.Diagnoses g.L.Language.Finds c.args.session.now bytes
      (g.I.Input.rest c.args.input.now) (g.O.Output.written c.args.output.now) is;
}

pub returns-in-Ok-None-clause-all : goal.returns-in-Ok-None-clause-all
returns-in-Ok-None-clause-all g c =
    let left = g.I.Input.rest c.loop-alloc.input in
    let left' = g.I.Input.rest c.read_frame.new.input in
    let none : IfSome left (λ bs. IsRead bs None left') =
    subst (λ (o : Option (Vec ℕ Global)). IfSome left (λ bs. IsRead bs (option_map (λ v. v.items) o) left'))
    c.in-Ok-None.field-0-is c.in-Ok-None.ensures.content in
    if_known (g.I.Input.rest c.args.input.now) _ (λ bytes is.
    so_far_end g.L.Language.Diagnoses g.L.Language.Finds c.args.session.now bytes c.loop-alloc.heard left
    (g.O.Output.written c.args.output.now) (g.O.Output.written c.loop-alloc.output) c.loop-alloc.session (c.loop-alloc.invariant.says bytes is)
    left' none)

pub returns-in-Err-clause-some : goal.returns-in-Err-clause-some
returns-in-Err-clause-some g c =
    if_known (g.I.Input.rest c.args.input.now) _ (λ bytes is.
    so_far_unread g.L.Language.Diagnoses g.L.Language.Finds c.args.session.now bytes c.loop-alloc.heard (g.I.Input.rest c.loop-alloc.input)
    (g.O.Output.written c.args.output.now) (g.O.Output.written c.loop-alloc.output) c.loop-alloc.session (c.loop-alloc.invariant.says bytes is)
    c.in-Err.fault c.break_off.result (g.O.Output.written c.break_off.new.output) c.in-Err.ensures.refused c.break_off.ensures.written)

pub returns-in-Err-clause-answered : goal.returns-in-Err-clause-answered
returns-in-Err-clause-answered g c = λ changed. elim (device_or c.in-Err.fault) [
  | inl is ↦ (
    (c.break_off.ensures.device is).1 ∙ c.loop-alloc.invariant.writes,
    if_known (g.I.Input.rest c.args.input.now) _ (λ bytes known.
        so_far_read g.L.Language.Diagnoses g.L.Language.Finds c.args.session.now bytes c.loop-alloc.heard (g.I.Input.rest c.loop-alloc.input)
        (g.O.Output.written c.args.output.now) (g.O.Output.written c.loop-alloc.output) c.loop-alloc.session
        (c.loop-alloc.invariant.says bytes known) (g.I.Input.rest c.read_frame.new.input) (g.O.Output.written c.break_off.new.output)
        c.loop-alloc-test.ensures.1 (c.in-Err.ensures.part is) (c.break_off.ensures.device is).2),
  )
  | inr other ↦ absurd (changed (c.in-Err.ensures.no_fault other ∙ c.loop-alloc.invariant.reads))
]

pub returns-in_default-clause-answered : goal.returns-in_default-clause-answered
returns-in_default-clause-answered g c = λ changed. absurd (changed (c.in-Ok-Some.ensures.counted ∙ c.loop-alloc.invariant.reads))

pub returns-in-Err-write_reply-clause-answered : goal.returns-in-Err-write_reply-clause-answered
returns-in-Err-write_reply-clause-answered g c = λ changed. absurd (changed (c.in-Ok-Some.ensures.counted ∙ c.loop-alloc.invariant.reads))

pub returns-in_default-clause-some : goal.returns-in_default-clause-some
returns-in_default-clause-some g c =
    if_known (g.I.Input.rest c.args.input.now) _ (λ bytes is.
    so_far_memory g.L.Language.Diagnoses g.L.Language.Finds c.args.session.now bytes c.loop-alloc.heard (g.I.Input.rest c.loop-alloc.input)
    (g.O.Output.written c.args.output.now) (g.O.Output.written c.loop-alloc.output) c.loop-alloc.session (c.loop-alloc.invariant.says bytes is))

pub returns-in-Err-write_reply-clause-some : goal.returns-in-Err-write_reply-clause-some
returns-in-Err-write_reply-clause-some g c =
    let left = g.I.Input.rest c.loop-alloc.input in
    let left' = g.I.Input.rest c.read_frame.new.input in
    let told = told_by c.in-Ok.reply in
    let after = c.answer_content.new.session in
    let read : IfSome left (λ bs. IsRead bs (Some c.in-Ok-Some.content.items) left') =
    subst (λ (o : Option (Vec ℕ Global)). IfSome left (λ bs. IsRead bs (option_map (λ v. v.items) o) left'))
    c.in-Ok-Some.field-0-is c.in-Ok-Some.ensures.content in
    let answer = subst (λ (t : List ℕ). AnswersContent g.L.Language.Diagnoses g.L.Language.Finds c.loop-alloc.session t told after)
    c.deref.ensures.value c.in-Ok.ensures.answers in
    if_known (g.I.Input.rest c.args.input.now) _ (λ bytes is.
    so_far_broken g.L.Language.Diagnoses g.L.Language.Finds c.args.session.now bytes c.loop-alloc.heard left (g.O.Output.written c.args.output.now)
    (g.O.Output.written c.loop-alloc.output) c.loop-alloc.session (c.loop-alloc.invariant.says bytes is)
    c.in-Ok-Some.content.items left' (g.O.Output.written c.write_reply.new.output) told after read c.loop-alloc-test.ensures.1 answer
    c.in-Err-write_reply.stop c.in-Err-write_reply.ensures.some)

pub loop-alloc-preserved : goal.loop-alloc-preserved
loop-alloc-preserved g c =
    let left = g.I.Input.rest c.loop-alloc.input in
    let left' = g.I.Input.rest c.read_frame.new.input in
    let told = told_by c.in-Ok.reply in
    let after = c.answer_content.new.session in
    let read : IfSome left (λ bs. IsRead bs (Some c.in-Ok-Some.content.items) left') =
    subst (λ (o : Option (Vec ℕ Global)). IfSome left (λ bs. IsRead bs (option_map (λ v. v.items) o) left'))
    c.in-Ok-Some.field-0-is c.in-Ok-Some.ensures.content in
    let answer = subst (λ (t : List ℕ). AnswersContent g.L.Language.Diagnoses g.L.Language.Finds c.loop-alloc.session t told after)
    c.deref.ensures.value c.in-Ok.ensures.answers in
    let within = c.loop-alloc-test.ensures.0 in
    record {
      few = omega (arith, within);
      reads = c.in-Ok-Some.ensures.counted ∙ c.loop-alloc.invariant.reads;
      writes = c.in-Ok-write_reply.ensures.counted ∙ c.loop-alloc.invariant.writes;
      says = λ bytes is.
          so_far_more g.L.Language.Diagnoses g.L.Language.Finds c.args.session.now bytes c.loop-alloc.heard left
          (g.O.Output.written c.args.output.now) (g.O.Output.written c.loop-alloc.output) c.loop-alloc.session (c.loop-alloc.invariant.says bytes is)
          c.in-Ok-Some.content.items left' (g.O.Output.written c.write_reply.new.output) told after read c.loop-alloc-test.ensures.1 answer
          c.in-Ok-write_reply.ensures.written;
    }

pub returns-clause-all : goal.returns-clause-all
returns-clause-all g c =
    if_known (g.I.Input.rest c.args.input.now) _ (λ bytes is.
    so_far_all g.L.Language.Diagnoses g.L.Language.Finds c.args.session.now bytes c.loop-alloc.heard (g.I.Input.rest c.loop-alloc.input)
    (g.O.Output.written c.args.output.now) (g.O.Output.written c.loop-alloc.output) c.loop-alloc.session (c.loop-alloc.invariant.says bytes is)
    c.loop-alloc-test.ensures)
