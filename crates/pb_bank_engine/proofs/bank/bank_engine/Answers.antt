use Rattle.std.proofs.Common.{subst, List, ℕ, [], ◌∷◌, ◌++◌}
use Rattle.std.proofs.lemmas.Option.{IfSome_then}
use Rattle.pb_bank_engine.specs.Forms.{memory_said}
use Rattle.pb_bank_engine.specs.Sessions.{no_memory, SaysSome}
use Rattle.pb_bank_engine.proofs.Told.{memory_is, told_all, told_broken, told_some}
use Rattle.pb_command_io.proofs.PageLemmas.{Says-first}
use Rattle.pb_command_io.specs.Answers.{Says}
use Rattle.pb_command_io.specs.declared.status.Status.TheVariants.{Memory}
use Rattle.pb_voice.specs.Texts.{memory_in}
use Rattle.pb_base.proofs.DeviceLemmas.{if_known}
use Rattle.pb_bank_engine.proofs.bank.bank_engine.Goals as goal

pub returns-in_default-clause-text : goal.returns-in_default-clause-text
returns-in_default-clause-text g c = if_known (g.I.Input.rest c.args.input.now) _ (λ bytes e. (
  memory_in c.args.form,
  Memory,
  (memory_said ∷ [], no_memory, memory_is c.args.form),
  Says-first (g.O.Output.written c.args.output.now) (g.O.Output.written c.finish_with.new.output) c.new-in_default.result
      (memory_in c.args.form) Memory c.finish_with.result c.new-in_default.ensures
      (subst (λ (t : List ℕ). Says (g.O.Output.written c.args.output.now) (g.O.Output.written c.finish_with.new.output)
      (c.new-in_default.result ++ t) Memory c.finish_with.result) c.memory_words.ensures c.finish_with.ensures.text),
))

pub returns-in-Ok-session-clause-text : goal.returns-in-Ok-session-clause-text
returns-in-Ok-session-clause-text g c =
    IfSome_then (g.I.Input.rest c.args.input.now) c.in-Ok-session.ensures.all
    (λ bytes. told_all c.args.form c.in-Ok.desk c.in-Ok.ensures bytes _ _ _)

pub returns-in-Memory-clause-text : goal.returns-in-Memory-clause-text
returns-in-Memory-clause-text g c =
    let old = g.O.Output.written c.args.output.now in
    let mid = g.O.Output.written c.session.new.output in
    let d = c.in-Ok.desk in
    IfSome_then (g.I.Input.rest c.args.input.now) c.in-Err.ensures.some
    (λ bytes some. told_some c.args.form d c.in-Ok.ensures bytes old mid (g.O.Output.written c.finish_with-in-Memory.new.output) c.new-in-Memory.result
    c.finish_with-in-Memory.result (subst (λ e. SaysSome c.args.form e d bytes old mid) c.in-Memory.is some) c.new-in-Memory.ensures
    (subst (λ (t : List ℕ). Says mid (g.O.Output.written c.finish_with-in-Memory.new.output) (c.new-in-Memory.result ++ t) Memory
    c.finish_with-in-Memory.result) c.memory_words-in-Memory.ensures c.finish_with-in-Memory.ensures.text))

pub returns-clause-text : goal.returns-clause-text
returns-clause-text g c =
    let old = g.O.Output.written c.args.output.now in
    let mid = g.O.Output.written c.session.new.output in
    let d = c.in-Ok.desk in
    IfSome_then (g.I.Input.rest c.args.input.now) c.in-Err.ensures.some
    (λ bytes some. told_broken c.args.form d c.in-Ok.ensures bytes old mid (subst (λ e. SaysSome c.args.form e d bytes old mid) c.in-Device.is some))
