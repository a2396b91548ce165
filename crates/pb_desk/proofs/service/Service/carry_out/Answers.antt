use Rattle.std.proofs.Common.{ℕ, List, None, ◌++◌, ◌∷◌, [], ap, ◌∙◌, subst}
use Rattle.pb_base.specs.Lines.{NameTable, names_view}
use Rattle.pb_bank.specs.declared.said.Said.{Said}
use Rattle.pb_desk.specs.Applies.{CarriesOut, of_wishes}
use Rattle.pb_desk.specs.Services.{ServiceValue, after_each, answer_text, answer_to, notices_of_all}
use Rattle.pb_desk.specs.declared.told.Told.{Told}
use Rattle.pb_desk.proofs.Carried.{carried, owners_are, rows_are}
use Rattle.pb_desk.proofs.service.Service.carry_out.Goals as goal

pub returns : goal.returns
returns c =
    let line = c.args.line.now in
    let said = c.in_ok-said.said.items in
    let d = c.ask.new.desk in
    let text = c.in_ok-text.text.items in
    let owners = c.in_ok-owners.owners.items in
    let old = c.self.inside.sessions.items in
    let v : ServiceValue =
    record { desk = c.self.inside.desk; owners = c.self.inside.owners.items; sessions = old; newest = c.self.inside.newest } in
    let wishes = c.of_wishes.ensures ∙ ap (of_wishes line) c.deref-6.ensures.value in
    let names = rows_are c.names.result.now d.names c.deref-2.result.now c.names.ensures c.deref-2.ensures.value in
    let says =
    carried v c.args.id c.args.number line said d text owners c.notify_all.new.sessions.items c.keep_answer.new.sessions.items
    c.args.out.now.items c.tell_answer.new.out.items c.notify_all.new.out.items c.in_ok-said.ensures
    (c.in_ok-text.ensures ∙ ap (answer_text d line) c.deref.ensures.value)
    (owners_are d.names.processes d.names.processes c.deref-2.result.now owners v.owners c.deref-3.result.now c.args.id c.in_ok-owners.ensures
    names c.deref-3.ensures.value)
    (c.in_ok-tell_answer.ensures
    ∙ ap (λ (t : List ℕ). c.args.out.now.items ++ answer_to c.args.id c.args.number t ∷ []) c.deref-4.ensures.value)
    (c.in_ok-notify_all.ensures.after
    ∙ (ap (λ (o : List ℕ). after_each o (names_view c.names-2.result.now) old c.of_wishes.result.now) c.deref-5.ensures.value
    ∙ (ap (λ (t : NameTable). after_each owners t old c.of_wishes.result.now) c.names-2.ensures
    ∙ ap (λ (w : List Said). after_each owners d.names old w) wishes)))
    (c.in_ok-notify_all.ensures.told
    ∙ ap (λ (m : List Told). c.tell_answer.new.out.items ++ m)
    (ap (λ (o : List ℕ). notices_of_all o (names_view c.names-2.result.now) old c.of_wishes.result.now) c.deref-5.ensures.value
    ∙ (ap (λ (t : NameTable). notices_of_all owners t old c.of_wishes.result.now) c.names-2.ensures
    ∙ ap (λ (w : List Said). notices_of_all owners d.names old w) wishes)))
    c.in_ok-keep_answer.ensures in (
      says.0,
      subst (λ (x : ServiceValue). CarriesOut None x c.args.id c.args.number line says.0
          (record { desk = d; owners = owners; sessions = c.keep_answer.new.sessions.items; newest = c.self.inside.newest })) c.self.view_is says.1,
      says.2,
    )
