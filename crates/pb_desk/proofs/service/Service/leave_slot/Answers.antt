use Rattle.std.proofs.Common.{ℕ, List, ◌++◌, ap, ◌∙◌, subst}
use Rattle.std.specs.Prelude.{codes}
use Rattle.pb_base.specs.Lines.{NameTable, name_of, names_view}
use Rattle.pb_bank.specs.declared.said.Said.{Said}
use Rattle.pb_desk.specs.Applies.{LeavesSlot, Says}
use Rattle.pb_desk.specs.Services.{ServiceValue, after_each, notices_of_all}
use Rattle.pb_desk.specs.declared.told.Told.{Told}
use Rattle.pb_desk.proofs.Carried.{left_slot, owners_are, rows_are}
use Rattle.pb_desk.proofs.service.Service.leave_slot.Goals as goal

pub returns : goal.returns
returns c =
    let said = c.in_ok-said.said.items in
    let d = c.ask.new.desk in
    let line = c.in_ok-line.line.items in
    let owners = c.in_ok-owners.owners.items in
    let old = c.self.inside.sessions.items in
    let v : ServiceValue =
    record { desk = c.self.inside.desk; owners = c.self.inside.owners.items; sessions = old; newest = c.self.inside.newest } in
    let before = rows_are c.names.result.now v.desk.names c.deref.result.now c.names.ensures c.deref.ensures.value in
    let names = rows_are c.names-2.result.now d.names c.deref-3.result.now c.names-2.ensures c.deref-3.ensures.value in
    let says =
    left_slot v c.args.p line said d owners c.notify_all.new.sessions.items c.args.out.now.items c.notify_all.new.out.items
    (c.in_ok-line.ensures ∙ ap (λ (ns : List (List ℕ)). codes "leave " ++ name_of ns c.args.p) before)
    (subst (λ (l : List ℕ). Says v.desk l said d) c.deref-2.ensures.value c.in_ok-said.ensures)
    (owners_are d.names.processes d.names.processes c.deref-3.result.now owners v.owners c.deref-4.result.now 0 c.in_ok-owners.ensures
    names c.deref-4.ensures.value)
    (c.in_ok-notify_all.ensures.after
    ∙ (ap (λ (o : List ℕ). after_each o (names_view c.names-3.result.now) old c.deref-6.result.now) c.deref-5.ensures.value
    ∙ (ap (λ (t : NameTable). after_each owners t old c.deref-6.result.now) c.names-3.ensures
    ∙ ap (λ (w : List Said). after_each owners d.names old w) c.deref-6.ensures.value)))
    (c.in_ok-notify_all.ensures.told
    ∙ ap (λ (m : List Told). c.args.out.now.items ++ m)
    (ap (λ (o : List ℕ). notices_of_all o (names_view c.names-3.result.now) old c.deref-6.result.now) c.deref-5.ensures.value
    ∙ (ap (λ (t : NameTable). notices_of_all owners t old c.deref-6.result.now) c.names-3.ensures
    ∙ ap (λ (w : List Said). notices_of_all owners d.names old w) c.deref-6.ensures.value))) in (
      says.0,
      subst (λ (x : ServiceValue). LeavesSlot x c.args.p says.0
          (record { desk = d; owners = owners; sessions = c.notify_all.new.sessions.items; newest = c.self.inside.newest })) c.self.view_is says.1,
      says.2,
    )
