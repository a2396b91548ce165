use Rattle.std.proofs.Common.{◌≡◌, ◌++◌, List, Option, None, Some, sym, ap, ◌∙◌, append-nil}
use Rattle.pb_desk.specs.Services.{notice_to}
use Rattle.pb_desk.specs.Sessions.{SessionValue, noted, session_place}
use Rattle.pb_desk.specs.declared.told.Told.{Told}
use Rattle.pb_desk.proofs.SessionPlaces.{changed_at, missing, told_at}
use Rattle.pb_desk.proofs.sessions.note_to.Goals as goal

pub returns-in_default-clause-sessions : goal.returns-in_default-clause-sessions
returns-in_default-clause-sessions c =
    let at : session_place 0 c.args.sessions.now.items c.args.id ≡ None =
    ap (λ (ss : List SessionValue). session_place 0 ss c.args.id) (sym c.deref.ensures.value) ∙ (sym c.place_of.ensures.place ∙ c.in_default.is) in
    let m = missing c.args.sessions.now.items c.args.id 0 at in
    sym (m.same (λ s. noted s c.args.text.items))

pub returns-in_default-clause-told : goal.returns-in_default-clause-told
returns-in_default-clause-told c =
    let at : session_place 0 c.args.sessions.now.items c.args.id ≡ None =
    ap (λ (ss : List SessionValue). session_place 0 ss c.args.id) (sym c.deref.ensures.value) ∙ (sym c.place_of.ensures.place ∙ c.in_default.is) in
    let m = missing c.args.sessions.now.items c.args.id 0 at in
    sym (append-nil c.args.out.now.items)
    ∙ ap (λ (o : Option SessionValue). c.args.out.now.items ++ notice_to o c.args.text.items) (sym m.none)

pub returns-clause-sessions : goal.returns-clause-sessions
returns-clause-sessions c =
    let at : session_place 0 c.args.sessions.now.items c.args.id ≡ Some c.in-Some.p =
    ap (λ (ss : List SessionValue). session_place 0 ss c.args.id) (sym c.deref.ensures.value) ∙ (sym c.place_of.ensures.place ∙ c.in-Some.is) in
    let text = c.in_ok-copy.ensures ∙ c.deref-2.ensures.value in
    changed_at (λ s. noted s c.args.text.items) c.args.sessions.now.items c.args.id c.in-Some.p c.index_mut.result.now c.note.new.self at
    c.index_mut.ensures.value (c.in_ok-number.ensures.noted ∙ ap (noted c.index_mut.result.now) text)

pub returns-clause-told : goal.returns-clause-told
returns-clause-told c =
    let at : session_place 0 c.args.sessions.now.items c.args.id ≡ Some c.in-Some.p =
    ap (λ (ss : List SessionValue). session_place 0 ss c.args.id) (sym c.deref.ensures.value) ∙ (sym c.place_of.ensures.place ∙ c.in-Some.is) in
    c.in_ok-push.ensures.items
    ∙ ap (λ (more : List Told). c.args.out.now.items ++ more)
    (sym (told_at c.args.sessions.now.items c.args.id c.in-Some.p c.index_mut.result.now c.in_ok-number.number c.args.text.items at
    c.index_mut.ensures.value c.in_ok-number.ensures.number))
