use Rattle.std.proofs.Common.{◌≡◌, List, None, Some, sym, ap, ◌∙◌}
use Rattle.pb_base.proofs.Results.{on_ok}
use Rattle.pb_desk.specs.Sessions.{SessionValue, answered, session_place}
use Rattle.pb_desk.proofs.SessionPlaces.{changed_at, missing}
use Rattle.pb_desk.proofs.sessions.keep_answer.Goals as goal

pub returns-in_default : goal.returns-in_default
returns-in_default c =
    let at : session_place 0 c.args.sessions.now.items c.args.id ≡ None =
    ap (λ (ss : List SessionValue). session_place 0 ss c.args.id) (sym c.deref.ensures.value) ∙ (sym c.place_of.ensures.place ∙ c.in_default.is) in
    let m = missing c.args.sessions.now.items c.args.id 0 at in
    sym (m.same (λ s. answered s c.args.number c.args.text.items))

pub returns : goal.returns
returns c =
    let at : session_place 0 c.args.sessions.now.items c.args.id ≡ Some c.in-Some.p =
    ap (λ (ss : List SessionValue). session_place 0 ss c.args.id) (sym c.deref.ensures.value) ∙ (sym c.place_of.ensures.place ∙ c.in-Some.is) in
    on_ok c.answer.result _ _ c.answer.ensures
    (λ is. changed_at (λ s. answered s c.args.number c.args.text.items) c.args.sessions.now.items c.args.id c.in-Some.p
    c.index_mut.result.now c.answer.new.self at c.index_mut.ensures.value is)
