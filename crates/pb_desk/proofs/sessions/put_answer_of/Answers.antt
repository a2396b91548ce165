use Rattle.std.proofs.Common.{◌≡◌, ◌++◌, None, Some, sym, ap, ◌∙◌}
use Rattle.pb_base.proofs.Results.{on_ok}
use Rattle.pb_desk.specs.Applies.{text_again}
use Rattle.pb_desk.specs.Sessions.{SessionValue, text_of}
use Rattle.pb_desk.proofs.SessionPlaces.{here_at, missing}
use Rattle.pb_desk.proofs.sessions.put_answer_of.Goals as goal

pub returns-in_default : goal.returns-in_default
returns-in_default c =
    let m = missing c.args.sessions.now c.args.id 0 (sym c.place_of.ensures.place ∙ c.in_default.is) in
    λ s there. absurd (let e : None ≡ Some s = sym m.none ∙ there in cc)

pub returns : goal.returns
returns c =
    let d = c.index-sessions-p.result in
    let here =
    here_at c.args.sessions.now c.args.id c.in-Some.p d (sym c.place_of.ensures.place ∙ c.in-Some.is) c.index-sessions-p.is in
    on_ok c.put_answer.result _ _ c.put_answer.ensures (λ is s there.
    let both : Some d ≡ Some s = sym here ∙ there in
    let same : d ≡ s = cc in
    is ∙ ap (λ (x : SessionValue). c.args.out.now.items ++ text_again (text_of x.answers c.args.number)) same)
