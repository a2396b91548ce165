use Rattle.std.proofs.Common.{Option, Some, sym, ap, ◌∙◌}
use Rattle.pb_desk.specs.Applies.{done_of}
use Rattle.pb_desk.specs.Sessions.{SessionValue}
use Rattle.pb_desk.proofs.SessionPlaces.{here_at, missing}
use Rattle.pb_desk.proofs.sessions.done_of.Goals as goal

pub returns-in_default : goal.returns-in_default
returns-in_default c =
    let m = missing c.args.sessions.now c.args.id 0 (sym c.place_of.ensures.place ∙ c.in_default.is) in
    sym (ap (λ (o : Option SessionValue). done_of o c.args.number) m.none)

pub returns : goal.returns
returns c =
    let here =
    here_at c.args.sessions.now c.args.id c.in-Some.p c.index-sessions-p.result (sym c.place_of.ensures.place ∙ c.in-Some.is)
    c.index-sessions-p.is in
    ap Some c.has_done.ensures ∙ sym (ap (λ (o : Option SessionValue). done_of o c.args.number) here)
