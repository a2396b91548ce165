use Rattle.std.proofs.Common.{◌≡◌, true, false, [], inl, inr, refl, sym}
use Rattle.std.proofs.lemmas.List.{append-nil}
use Rattle.pb_base.proofs.Results.{on_ok}
use Rattle.pb_debug.proofs.debugger.Debugger.say_arm.Goals as goal

pub returns-then-not-is_of : goal.returns-then-not-is_of
returns-then-not-is_of c = (
  [],
  inr (λ h. let none : false ≡ true = c.if-not-is_of.ensures.1 h in cc, refl),
  sym (append-nil c.args.text.now.items),
)

pub returns : goal.returns
returns c =
    on_ok c.say_next_pick.result _ _ c.say_next_pick.ensures (λ s. (s.0, inl (c.if-not-is_of.ensures.0 refl, s.1), s.2))
