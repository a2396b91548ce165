use Rattle.std.proofs.Common.{◌≡◌, ◌-◌, ℕ, subst, arith}
use Rattle.pb_debug.specs.Answers.{ShowsAny}
use Rattle.pb_debug_positions.specs.Searches.{IsLast}
use Rattle.pb_base.proofs.Results.{on_ok}
use Rattle.pb_debug.proofs.debugger.Debugger.say_prev.Goals as goal

pub returns-clause-said : goal.returns-clause-said
returns-clause-said c =
    let d = c.args.self.now in
    let found = c.in_ok-found.found in
    let least = c.min.ensures in
    let at = c.position-position.ensures.position in
    let past : c.position-position.result - c.min.result ≡ d.position - 1 = omega (arith, least, at) in
    let last = subst (λ (n : ℕ). IsLast (ShowsAny d) 0 n found) past c.in_ok-found.ensures in
    on_ok c.go_to_event.result _ _ c.go_to_event.ensures.said (λ s. (s.0, (found, last, s.1), s.2))
