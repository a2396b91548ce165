use Rattle.std.proofs.Common.{length, sym, subst, arith}
use Rattle.std.proofs.lemmas.Nat.{mod_below}
use Rattle.std.proofs.lemmas.List.{length-map}
use Rattle.pb_history.specs.Entries.{Entry, picks_of}
use Rattle.pb_debug.specs.Value.{Debugging}
use Rattle.pb_debug_positions.specs.Walks.{WalksBy}
use Rattle.pb_debug_positions.proofs.Walks.{interval_some}
use Rattle.pb_debug.proofs.debugger.Debugger.to.Goals as goal

pub invariant_of-self : goal.invariant_of-self
invariant_of-self c =
    let i = c.self.inside in
    let h = c.self.invariant in
    let w = c.in_ok-self-inside.field-0 in
    let at = c.in_ok-self-inside.ensures.at in
    let not = c.if-len-position.false in
    let len = c.len.ensures in
    let many = length-map i.trace.entries (λ (e : Entry). e.pick) in
    record {
      verified = h.verified;
      enabled = h.enabled;
      few = h.few;
      within = omega (arith, at, not, len, many);
      cheap = mod_below c.args.position i.interval (interval_some (length (picks_of i.trace.entries)) i.interval h.spaced);
      fit = h.fit;
      spaced = h.spaced;
      walks = subst (λ (d : Debugging). WalksBy d.lending d.verified d.picks w) (sym c.self.view_is) c.in_ok-self-inside.ensures.walks;
      checkpoints = h.checkpoints;
      enough = h.enough;
      fewest = h.fewest;
    }
