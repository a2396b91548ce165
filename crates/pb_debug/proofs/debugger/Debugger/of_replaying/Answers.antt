use Rattle.std.proofs.Common.{length, arith}
use Rattle.std.proofs.lemmas.List.{length-map}
use Rattle.pb_history.specs.Entries.{Entry, picks_of}
use Rattle.pb_history.proofs.Positions.{leads_enabled}
use Rattle.pb_debug_positions.proofs.Walks.{interval_some}
use Rattle.pb_debug.proofs.debugger.Debugger.of_replaying.Goals as goal

pub invariant_of-result : goal.invariant_of-result
invariant_of-result c =
    let r = c.args.replaying in
    let entries = r.trace.entries in
    let h = c.requires.replays in
    let many = length-map entries (λ (e : Entry). e.pick) in
    let before = h.before in
    let after = h.after in
    record {
      verified = c.code.ensures.verified;
      enabled = leads_enabled c.args.verified.now.code entries _ h.leads;
      few = c.requires.few;
      within = omega arith;
      cheap = interval_some (length (picks_of entries)) r.interval (length (picks_of entries), omega arith, c.requires.interval);
      fit = c.requires.fit;
      spaced = (length (picks_of entries), omega arith, c.requires.interval);
      walks = record {
        enabled = leads_enabled c.args.verified.now.code entries _ h.leads;
        stands = record { machine = c.in_ok-machine.ensures.machine; state = c.in_ok-machine.ensures.opening };
      };
      checkpoints = h.checkpoints;
      enough = omega (arith, many, before);
      fewest = omega (arith, many, after);
    }

pub returns-clause-placed : goal.returns-clause-placed
returns-clause-placed c =
    let r = c.args.replaying in
    let entries = r.trace.entries in
    record {
      verified = c.code.ensures.verified;
      enabled = leads_enabled c.args.verified.now.code entries _ c.requires.replays.leads;
      few = c.requires.few;
      within = omega arith;
      cheap = interval_some (length (picks_of entries)) r.interval (length (picks_of entries), omega arith, c.requires.interval);
      spaced = (length (picks_of entries), omega arith, c.requires.interval);
      fit = c.requires.fit;
    }
