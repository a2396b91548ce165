use Rattle.std.proofs.Common.{arith}
use Rattle.std.proofs.lemmas.List.{length-map}
use Rattle.pb_history.specs.Entries.{Entry, picks_of}
use Rattle.pb_debug_positions.specs.Walks.{Repeat}
use Rattle.pb_debug_positions.proofs.walker.Walker.walk_to.Goals as goal

pub rest_of_span-rest-requires : goal.rest_of_span-rest-requires
rest_of_span-rest-requires c =
    let before = c.loop-self-test.true in
    let within = c.requires.within in
    let many = length-map c.args.trace.now.entries (λ (e : Entry). e.pick) in
    omega (arith, before, within, many)

pub loop-self-preserved : goal.loop-self-preserved
loop-self-preserved c =
    let picks = picks_of c.args.trace.now.entries in
    let w = c.loop-self.self in
    let rest = c.rest_of_span-rest.result in
    let most = c.min-most.result in
    let made = c.repeat-made.result in
    let least = c.min-most.ensures in
    let le = c.repeat-made.ensures.within in
    let same : Repeat picks w.at rest.pick most = λ k lt. c.rest_of_span-rest.ensures.picks k (omega (arith, lt, least)) in
    record {
      walks = λ lending of.
          let h = c.loop-self.invariant.walks lending of in
          record { enabled = h.enabled; stands = c.repeat-made.ensures.stands lending picks w.at h.enabled same h.stands };
      before = omega (arith, least, le);
    }

pub repeat-made-requires-clause-machine : goal.repeat-made-requires-clause-machine
repeat-made-requires-clause-machine c =
    (c.requires.walks.0, (c.loop-self.invariant.walks c.requires.walks.0 c.requires.walks.1).stands.machine)
