use Rattle.pb_page.proofs.run.walker_at.Goals as goal

pub walk_to-requires-clause-walks : goal.walk_to-requires-clause-walks
walk_to-requires-clause-walks c = (
  c.args.lending,
  record {
    enabled = c.requires.enabled;
    stands = record { machine = c.in_ok-machine.ensures.machine; state = c.in_ok-machine.ensures.opening };
  },
)

pub returns-clause-walks : goal.returns-clause-walks
returns-clause-walks c = c.walk_to.ensures.walks c.args.lending (record {
  enabled = c.requires.enabled;
  stands = record { machine = c.in_ok-machine.ensures.machine; state = c.in_ok-machine.ensures.opening };
})
