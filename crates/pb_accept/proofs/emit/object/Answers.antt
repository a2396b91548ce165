use Rattle.pb_accept.proofs.emit.object.Goals as goal

pub returns-in-One : goal.returns-in-One
returns-in-One c = rw c.in-One.is (rw c.verified.ensures at (c.first_object.ensures c.args.compiled.now.labels))
