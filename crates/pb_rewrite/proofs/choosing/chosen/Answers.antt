use Rattle.pb_rewrite.proofs.choosing.chosen.Goals as goal

pub returns-then-fails : goal.returns-then-fails
returns-then-fails g c = search depth 0
