use Rattle.pb_workers.proofs.running.run_workers.Given as goal

abbrev pub ghosts-run_branded : goal.ghosts-run_branded
ghosts-run_branded g a = record { code = a.code.now }
