use Rattle.pb_runtime_tests.proofs.strangers.strangers.Given as goal

abbrev pub ghosts-crossings : goal.ghosts-crossings
ghosts-crossings g a = record { code = a.code.now }
