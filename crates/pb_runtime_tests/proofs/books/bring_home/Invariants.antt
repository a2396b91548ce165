use Rattle.pb_runtime_tests.proofs.books.bring_home.Given as goal

abbrev pub ghosts-bring_home_once : goal.ghosts-bring_home_once
ghosts-bring_home_once g a = record { code = a.code.now }
