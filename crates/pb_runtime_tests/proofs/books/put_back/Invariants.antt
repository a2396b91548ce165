use Rattle.pb_runtime_tests.proofs.books.put_back.Given as goal

abbrev pub ghosts-put_back_once : goal.ghosts-put_back_once
ghosts-put_back_once g a = record { code = a.code.now }
