use Rattle.pb_search_engine.proofs.other.tell_lacks_object.Goals as goal

pub returns-in-Has-clause-ok : goal.returns-in-Has-clause-ok
returns-in-Has-clause-ok g c = rw c.in-Has.is (rw (c.part_words.ensures) at c.say_pieces.ensures.ok)

pub returns-in-Has-clause-err : goal.returns-in-Has-clause-err
returns-in-Has-clause-err g c = rw c.in-Has.is (rw (c.part_words.ensures) at c.say_pieces.ensures.err)
