use Rattle.pb_search_engine.proofs.other.tell_other_object.Goals as goal

pub returns-clause-ok : goal.returns-clause-ok
returns-clause-ok g c = rw (c.other_words.ensures) at c.say_pieces.ensures.ok

pub returns-clause-err : goal.returns-clause-err
returns-clause-err g c = rw (c.other_words.ensures) at c.say_pieces.ensures.err
