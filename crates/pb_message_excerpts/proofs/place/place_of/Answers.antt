use Rattle.pb_message_excerpts.proofs.place.place_of.Goals as goal

pub returns : goal.returns
returns c = search
