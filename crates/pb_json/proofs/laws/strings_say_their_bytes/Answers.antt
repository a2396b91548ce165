use Rattle.pb_json.proofs.Reading.{says_all}
use Rattle.pb_json.proofs.laws.strings_say_their_bytes.Goals as goal

pub returns : goal.returns
returns c = says_all
