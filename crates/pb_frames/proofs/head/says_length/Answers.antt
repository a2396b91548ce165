use Rattle.std.proofs.Common.{◌≡◌, map, take}
use Rattle.std.proofs.lemmas.Bool.Decides.{same_from_decides}
use Rattle.std.proofs.lemmas.Slice.Eq.{bytes_eq-Decides}
use Rattle.std.specs.Char.{to_ascii_lowercase}
use Rattle.std.specs.Str.{str_eq_ignore_ascii_case}
use Rattle.pb_frames.specs.Heads.{length_name}
use Rattle.pb_frames.proofs.FieldLemmas.{says_is}
use Rattle.pb_frames.proofs.head.says_length.Goals as goal

pub returns : goal.returns
returns c =
    let begun = take c.min-name.result c.args.line.now in
    let same : c.eq_ignore_ascii_case.result ≡ str_eq_ignore_ascii_case begun length_name =
    same_from_decides _ _ c.eq_ignore_ascii_case.ensures.test
    (bytes_eq-Decides (map to_ascii_lowercase begun) (map to_ascii_lowercase length_name)) in
    says_is c.args.line.now c.min-name.result c.eq_ignore_ascii_case.result c.min-name.ensures same
