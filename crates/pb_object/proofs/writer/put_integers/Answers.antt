use Rattle.std.proofs.Common.{◌∷◌, [], codes, length}
use Rattle.std.specs.Fmt.{decimal}
use Rattle.pb_object.proofs.JoinedWords.{more_mapped}
use Rattle.pb_object.proofs.writer.put_integers.Goals as goal

pub loop-name-preserved : goal.loop-name-preserved
loop-name-preserved c =
    let word = rw c.deref.ensures.value at c.in_ok-put_word.ensures in
    more_mapped (λ name. name.items) c.args.out.now.items c.loop-name.out.items _ (codes "vars") (decimal (length
    c.args.names.now) ∷ []) c.args.names.now c.loop-name.name-index
    c.name-item.result c.loop-name-test.true c.loop-name.invariant (rw c.name-item.is at word)
