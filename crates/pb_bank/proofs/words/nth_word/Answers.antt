use Rattle.std.proofs.Common.{◌≡◌, ◌-◌, [], get_or, ap, arith}
use Rattle.pb_bank.specs.Words.{words_of}
use Rattle.pb_bank.proofs.words.nth_word.Goals as goal

pub loop-k-init : goal.loop-k-init
loop-k-init c =
    let whole : c.args.n - 0 ≡ c.args.n = omega arith in
    ap (λ m. get_or (words_of c.args.text.now) m []) whole
