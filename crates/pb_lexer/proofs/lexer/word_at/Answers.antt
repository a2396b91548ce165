use Rattle.std.proofs.Common.{◌<◌, arith, refl}
use Rattle.pb_lexer.specs.Forms.{name, fixed}
use Rattle.pb_lexer.specs.Cutting.{long_name}
use Rattle.pb_lexer.proofs.Forms.{longest_word}
use Rattle.pb_lexer.proofs.LongestTokens.{built, word_slice}
use Rattle.pb_lexer.proofs.lexer.word_at.Goals as goal

pub returns-in-Some : goal.returns-in-Some
returns-in-Some c =
    let run = c.word_end-end.ensures in
    let past : c.args.at < c.word_end-end.result = omega (arith, run.within.0) in
    let longest = longest_word _ _ _ past c.requires.letter run.stops in
    (built _ _ _ _ _ past run.within.1 c.requires.line (fixed c.in-Some.ensures) longest, tt)

pub returns-then-word-gt-MAX_NAME : goal.returns-then-word-gt-MAX_NAME
returns-then-word-gt-MAX_NAME c =
    let run = c.word_end-end.ensures in
    let past : c.args.at < c.word_end-end.result = omega (arith, run.within.0) in
    let longest = longest_word _ _ _ past c.requires.letter run.stops in
    let form = name (word_slice _ _ _ past run.within.1 c.requires.letter run.each) c.in_default.ensures in
    λ ts cut. long_name cut (built _ _ _ _ _ past run.within.1 c.requires.line form longest)
    refl c.if-word-gt-MAX_NAME.true

pub returns : goal.returns
returns c =
    let run = c.word_end-end.ensures in
    let past : c.args.at < c.word_end-end.result = omega (arith, run.within.0) in
    let longest = longest_word _ _ _ past c.requires.letter run.stops in
    let form = name (word_slice _ _ _ past run.within.1 c.requires.letter run.each) c.in_default.ensures in
    (built _ _ _ _ _ past run.within.1 c.requires.line form longest, c.if-word-gt-MAX_NAME.false)
