use Rattle.std.proofs.Common.{arith}
use Rattle.std.specs.Str.Parse.{ParsesUnsigned, ExplainsUnsignedError, HasUnsignedDigitsIfOk}
use Rattle.clap.specs.Words.{found_of, rows_of}
use Rattle.pb_words.specs.Read.{HasNumber}
use Rattle.pb_words.proofs.ReadLemmas.{IfNone-of, no_number, number_read, one_number}
use Rattle.pb_words.proofs.read.number.Goals as goal

pub returns-in_err-number-clause-none : goal.returns-in_err-number-clause-none
returns-in_err-number-clause-none c =
    IfNone-of c.from_residual.result
    (λ n h. no_number (λ bs r. ParsesUnsigned 64 10 bs r × ExplainsUnsignedError 10 bs r × HasUnsignedDigitsIfOk bs r)
    (found_of c.args.matches.now) c.args.id.now n (λ t e read. read.0) c.in_err-number.ensures.value h.0 (omega (arith, h.2, c.ranges.most.fits)))

pub returns-then-number-least-clause-none : goal.returns-then-number-least-clause-none
returns-then-number-least-clause-none c n h =
    let found : HasNumber (rows_of (found_of c.args.matches.now)) c.args.id.now c.in_ok-number.number =
    number_read (λ bs r. ParsesUnsigned 64 10 bs r × ExplainsUnsignedError 10 bs r × HasUnsignedDigitsIfOk bs r)
    (found_of c.args.matches.now) c.args.id.now c.in_ok-number.number (λ t read. (read.0.0.0, read.0.1))
    c.in_ok-number.ensures.none c.in_ok-number.ensures.value in
    let same = one_number _ c.args.id.now c.in_ok-number.number n found h.0 in
    omega (arith, same, h.1, h.2, c.then-number-least.either)

pub returns-clause-some : goal.returns-clause-some
returns-clause-some c = (
  number_read (λ bs r. ParsesUnsigned 64 10 bs r × ExplainsUnsignedError 10 bs r × HasUnsignedDigitsIfOk bs r)
      (found_of c.args.matches.now) c.args.id.now c.in_ok-number.number (λ t read. (read.0.0.0, read.0.1))
      c.in_ok-number.ensures.none c.in_ok-number.ensures.value,
  c.if-number-least.false,
  c.if-most-number.false,
)
