use Rattle.std.proofs.Common.{refl}
use Rattle.pb_accept.proofs.EmissionLemmas.{has_first_text, is_beyond, is_first}
use Rattle.pb_accept.proofs.emit.first_object.Goals as goal

pub returns-then-not-fits_first_format : goal.returns-then-not-fits_first_format
returns-then-not-fits_first_format c labels =
    is_beyond c.args.verified.now.code _ c.code-code.ensures.code
    (λ fits. let e = c.fits_first_format.ensures.fits.1 fits in let n = c.if-not-fits_first_format.true in cc)

pub write_object-requires : goal.write_object-requires
write_object-requires c =
    has_first_text c.args.verified.now _ c.code-code.ensures.code c.code-code.ensures.verified
    (c.fits_first_format.ensures.fits.0 c.if-not-fits_first_format.false)

pub returns : goal.returns
returns c labels = is_first c.args.verified.now.code _ labels c.in_ok-text.text.items c.code-code.ensures.code c.in_ok-text.ensures
