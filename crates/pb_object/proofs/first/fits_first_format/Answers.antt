use Rattle.pb_code.specs.View.{code_view}
use Rattle.pb_object.proofs.SayableCode.{first_text, first_fits}
use Rattle.pb_object.proofs.first.fits_first_format.Goals as goal

pub returns : goal.returns
returns c =
    let code = code_view c.args.code.now in
    record {
      fits = c.fits_first.ensures;
      exact = λ limits pushes. (λ e. first_text code limits pushes (c.fits_first.ensures.0 e), λ h. c.fits_first.ensures.1 (first_fits code h));
    }
