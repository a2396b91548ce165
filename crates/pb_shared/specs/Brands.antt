-- What a type that stands for a code says before a call picks it.
use Rattle.std.specs.Prelude.{[]}
use Rattle.pb_verifier.specs.Verified.{VerifiedCode}

-- code of no process
abbrev pub no_code : VerifiedCode
no_code = record {
  code = record { names = record { processes = []; resources = [] }; capital = []; claims = []; processes = [] };
  depths = [];
}
