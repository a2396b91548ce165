-- The code of a program, part by part.
use Rattle.std.proofs.Common.{◌≡◌, ℕ, List, ap, ◌∙◌}
use Rattle.pb_base.specs.Lines.{NameTable}
use Rattle.pb_base.specs.Steppers.{Table}
use Rattle.pb_code.specs.Code.{ProcessCode}
use Rattle.pb_code.specs.Whole.{Code}

abbrev whole : NameTable → List ℕ → Table → List ProcessCode → Code
whole names capital claims processes =
    record { names = names; capital = capital; claims = claims; processes = processes }

pub same_code : (names names' : NameTable) (capital capital' : List ℕ) (claims claims' : Table)
    (processes processes' : List ProcessCode)
    → names ≡ names' → capital ≡ capital' → claims ≡ claims' → processes ≡ processes'
    → whole names capital claims processes ≡ whole names' capital' claims' processes'
same_code names names' capital capital' claims claims' processes processes' n c t p =
    ap (λ x. whole x capital claims processes) n
    ∙ ap (λ x. whole names' x claims processes) c
    ∙ ap (λ x. whole names' capital' x processes) t
    ∙ ap (λ x. whole names' capital' claims' x) p
