-- Whether a process can go on. No public contract cites this file.
use Rattle.std.specs.Prelude.{◌≡◌, ℕ}
use Rattle.pb_base.specs.declared.lending.Lending.{Lending}
use Rattle.pb_base.specs.declared.pick.Pick.{Pick}
use Rattle.pb_base.specs.Steppers.{State}
use Rattle.pb_code.specs.Code.{CodeProcess}
use Rattle.pb_code.specs.Reached.{CodeStaysBy}
use Rattle.pb_code.specs.Whole.{Code}

-- no pick of this process is enabled under this lending
abbrev pub IsStillAt : Lending → Code → State CodeProcess → ℕ → Type 0
IsStillAt lending code s process = (pick : Pick) → pick.process ≡ process → CodeStaysBy lending code s pick
