-- What contracts see of the fields of a stretch.
use Rattle.std.specs.Prelude.{◌≡◌}
use Rattle.pb_verifier.specs.Verified.{VerifiedCode}
use Rattle.pb_shared.specs.Lending.{Lent, IsSilentRun}
use Rattle.pb_shared.specs.Spares.{lent_as, IsSpareOf}
use Rattle.pb_shared.specs.declared.stretch.Stretch.TheInside.{Inside}

-- what it has been lent
abbrev pub lent_of : {C : Type 0} → Inside C → Lent
lent_of s = lent_as s.spare.value

-- the stretch refers to this code, its picks are silent, and the process, as it was lent and as it is now, is
-- in a state that the code may have, with room for all operands
pub record IsSound {C : Type 0} (code : VerifiedCode) (s : Inside C) : Type 0 where
  pub refers : s.code.now ≡ code
  pub run : IsSilentRun code.code (lent_of s)
  pub spare : IsSpareOf code s.spare.value.pick.process s.spare.value
