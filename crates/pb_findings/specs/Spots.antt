-- The places of a refusal.
use Rattle.std.specs.Prelude.{List, [], ◌∷◌, Option, Some, None}
use Rattle.pb_findings.specs.declared.refusal.Refusal.{Refusal}
use Rattle.pb_findings.specs.declared.spot.Spot.{Spot}
use Rattle.pb_findings.specs.declared.spots.Spots.{Spots}

-- that of its offset comes first, if it has one
abbrev pub all_spots : Option Spot → List Spot → List Spot
all_spots None others = others
all_spots (Some first) others = first ∷ others

abbrev pub spots_of : Refusal → List Spot
spots_of r = all_spots r.first r.others.items

-- the same places, if there are some, as a list
abbrev pub spots_listed : Option Spots → List Spot
spots_listed None = []
spots_listed (Some s) = s.first.now ∷ s.others.now
