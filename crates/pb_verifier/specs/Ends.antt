-- Ends at which nothing is left. No public contract cites this file.
use Rattle.std.specs.Prelude.{◌≡◌, Option, Some}
use Rattle.pb_code.specs.Code.{Instr, End}
use Rattle.pb_verifier.specs.declared.depths.Depth.{Depth}
use Rattle.pb_verifier.specs.declared.holdings.Holding.{Holding}

-- if this is an end, what is known of its place is that nothing is left
abbrev pub IsClearAt : Instr → Option Depth → Option Holding → Type 0
IsClearAt i depth holding =
    i ≡ End → ((d : Depth) → depth ≡ Some d → d.count ≡ 0) × ((h : Holding) → holding ≡ Some h → h.count ≡ 0)
