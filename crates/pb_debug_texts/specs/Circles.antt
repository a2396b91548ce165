-- What a session says of a circular wait.
use Rattle.std.specs.Prelude.{◌≡◌, ◌⊎◌, ℕ, List, ◌++◌, codes, flat_map, Option, Some, None}
use Rattle.pb_base.specs.Lines.{NameTable, name_of, pick_text, line}
use Rattle.pb_base.specs.Steppers.{State}
use Rattle.pb_circles.specs.Circles.{IsCircle}
use Rattle.pb_circles.specs.declared.link.Link.{Link}
use Rattle.pb_code.specs.Code.{CodeProcess}
use Rattle.pb_code.specs.Whole.{Code}

-- `P.a waits R holder Q`: the arm lacks R, of which Q holds some
abbrev pub link_text : NameTable → Link → List ℕ
link_text names link = line (
    pick_text names (record { process = link.process; arm = link.arm }) ++ codes " waits " ++ name_of names.resources link.resource
    ++ codes " holder " ++ name_of names.processes link.holder)

-- a line for each link of a circle, or `no circle`
abbrev pub circle_text : NameTable → Option (List Link) → List ℕ
circle_text names None = line (codes "no circle")
circle_text names (Some circle) = flat_map (link_text names) circle

-- the lines of some circular wait, or `no circle` if there is none
abbrev pub SaysCircle : Code → State CodeProcess → List ℕ → Type 0
SaysCircle code s text =
    ((circle : List Link) × IsCircle code s circle × (text ≡ circle_text code.names (Some circle)))
    ⊎ (((circle : List Link) → IsCircle code s circle → ⊥) × (text ≡ circle_text code.names None))
