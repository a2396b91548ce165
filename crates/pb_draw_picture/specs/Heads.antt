-- What is said above a picture of a run that ends in a deadlock.
use Rattle.std.specs.Prelude.{ℕ, ◌+◌, ◌*◌, min, max, nat_lt, Bool, cond, List, [], ◌∷◌, ◌++◌, codes, length}
use Rattle.std.specs.List.{flat_map}
use Rattle.pb_base.specs.Lines.{NameTable, name_of, pick_text}
use Rattle.pb_circles.specs.declared.link.Link.{Link}
use Rattle.pb_draw_picture.specs.declared.picture.LabelKind.TheVariants.{Deadlock}
use Rattle.pb_draw_picture.specs.Shapes.{Text}
use Rattle.pb_draw_picture.specs.declared.sizes.TheConstants.{MARGIN, RIGHT}

-- `; P.a waits for R, some of which Q holds`: the arm asks for more of R than is there
abbrev pub link_text : NameTable → Link → List ℕ
link_text names link =
    codes "; " ++ pick_text names (record { process = link.process; arm = link.arm }) ++ codes " waits for "
    ++ name_of names.resources link.resource ++ codes ", some of which " ++ name_of names.processes link.holder ++ codes " holds"

unfoldable pub deadlock_note : List ℕ
deadlock_note = codes "deadlock: no arm can go on"

-- that the run ends in a deadlock, and who waits for what in a circle
abbrev pub deadlock_text : NameTable → (circle : List Link) → List ℕ
deadlock_text names circle = deadlock_note ++ flat_map (link_text names) circle

-- what is said above a picture: that, or nothing
abbrev pub head_of : NameTable → (deadlock : Bool) → (circle : List Link) → List ℕ
head_of names deadlock circle = cond deadlock (deadlock_text names circle) []

-- it stands above the numbers of the picks
abbrev pub head_labels : List ℕ → List Text
head_labels head = cond (nat_lt 0 (length head)) (record { kind = Deadlock; x = MARGIN; y = 14; text = head } ∷ []) []

-- how wide a picture is whose time ends at a place: it has room for that time and for what is said above it, of which 1,000
-- characters at most count, and 680 pixels at least
abbrev pub width_for : (right : ℕ) → (head : List ℕ) → ℕ
width_for right head = max (max (right + RIGHT) 680) (min (length head) 1000 * 7 + 28)
