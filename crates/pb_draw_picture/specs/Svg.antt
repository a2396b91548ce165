-- A picture as SVG.
use Rattle.std.specs.Prelude.{ℕ, ◌%◌, ◌*◌, ◌/◌, max, List, [], ◌++◌, codes, unwrap_or}
use Rattle.std.specs.Fmt.{decimal}
use Rattle.std.specs.List.{flat_map}
use Rattle.pb_draw_picture.specs.declared.picture.LabelKind.{LabelKind}
use Rattle.pb_draw_picture.specs.declared.picture.LabelKind.TheVariants.{Name, Again, Number, Silent, Bundle, Amount, Note, Deadlock}
use Rattle.pb_draw_picture.specs.declared.picture.RectKind.{RectKind}
use Rattle.pb_draw_picture.specs.declared.picture.RectKind.TheVariants.{Gap, Going, Short, KeptBack, Hold, Cash, Level}
use Rattle.pb_draw_picture.specs.declared.picture.TickKind.{TickKind}
use Rattle.pb_draw_picture.specs.declared.picture.TickKind.TheVariants.{Grant, Return, Print, Fault, End, Read, Assign}
use Rattle.pb_draw_picture.specs.declared.picture.Label.{Label}
use Rattle.pb_draw_picture.specs.declared.picture.Picture.{Picture}
use Rattle.pb_draw_picture.specs.declared.picture.Rect.{Rect}
use Rattle.pb_draw_picture.specs.declared.picture.Size.{Size}
use Rattle.pb_draw_picture.specs.declared.picture.Tick.{Tick}
use Rattle.pb_draw_picture.specs.declared.picture.Wait.{Wait}

-- the word for what a rectangle stands for
abbrev pub rect_word : RectKind → List ℕ
rect_word Gap = codes "gap"
rect_word Going = codes "going"
rect_word Short = codes "short"
rect_word KeptBack = codes "kept"
rect_word (Hold resource) = codes "hold"
rect_word (Cash resource) = codes "cash"
rect_word Level = codes "level"

-- the word for its colour, if it has one: that of its resource, of which there are eight
abbrev pub colour_text : RectKind → List ℕ
colour_text (Hold resource) = codes " r" ++ decimal (resource % 8)
colour_text (Cash resource) = codes " r" ++ decimal (resource % 8)
colour_text kind = []

-- the word for what a text stands for
abbrev pub label_word : LabelKind → List ℕ
label_word Name = codes "name"
label_word Again = codes "again"
label_word Number = codes "number"
label_word Silent = codes "silent"
label_word Bundle = codes "bundle"
label_word Amount = codes "amount"
label_word Note = codes "note"
label_word Deadlock = codes "deadlock"

-- the word for what a mark stands for
abbrev pub tick_word : TickKind → List ℕ
tick_word Grant = codes "grant"
tick_word Return = codes "return"
tick_word Print = codes "print"
tick_word Fault = codes "fault"
tick_word End = codes "end"
tick_word Read = codes "read"
tick_word Assign = codes "assign"

-- the outline of a mark, from its place on
abbrev pub outline : TickKind → List ℕ
outline Grant = codes "m0-6v12l7-6z"
outline Return = codes "m0-6v12l-7-6z"
outline Print = codes "m-4 0a4 4 0 1 0 8 0a4 4 0 1 0-8 0z"
outline Fault = codes "m-5-5l10 10m0-10l-10 10"
outline End = codes "m-4-4h8v8h-8z"
outline Read = codes "m-4 0l4-4l4 4l-4 4z"
outline Assign = codes "m-4 0l4-4l4 4l-4 4z"

-- a rectangle
unfoldable pub rect_shape : Rect → List ℕ
rect_shape r =
    codes "<rect class=\"" ++ rect_word r.kind ++ colour_text r.kind ++ codes "\" x=\"" ++ decimal r.x ++ codes "\" y=\"" ++ decimal r.y
    ++ codes "\" width=\"" ++ decimal r.width ++ codes "\" height=\"" ++ decimal r.height ++ codes "\"/>"

-- and its line
abbrev pub rect_text : Rect → List ℕ
rect_text r = rect_shape r ++ codes "\n"

-- the line of an arm that is kept back: why as a title, its rectangle, and the text above it
unfoldable pub wait_text : Wait → List ℕ
wait_text w =
    codes "<g class=\"wait\"><title>" ++ w.title.items ++ codes "</title>" ++ rect_shape w.rect ++ codes "<text x=\"" ++ decimal w.label_x
    ++ codes "\" y=\"" ++ decimal w.label_y ++ codes "\">" ++ w.label.items ++ codes "</text></g>\n"

-- a text
unfoldable pub label_text : Label → List ℕ
label_text l =
    codes "<text class=\"" ++ label_word l.kind ++ codes "\" x=\"" ++ decimal l.x ++ codes "\" y=\"" ++ decimal l.y
    ++ codes "\">" ++ l.text.items ++ codes "</text>\n"

-- the mark of an event: its line as a title, its outline, and the text beside it
unfoldable pub tick_text : Tick → List ℕ
tick_text t =
    codes "<g class=\"" ++ tick_word t.kind ++ codes "\"><title>" ++ t.title.items ++ codes "</title><path d=\"M"
    ++ decimal t.x ++ codes " " ++ decimal t.y ++ outline t.kind ++ codes "\"/><text x=\"" ++ decimal t.label_x
    ++ codes "\" y=\"" ++ decimal t.label_y ++ codes "\">" ++ t.label.items ++ codes "</text></g>\n"

-- what each kind of shape looks like
unfoldable pub style : List ℕ
style = codes "\">\n<title>A run, pick by pick</title>\n<style>\ntext{font:11px monospace;fill:#000}\npath{fill:#000}\n.name{font-weight:bold}\n.number,.silent,.note,.again,.wait text{fill:#555;font-size:10px}\n.amount{font-size:10px}\n.paper{fill:#fff}\n.gap{fill:#eee}\n.going{fill:#999}\n.short{fill:url(#hatch);stroke:#000;stroke-width:.5}\n.kept{fill:url(#dots);stroke:#000;stroke-width:.5}\n.hatch{stroke:#000}\n.deadlock{fill:#c00;font-weight:bold}\n.hold{stroke:#000;stroke-width:.5}\n.level{fill:#333}\n.r0{fill:#bfe1f6}\n.r1{fill:#f7dca3}\n.r2{fill:#a3dccb}\n.r3{fill:#edcbdd}\n.r4{fill:#f9f5b9}\n.r5{fill:#8fb8dc}\n.r6{fill:#f1c4a6}\n.r7{fill:#d9d9d9}\n.print path{fill:#fff;stroke:#000;stroke-width:1.5}\n.fault path{stroke:#c00;stroke-width:2.5}\n.read path{fill:#fff;stroke:#000}\n@media (prefers-color-scheme:dark){\ntext{fill:#eee}\npath{fill:#eee}\n.number,.silent,.note,.again,.wait text{fill:#aaa}\n.paper{fill:#1b1b1b}\n.gap{fill:#333}\n.going{fill:#888}\n.short,.kept{stroke:#eee}\n.hatch{stroke:#eee}\n.deadlock{fill:#f66}\n.hold{stroke:#eee}\n.level{fill:#ddd}\n.r0{fill:#1f5f86}\n.r1{fill:#7a5600}\n.r2{fill:#00604a}\n.r3{fill:#74405d}\n.r4{fill:#6b6600}\n.r5{fill:#00436a}\n.r6{fill:#7d3800}\n.r7{fill:#555}\n.print path,.read path{fill:#1b1b1b;stroke:#eee}\n.fault path{stroke:#f66}\n}\n</style>\n<defs><pattern id=\"hatch\" width=\"5\" height=\"5\" patternUnits=\"userSpaceOnUse\"><path class=\"hatch\" d=\"M0 5L5 0\"/></pattern><pattern id=\"dots\" width=\"8\" height=\"8\" patternUnits=\"userSpaceOnUse\"><path d=\"M2 4a2 2 0 1 0 4 0a2 2 0 1 0-4 0z\"/></pattern></defs>\n<rect class=\"paper\" width=\"100%\" height=\"100%\"/>\n"

-- how wide a picture is shown: a percentage of the width that is asked for, or of its own
abbrev pub shown_width : Size → Picture → ℕ
shown_width size p = unwrap_or size.width p.width * size.scale / 100

-- and how high: in proportion
abbrev pub shown_height : Size → Picture → ℕ
shown_height size p = p.height * shown_width size p / max p.width 1

-- what a picture that is shown so wide and so high begins with: that, its own size, and its style
unfoldable pub head_for : (width height : ℕ) → Picture → List ℕ
head_for width height p =
    codes "<svg xmlns=\"http://www.w3.org/2000/svg\" width=\"" ++ decimal width ++ codes "\" height=\""
    ++ decimal height ++ codes "\" viewBox=\"0 0 " ++ decimal p.width ++ codes " " ++ decimal p.height ++ style

abbrev pub head_text : Size → Picture → List ℕ
head_text size p = head_for (shown_width size p) (shown_height size p) p

-- a picture, shown at a size: a line for each shape, the rectangles first, then the lines of arms that are kept back, then the
-- texts, and then the marks of events
abbrev pub svg : Size → Picture → List ℕ
svg size p =
    head_text size p ++ flat_map rect_text p.rects.items ++ flat_map wait_text p.waits.items ++ flat_map label_text p.labels.items
    ++ flat_map tick_text p.ticks.items ++ codes "</svg>\n"
